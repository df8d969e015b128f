-- The candidates of a report are taken one after another.
use Rattle.std.proofs.Common.{◌≡◌, ℕ, ◌+◌, ◌<◌, ◌≤◌, refl, sym, ap, ◌∙◌, List, [], ◌∷◌, ◌++◌, Option, None, Some, length, map, get_or, All, append_assoc, arith, subst}
use Rattle.std.proofs.Math.ListN.{set}
use Rattle.std.proofs.Math.Seq.{set-append_seam}
use Rattle.std.proofs.lemmas.List.{get_or_at, length-append, length-map, map-append, append-nil}
use Rattle.std.proofs.lemmas.List.Elements.{All-contains, All-nil, Contains-append_right}
use Rattle.ucq_terms.specs.Syntax.{Query, Problem}
use Rattle.ucq_terms.proofs.Lists.{Contains-first}
use Rattle.ucq_antichain.specs.Rows.{SomeLiveCovers}
use Rattle.ucq_store.specs.declared.Mark.{Mark}
use Rattle.ucq_store.specs.Store.{Store, IsRow, query_of, depth_of}
use Rattle.ucq_store.specs.Lawful.{IsCoreOfOneStep, IsLeftOver, IsLawful}
use Rattle.ucq_store.specs.Changes.{IsExhausted, IsWhole, Takes}
use Rattle.ucq_store.specs.Candidates.{Candidate, used, HoldsCore, HoldCores}
use Rattle.ucq_store.specs.declared.reports.Found.TheVariants.{Whole}
use Rattle.ucq_store.specs.Reports.{Report, AreFound, IsFound}
use Rattle.ucq_store.specs.Calls.{IsAbout, IsOffered, AreOffered, DoesTake, AreTaken, IsFilled}
use Rattle.ucq_store.proofs.Holding.{IsNext, held_core, hold_push, length_hold, held_cores, next_held}
use Rattle.ucq_store.proofs.Taking.{IsGrown, AreCovered, not_grown, taken, exhausted, takes_append, length-takes}

-- the candidates before a place are taken, and the others are as they were
pub record AreTakenBefore (s : Store) (row : ℕ) (before : List Candidate) (now : Store) (candidates : List Candidate) (place : ℕ) : Type 0 where
  pub earlier : List Candidate
  pub later : List Candidate
  pub were : before ≡ earlier ++ later
  pub seen : List Query
  pub rest : List Query
  pub held_seen : HoldCores earlier seen
  pub held_rest : HoldCores later rest
  pub places : List (Option ℕ)
  pub are : candidates ≡ map used places ++ later
  pub count : length places ≡ place
  pub takes : Takes s seen places now
  pub derived : All (IsCoreOfOneStep s.problem.rules (query_of s row)) (seen ++ rest)

empty_from : {X : Type 0} (xs : List X) → length xs ≡ 0 → xs ≡ []
empty_from [] e = refl
empty_from (x ∷ xs) e = absurd (omega arith)

module _ (s : Store) (row : ℕ) (before : List Candidate) (offered : AreOffered s row before) where
  pub none_taken : AreTakenBefore s row before s before 0
  none_taken = record {
    earlier = [];
    later = before;
    were = refl;
    seen = [];
    rest = offered.cores;
    held_seen = tt;
    held_rest = offered.fresh;
    places = [];
    are = refl;
    count = refl;
    takes = refl;
    derived = offered.derived;
  }

  -- what taking cores keeps of the store, and that a live row covers each
  pub grown_by : (now : Store) (cores : List Query) (places : List (Option ℕ)) → Takes s cores places now → IsGrown s now row × AreCovered now cores
  grown_by now cores places takes =
      taken s s now row [] cores places takes (not_grown s row offered.uncut offered.lawful.marks_fit offered.row_of) (All-nil (SomeLiveCovers s.rows))

  module _ (now : Store) (cs : List Candidate) (place : ℕ) (h : AreTakenBefore s row before now cs place) where
    size : length cs ≡ place + length h.later
    size =
        ap (λ (xs : List Candidate). length xs) h.are ∙
        (length-append (map used h.places) h.later ∙
        (let a : length (map used h.places) ≡ length h.places = length-map h.places used in
        let c : length h.places ≡ place = h.count in
        omega arith))

    pub next : place < length cs → IsNext h.later h.rest
    next inside = next_held h.later h.rest h.held_rest (omega (arith, size))

    module _ (n : IsNext h.later h.rest) where
      here : cs ≡ map used h.places ++ n.at ∷ n.later
      here = h.are ∙ ap (λ (xs : List Candidate). map used h.places ++ xs) n.candidates_are

      length_used : length (map used h.places) ≡ place
      length_used = length-map h.places used ∙ h.count

      pub read_next : (d : Candidate) → get_or cs place d ≡ n.at
      read_next d =
          subst (λ (xs : List Candidate). get_or xs place d ≡ n.at) (sym here) (get_or_at (map used h.places) n.at n.later d place length_used)

      written : (c : Candidate) → set cs place c ≡ map used h.places ++ c ∷ n.later
      written c =
          ap (λ (xs : List Candidate). set xs place c) here ∙
          subst (λ (k : ℕ). set (map used h.places ++ n.at ∷ n.later) k c ≡ map used h.places ++ c ∷ n.later) length_used
          (set-append_seam (map used h.places) n.at n.later c)

      pub offered_here : (read : Candidate) → read ≡ n.at → IsOffered now read
      offered_here read is =
          let (grown, covered) = grown_by now h.seen h.places h.takes in
          let all : All (IsCoreOfOneStep s.problem.rules (query_of s row)) (h.seen ++ n.core ∷ n.rest) =
          subst (λ (cores : List Query). All (IsCoreOfOneStep s.problem.rules (query_of s row)) (h.seen ++ cores)) n.cores_are h.derived in
          let derived : IsCoreOfOneStep s.problem.rules (query_of s row) n.core =
          All-contains (IsCoreOfOneStep s.problem.rules (query_of s row)) (h.seen ++ n.core ∷ n.rest) n.core all
          (Contains-append_right h.seen (n.core ∷ n.rest) n.core (Contains-first n.core n.rest)) in
          record {
            uncut = grown.uncut;
            row = row;
            row_of = grown.row_of;
            row_depth = ap (λ (m : Mark). m.depth) grown.mark ∙ offered.row_depth ∙ sym grown.level;
            core = n.core;
            fresh = subst (λ (c : Candidate). HoldsCore c n.core) (sym is) n.holds;
            derived =
                subst (λ (p : Problem). IsCoreOfOneStep p.rules (query_of now row) n.core) (sym grown.problem)
                (subst (λ (q : Query). IsCoreOfOneStep s.problem.rules q n.core) (sym grown.query) derived);
          }

      split_cores : h.seen ++ h.rest ≡ (h.seen ++ n.core ∷ []) ++ n.rest
      split_cores = ap (λ (cores : List Query). h.seen ++ cores) n.cores_are ∙ sym (append_assoc h.seen (n.core ∷ []) n.rest)

      split_here : before ≡ h.earlier ++ n.at ∷ n.later
      split_here = h.were ∙ ap (λ (xs : List Candidate). h.earlier ++ xs) n.candidates_are

      pub one_more_taken : (read c : Candidate) (after : Store) → read ≡ n.at → DoesTake now read None after c →
          AreTakenBefore s row before after (set cs place c) (place + 1)
      one_more_taken read c after is (other, fresh, (new, left, takes)) =
          let same : other ≡ n.core = held_core n.at other n.core (subst (λ (x : Candidate). HoldsCore x other) is fresh) n.holds in
          let one : Takes now (n.core ∷ []) (new ∷ []) after = subst (λ (q : Query). Takes now (q ∷ []) (new ∷ []) after) same takes in
          record {
            earlier = h.earlier ++ n.at ∷ [];
            later = n.later;
            were = split_here ∙ sym (append_assoc h.earlier (n.at ∷ []) n.later);
            seen = h.seen ++ n.core ∷ [];
            rest = n.rest;
            held_seen = hold_push h.earlier h.seen n.at n.core h.held_seen n.holds;
            held_rest = n.hold;
            places = h.places ++ new ∷ [];
            are =
                written c ∙
                (ap (λ (x : Candidate). map used h.places ++ x ∷ n.later) left ∙
                (sym (append_assoc (map used h.places) (used new ∷ []) n.later) ∙
                ap (λ (xs : List Candidate). xs ++ n.later) (sym (map-append used h.places (new ∷ [])))));
            count = length-append h.places (new ∷ []) ∙ ap (λ (k : ℕ). k + 1) h.count;
            takes = takes_append s now after h.seen (n.core ∷ []) h.places (new ∷ []) h.takes one;
            derived = subst (λ (cores : List Query). All (IsCoreOfOneStep s.problem.rules (query_of s row)) cores) split_cores h.derived;
          }

      pub then_left : (read c : Candidate) (after : Store) (left : Query) → read ≡ n.at → DoesTake now read (Some left) after c →
          IsFilled s before left after (set cs place c)
      then_left read c after left is (fresh, taken, same, over) = record {
        earlier = h.earlier;
        at = n.at;
        later = n.later;
        were = split_here;
        seen = h.seen;
        rest = n.rest;
        held_seen = h.held_seen;
        held_left = subst (λ (x : Candidate). HoldsCore x left) is fresh;
        held_rest = n.hold;
        places = h.places;
        takes = subst (λ (t : Store). Takes s h.seen h.places t) (sym same) h.takes;
        left_over = subst (λ (t : Store). IsLeftOver t.problem t.budget t.rows left) (sym same) over;
        are = written c ∙ ap (λ (x : Candidate). map used h.places ++ x ∷ n.later) taken;
      }

    pub all_taken : length before ≤ place → AreTaken s before now cs
    all_taken all =
        let total : length before ≡ length h.earlier + length h.later = ap (λ (xs : List Candidate). length xs) h.were ∙ length-append h.earlier h.later in
        let seen : length h.earlier ≡ length h.seen = length_hold h.earlier h.seen h.held_seen in
        let count : length h.places ≡ length h.seen = length-takes s now h.seen h.places h.takes in
        let at : length h.places ≡ place = h.count in
        let none : h.later ≡ [] = empty_from h.later (omega arith) in
        let were : before ≡ h.earlier = h.were ∙ (ap (λ (xs : List Candidate). h.earlier ++ xs) none ∙ append-nil h.earlier) in
        record {
          cores = h.seen;
          were = subst (λ (xs : List Candidate). HoldCores xs h.seen) (sym were) h.held_seen;
          places = h.places;
          takes = h.takes;
          are = h.are ∙ (ap (λ (xs : List Candidate). map used h.places ++ xs) none ∙ append-nil (map used h.places));
        }

-- the row may be Done
pub record CanFinish (s : Store) (row : ℕ) : Type 0 where
  pub row_of : IsRow s row
  pub row_depth : depth_of s row ≡ s.level
  pub exhausted : IsExhausted s row

-- the facts of an unspent report on a row
module _ (s : Store) (row : ℕ) (r : Report) (candidates : List Candidate) (lawful : IsLawful s) (uncut : s.cut ≡ None) (about : IsAbout s row r)
    (at : depth_of s row ≡ s.level) (whole : r.found ≡ Whole candidates) (facts : IsFound r.problem.rules r.query r.found) where
  are_found : AreFound s.problem.rules (query_of s row) candidates
  are_found =
      subst (λ (p : Problem). AreFound p.rules (query_of s row) candidates) (sym about.problem)
      (subst (λ (q : Query). AreFound r.problem.rules q candidates) (sym about.query) (subst (IsFound r.problem.rules r.query) whole facts))

  offered_by : AreOffered s row candidates
  offered_by = record {
    lawful = lawful;
    uncut = uncut;
    row_of = about.row_of;
    row_depth = at;
    cores = are_found.cores;
    fresh = are_found.fresh;
    derived = are_found.derived;
  }

  pub can_finish : (after : Store) (then : List Candidate) → AreTaken s candidates after then → CanFinish after row
  can_finish after then t =
      let (grown, covered) = grown_by s row candidates offered_by after t.cores t.places t.takes in
      let all : IsWhole s.problem.rules (query_of s row) t.cores =
      subst (IsWhole s.problem.rules (query_of s row)) (held_cores candidates are_found.cores t.cores are_found.fresh t.were) are_found.whole in
      record {
        row_of = grown.row_of;
        row_depth = ap (λ (m : Mark). m.depth) grown.mark ∙ (at ∙ sym grown.level);
        exhausted = exhausted s after row t.cores grown covered all;
      }
