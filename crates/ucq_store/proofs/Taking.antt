-- The cores of a report are taken one after another.
use Rattle.std.proofs.Common.{◌≡◌, ℕ, ◌+◌, ◌<◌, refl, sym, ap, ◌∙◌, List, [], ◌∷◌, ◌++◌, Option, None, Some, length, All, append_assoc, arith, subst}
use Rattle.std.proofs.lemmas.List.{get_or_append_left, length-append, append-nil}
use Rattle.std.proofs.lemmas.List.Elements.{All-contains, All-nil, All-push, All-weaker}
use Rattle.ucq_terms.specs.Syntax.{Query, Problem}
use Rattle.ucq_terms.specs.Rewriting.{IsOneStep}
use Rattle.ucq_store.specs.declared.RowState.TheVariants.{Waiting}
use Rattle.ucq_antichain.specs.declared.Row.{Row}
use Rattle.ucq_antichain.specs.Rows.{SomeLiveCovers, IsAdded}
use Rattle.ucq_store.specs.declared.Mark.{Mark}
use Rattle.ucq_store.specs.Store.{mark_at, Store, IsRow, query_of}
use Rattle.ucq_store.specs.Changes.{with_row, IsExhausted, IsWhole, Takes}
use Rattle.ucq_store.specs.Laws.{TakenAreCovered}
use Rattle.ucq_store.proofs.Live.{live_covers_on}
use Rattle.ucq_store.proofs.Added.{still_covered, new_is_covered}

-- What taking cores keeps of the store and of a row.
pub record IsGrown (s now : Store) (row : ℕ) : Type 0 where
  pub problem : now.problem ≡ s.problem
  pub budget : now.budget ≡ s.budget
  pub level : now.level ≡ s.level
  pub claims : now.claims ≡ s.claims
  pub uncut : now.cut ≡ None
  pub fit : length now.marks ≡ length now.rows
  pub row_of : IsRow now row
  pub mark : mark_at now.marks row ≡ mark_at s.marks row
  pub query : query_of now row ≡ query_of s row

abbrev pub AreCovered : Store → List Query → Type 0
AreCovered now cores = All (SomeLiveCovers now.rows) cores

pub not_grown : (s : Store) (row : ℕ) → s.cut ≡ None → length s.marks ≡ length s.rows → IsRow s row → IsGrown s s row
not_grown s row uncut fit l = record {
  problem = refl;
  budget = refl;
  level = refl;
  claims = refl;
  uncut = uncut;
  fit = fit;
  row_of = l;
  mark = refl;
  query = refl;
}

-- a core that no live row covers is added
grown_again : (s now : Store) (row : ℕ) (core : Query) (rows : List Row) → IsGrown s now row → IsAdded core now.rows rows → IsGrown s (with_row now rows) row
grown_again s now row core rows grown added =
    let mark : Mark = record { depth = now.level + 1; state = Waiting } in
    let one_more : length rows ≡ length now.rows + 1 = added.one_more in
    let l : row < length now.rows = grown.row_of in
    record {
      problem = grown.problem;
      budget = grown.budget;
      level = grown.level;
      claims = grown.claims;
      uncut = grown.uncut;
      fit = length-append now.marks (mark ∷ []) ∙ ap (λ (n : ℕ). n + 1) grown.fit ∙ sym added.one_more;
      row_of = omega arith;
      mark = get_or_append_left now.marks (mark ∷ []) (record { depth = 0; state = Waiting }) row (subst (λ (n : ℕ). row < n) (sym grown.fit) l) ∙ grown.mark;
      query = added.earlier_query row l ∙ grown.query;
    }

-- and the cores seen before stay covered
covered_again : (now : Store) (cores : List Query) (core : Query) (rows : List Row) → IsAdded core now.rows rows → AreCovered now cores →
    AreCovered (with_row now rows) (cores ++ core ∷ [])
covered_again now cores core rows added covered =
    All-push (SomeLiveCovers rows) cores core
    (All-weaker (SomeLiveCovers now.rows) (SomeLiveCovers rows) (still_covered core now.rows rows added) cores covered)
    (new_is_covered core now.rows rows added)

-- where the cores of a whole report are covered, each rewriting of the row is
pub exhausted : (s now : Store) (row : ℕ) (cores : List Query) → IsGrown s now row → AreCovered now cores → IsWhole s.problem.rules (query_of s row) cores →
    IsExhausted now row
exhausted s now row cores grown covered whole = record {
  covered = λ result step.
      let there : IsOneStep s.problem.rules (query_of s row) result =
      subst (λ (q : Query). IsOneStep s.problem.rules q result) grown.query
      (subst (λ (p : Problem). IsOneStep p.rules (query_of now row) result) grown.problem step) in
      let (k, core, n, e, covers) = whole.covered result there in
      live_covers_on now.rows core result (All-contains (SomeLiveCovers now.rows) cores core covered (k, n, e)) covers;
}

pub taken : (s now after : Store) (row : ℕ) (seen rest : List Query) (places : List (Option ℕ)) → Takes now rest places after → IsGrown s now row →
    AreCovered now seen → IsGrown s after row × AreCovered after (seen ++ rest)
taken s now after row seen [] [] same grown covered =
    subst (λ (a : Store). IsGrown s a row × AreCovered a (seen ++ [])) (sym same) (grown, subst (AreCovered now) (sym (append-nil seen)) covered)
taken s now after row seen [] (place ∷ places) bad grown covered = absurd bad
taken s now after row seen (core ∷ rest) [] bad grown covered = absurd bad
taken s now after row seen (core ∷ rest) (None ∷ places) (live, takes) grown covered =
    subst (λ (cores : List Query). IsGrown s after row × AreCovered after cores) (append_assoc seen (core ∷ []) rest)
    (taken s now after row (seen ++ core ∷ []) rest places takes grown (All-push (SomeLiveCovers now.rows) seen core covered live))
taken s now after row seen (core ∷ rest) (Some new ∷ places) (at, (rows, adds, takes)) grown covered =
    subst (λ (cores : List Query). IsGrown s after row × AreCovered after cores) (append_assoc seen (core ∷ []) rest)
    (taken s (with_row now rows) after row (seen ++ core ∷ []) rest places takes (grown_again s now row core rows grown adds.added)
    (covered_again now seen core rows adds.added covered))

-- cores that were taken one after another, with more after them
pub takes_append : (s mid after : Store) (seen rest : List Query) (early late : List (Option ℕ)) → Takes s seen early mid → Takes mid rest late after →
    Takes s (seen ++ rest) (early ++ late) after
takes_append s mid after [] rest [] late same more = subst (λ (a : Store). Takes a rest late after) same more
takes_append s mid after [] rest (place ∷ early) late bad more = absurd bad
takes_append s mid after (core ∷ seen) rest [] late bad more = absurd bad
takes_append s mid after (core ∷ seen) rest (None ∷ early) late (live, takes) more = (live, takes_append s mid after seen rest early late takes more)
takes_append s mid after (core ∷ seen) rest (Some new ∷ early) late (at, (rows, adds, takes)) more =
    (at, (rows, adds, takes_append (with_row s rows) mid after seen rest early late takes more))

-- each core has its place
pub length-takes : (s after : Store) (cores : List Query) (places : List (Option ℕ)) → Takes s cores places after → length places ≡ length cores
length-takes s after [] [] same = refl
length-takes s after [] (place ∷ places) bad = absurd bad
length-takes s after (core ∷ rest) [] bad = absurd bad
length-takes s after (core ∷ rest) (None ∷ places) (live, takes) = let e = length-takes s after rest places takes in omega arith
length-takes s after (core ∷ rest) (Some new ∷ places) (at, (rows, adds, takes)) = let e = length-takes (with_row s rows) after rest places takes in omega arith

pub taken_are_covered : TakenAreCovered
taken_are_covered s after cores places law uncut takes =
    (taken s s after 0 [] cores places takes (not_grown s 0 uncut law.marks_fit law.rows_are_sound_cores.some) (All-nil (SomeLiveCovers s.rows))).1
