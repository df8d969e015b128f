-- Containment, by the rows of a store.
use Rattle.std.proofs.Common.{ℕ, ◌++◌, List, [], Contains, refl, sym, subst}
use Rattle.ucq_terms.specs.declared.Term.{Term}
use Rattle.ucq_terms.specs.declared.Term.TheVariants.{Constant, Variable}
use Rattle.ucq_terms.specs.Syntax.{Rule, Query, Problem, IsSafe}
use Rattle.ucq_terms.specs.Homomorphism.{MapsInto, Covers}
use Rattle.ucq_terms.specs.Chase.{IsKnownIn, IsChaseAnswer}
use Rattle.ucq_terms.specs.Union.{IsSound}
use Rattle.ucq_terms.proofs.Lists.{All-from_contains, Any-contains}
use Rattle.ucq_terms.proofs.Maps.{MapsInto-trans, Covers-refl}
use Rattle.ucq_chase.specs.Laws.{SoundIsCarried}
use Rattle.ucq_chase.proofs.Steps.{IsChaseSequence-append}
use Rattle.ucq_store.specs.Store.{Store, IsRow, query_of, IsFinished}
use Rattle.ucq_store.specs.Lawful.{IsLawful}
use Rattle.ucq_store.specs.Laws.{FinishedIsExact}
use Rattle.ucq_store.proofs.Live.{member_is_live, live_is_row}
use Rattle.ucq_within.specs.Containment.{asked_under, IsContained}

-- a query contains each that it covers
pub covered_is_contained : (rules : List Rule) (a b : Query) → Covers a b → IsContained rules b a
covered_is_contained rules a b c = record {
  answers = λ facts tuple x. record {
    known = x.known;
    steps = x.steps;
    last = x.last;
    chase = x.chase;
    maps = MapsInto-trans a b x.last tuple c x.maps;
  };
}

pub contained_trans : (rules : List Rule) (a b c : Query) → IsContained rules a b → IsContained rules b c → IsContained rules a c
contained_trans rules a b c h k = record { answers = λ facts tuple x. k.answers facts tuple (h.answers facts tuple x) }

pub contained_refl : (rules : List Rule) (a : Query) → IsContained rules a a
contained_refl rules a = record { answers = λ facts tuple x. x }

module _ (carried : SoundIsCarried) where
  -- what a sound query covers is contained in the problem's
  sound_contains : (p : Problem) (sound_one q : Query) → IsSound p sound_one → Covers sound_one q → IsContained p.rules q p.query
  sound_contains p sound_one q sound c = record {
    answers = λ facts tuple x.
        let more : IsChaseAnswer p x.last tuple = carried p sound_one x.last tuple sound (MapsInto-trans sound_one q x.last tuple c x.maps) in
        record {
          known = x.known;
          steps = x.steps ++ more.steps;
          last = more.last;
          chase = IsChaseSequence-append p.rules facts x.last more.last x.steps more.steps x.chase more.chase;
          maps = more.maps;
        };
  }

  -- and so is what a row covers
  pub row_contains : (s : Store) → IsLawful s → (q : Query) (row : ℕ) → IsRow s row → Covers (query_of s row) q → IsContained s.problem.rules q s.problem.query
  row_contains s lawful q row here c = sound_contains s.problem (query_of s row) q (lawful.rows_are_sound_cores.each row here).sound c

-- a safe query's answer list is an answer over its own atoms
own_answer : (rules : List Rule) (q : Query) → IsSafe q → IsChaseAnswer (asked_under rules q) q.atoms q.answers
own_answer rules q safe = record {
  known = All-from_contains (IsKnownIn q.atoms) q.answers known;
  steps = [];
  last = q.atoms;
  chase = refl;
  maps = Covers-refl q;
}
  where
    known : (t : Term) → Contains q.answers t → IsKnownIn q.atoms t
    known (Constant c) i = tt
    known (Variable v) i = safe.answers v i

-- some row of a finished store covers each query that is contained in its own
pub contained_is_covered : FinishedIsExact → (s : Store) → IsLawful s → IsFinished s → (q : Query) → IsSafe q → IsContained s.problem.rules q s.problem.query →
    (row : ℕ) × IsRow s row × Covers (query_of s row) q
contained_is_covered exact s lawful finished q safe c =
    let answer : IsChaseAnswer s.problem q.atoms q.answers = c.answers q.atoms q.answers (own_answer s.problem.rules q safe) in
    let found = (exact s lawful finished).complete.finds q.atoms q.answers answer in
    let (member, i, maps) = Any-contains (λ (m : Query). MapsInto m q.atoms q.answers) _ found in
    let (row, live, e) = member_is_live s.rows member i in
    (row, live_is_row s.rows row live, subst (λ (m : Query). Covers m q) (sym e) maps)
