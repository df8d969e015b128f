-- The laws of constraints.
use Rattle.std.specs.Prelude.{◌≡◌, ℕ, ◌↔◌, List, [], All, Any, Contains}
use Rattle.ucq_terms.specs.Syntax.{Atom, HasEachOnce}
use Rattle.ucq_store.specs.Store.{Store, IsRow, IsFinished}
use Rattle.ucq_store.specs.Lawful.{IsLawful}
use Rattle.ucq_bans.specs.Conflicts.{Violates, IsFactSet, AreConflicts, facts_at}
use Rattle.ucq_bans.specs.Verdicts.{RowMaps, NoRowMaps}

-- facts into which a row maps violate the store's Boolean query, whether the store is finished or not
abbrev pub MappedRowsViolate : Type 0
MappedRowsViolate =
    (s : Store) (facts : List Atom) (row : ℕ) →
    IsLawful s →
    s.problem.query.answers ≡ [] →
    IsRow s row →
    RowMaps s row facts →
    Violates s.problem facts

-- facts into which no row of a finished store maps don't violate its query
abbrev pub NoViolationWithoutRow : Type 0
NoViolationWithoutRow =
    (s : Store) (facts : List Atom) →
    IsLawful s →
    IsFinished s →
    NoRowMaps s facts →
    ¬ Violates s.problem facts

-- a set of facts violates the query of a finished store exactly where it holds all facts of some conflict
abbrev pub ViolatingSetsHoldConflicts : Type 0
ViolatingSetsHoldConflicts =
    (s : Store) (facts : List Atom) (conflicts : List (List ℕ)) (places : List ℕ) →
    IsLawful s →
    IsFinished s →
    s.problem.query.answers ≡ [] →
    HasEachOnce facts →
    AreConflicts s.problem facts conflicts →
    IsFactSet facts places →
    Violates s.problem (facts_at facts places) ↔ Any (λ conflict. All (Contains places) conflict) conflicts
