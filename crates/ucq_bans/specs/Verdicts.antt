-- What the rows of a Boolean query's store tell of facts.
use Rattle.std.specs.Prelude.{ℕ, ◌<◌, List, []}
use Rattle.ucq_terms.specs.Syntax.{Atom}
use Rattle.ucq_terms.specs.Homomorphism.{MapsInto}
use Rattle.ucq_store.specs.Store.{Store, IsRow, query_of, IsCut, IsFinished}
use Rattle.ucq_bans.specs.Conflicts.{Violates}
use Rattle.ucq_bans.specs.declared.Verdict.{Verdict}
use Rattle.ucq_bans.specs.declared.Verdict.TheVariants.{Violated, Consistent, Open}

-- the row, live or dead, maps into the facts with the empty tuple
abbrev pub RowMaps : Store → ℕ → List Atom → Type 0
RowMaps s row facts = MapsInto (query_of s row) facts []

-- the first row that does
pub record IsFirstMapped (s : Store) (facts : List Atom) (row : ℕ) : Type 0 where
  pub row_of : IsRow s row
  pub maps : RowMaps s row facts
  pub first : (earlier : ℕ) → earlier < row → ¬ RowMaps s earlier facts

abbrev pub NoRowMaps : Store → List Atom → Type 0
NoRowMaps s facts = (row : ℕ) → IsRow s row → ¬ RowMaps s row facts

-- The verdict on the facts: by the first row that maps into them, that they violate the store's query; where no row does,
-- that they don't, of a finished store, and nothing, of a cut one.
abbrev pub Judges : Store → List Atom → Verdict → Type 0
Judges s facts (Violated row) = IsFirstMapped s facts row × Violates s.problem facts
Judges s facts Consistent = IsFinished s × NoRowMaps s facts × ¬ Violates s.problem facts
Judges s facts Open = IsCut s × NoRowMaps s facts
