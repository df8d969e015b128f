-- What a store tells of queries, as it is found.
use Rattle.std.specs.Prelude.{◌≡◌, ◌++◌, ℕ, Bool, true, false, List}
use Rattle.ucq_terms.specs.Syntax.{Query}
use Rattle.ucq_store.specs.Store.{Store}
use Rattle.ucq_within.specs.declared.Within.{Within}
use Rattle.ucq_within.specs.declared.Within.TheVariants as within
use Rattle.ucq_within.specs.Containment.{TellsWithin}
use Rattle.ucq_within.specs.Minimal.{IsMinimised}
use Rattle.ucq_print.specs.Texts.{cut_lines, lines_text}
use Rattle.ucq_print.specs.Compared.{rule_line}
use Rattle.ucq_print.specs.declared.compared.Judged.TheVariants as judged
use Rattle.ucq_print.specs.declared.compared.Told.{Told}
use Rattle.ucq_print.specs.declared.compared.Told.TheVariants.{Yes, No, Open}
use Rattle.ucq_reader.specs.declared.input.Asked.{Asked}
use Rattle.ucq_run.specs.declared.compared.Compared.{Compared}
use Rattle.ucq_run.specs.Compared.{AreComparisons, others}

-- what a line says of it
abbrev pub told_of : Within → Told
told_of (within.Yes row) = Yes
told_of within.No = No
told_of within.Open = Open

-- the store tells this of the query
abbrev pub TellsBy : Store → Query → Told → Type 0
TellsBy s q told = (w : Within) × TellsWithin s q w × (told ≡ told_of w)

-- what it tells of the other queries, and its query without needless atoms
pub record IsComparedBy (s : Store) (number : ℕ) (queries : List Asked) (c : Compared) : Type 0 where
  pub told : AreComparisons (TellsBy s) (others number queries) c.told.items
  pub minimal : IsMinimised s c.minimal

-- nothing is told
abbrev pub is_open : Within → Bool
is_open (within.Yes row) = false
is_open within.No = false
is_open within.Open = true

-- what is said of the rule of the number, by what the store of its head tells
abbrev pub judged_text : List (List ℕ) → ℕ → Within → Store → List ℕ
judged_text names number (within.Yes row) s = rule_line number judged.Follows
judged_text names number within.No s = rule_line number judged.Needed
judged_text names number within.Open s = rule_line number judged.Open ++ lines_text (cut_lines names s)
