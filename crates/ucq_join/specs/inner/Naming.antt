-- The names that labels of classes give.
use Rattle.std.specs.Prelude.{◌≡◌, ◌<◌, ◌≤◌, ℕ, List, length, if◌then◌else◌, nat_lt, slice_index_or}
use Rattle.ucq_partition.specs.Partition.{label_of}
use Rattle.ucq_terms.specs.declared.Term.{Term}
use Rattle.ucq_terms.specs.declared.Term.TheVariants.{Constant, Variable}
use Rattle.ucq_classes.specs.Numbers.{first, IsNumbering}
use Rattle.ucq_classes.specs.Classes.{Labels, IsLabelled}
use Rattle.ucq_join.specs.Names.{Named}
use Rattle.ucq_join.specs.inner.Copies.{HasCopyWidth}

-- the constant with the label as its number, or else a variable
abbrev pub name_by : List ℕ → ℕ → Term
name_by constants label = if nat_lt label (length constants) then Constant (slice_index_or constants label 0) else Variable label

-- the names of the first numbers by the labels
pub record AreNames (constants labels : List ℕ) (size : ℕ) (names : List Term) : Type 0 where
  pub count : length names ≡ size
  pub each : (k : ℕ) (d : Term) → k < size → slice_index_or names k d ≡ name_by constants (label_of labels k)

-- the set of these members is named by the labels, where each has a copy of one width
pub record IsNamed (c : Labels) (chosen : List ℕ) (j : Named) : Type 0 where
  pub members : j.members ≡ chosen
  pub names : AreNames c.numbers.constants c.labels (first c.numbers (length chosen)) j.names
  pub constants : j.constants ≡ length c.numbers.constants
  pub variables : j.variables ≡ c.numbers.variables
  pub width : HasCopyWidth c.numbers j.width
  pub within : length chosen ≤ length c.numbers.widths
  pub proper : IsNumbering c.numbers
  pub whole : IsLabelled c
