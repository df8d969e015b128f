-- Tuples beside their texts.
use Rattle.std.specs.Prelude.{◌≡◌, ℕ, List, ◌++◌, map, All, Contains, ◌↔◌}
use Rattle.std.specs.Global.{Vec}
use Rattle.ucq_eval.specs.declared.order.Printed.{Printed}
use Rattle.std.specs.List.Sorted.{IsStrictlySortedBy}
use Rattle.ucq_eval.specs.Tuples.{tuple_cmp, tuple_text}

-- this tuple beside its text
pub record IsPrinted (names : List (List ℕ)) (numbers : Vec ℕ) (p : Printed) : Type 0 where
  pub names_are : p.names ≡ numbers
  pub text_is : p.text.items ≡ tuple_text names p.names.items

-- each tuple stands beside its text
pub record HaveTexts (names : List (List ℕ)) (all : List Printed) : Type 0 where
  pub each : All (λ (p : Printed). p.text.items ≡ tuple_text names p.names.items) all

-- these tuples, each beside its text
pub record ArePrinted (names : List (List ℕ)) (tuples : List (List ℕ)) (all : List Printed) : Type 0 where
  pub names_are : map (λ (p : Printed). p.names.items) all ≡ tuples
  pub texts_are : All (λ (p : Printed). p.text.items ≡ tuple_text names p.names.items) all

-- all tuples but the rest are printed
pub record ArePrintedBut (names : List (List ℕ)) (found rest : List (Vec ℕ)) (all : List Printed) : Type 0 where
  pub done : List (Vec ℕ)
  pub split : found ≡ done ++ rest
  pub printed : ArePrinted names (map (λ (t : Vec ℕ). t.items) done) all

-- the tuples without their texts
abbrev pub tuples_beside : List Printed → List (List ℕ)
tuples_beside all = map (λ (p : Printed). p.names.items) all

-- the tuples that were found, in the order in which they are printed
pub record AreInOrder (names : List (List ℕ)) (found tuples : List (List ℕ)) : Type 0 where
  pub same : (tuple : List ℕ) → Contains tuples tuple ↔ Contains found tuple
  pub order : IsStrictlySortedBy (tuple_cmp names) tuples
