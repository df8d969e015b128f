-- Whether the labels put two constants into one class.
use Rattle.std.proofs.Common.{◌≡◌, ◌≢◌, ◌<◌, ◌≤◌, ℕ, List, length, Contains, AllPairs, nat_eq, get_or, sym, ap, ◌∙◌, subst, inl, inr, arith}
use Rattle.std.specs.List.{position_or_len}
use Rattle.std.proofs.lemmas.List.Elements.{Contains-get_or}
use Rattle.ucq_partition.specs.Partition.{AreLinked, label_of}
use Rattle.ucq_partition.proofs.Links.{label-linked}
use Rattle.ucq_terms.specs.Unifier.{Node, constant, HasNoClash}
use Rattle.ucq_classes.specs.Numbers.{number, size}
use Rattle.ucq_classes.specs.Classes.{Labels, IsClassed}
use Rattle.ucq_classes.proofs.Numbers.{place_below, constant_at_place, place_at}
use Rattle.ucq_classes.proofs.Classed.{linked_numbers, joined_numbers, both_numbered}

module _ (c : Labels) (links : List (Node × Node)) (classed : IsClassed links c) (once : AllPairs (λ (c d : ℕ). c ≢ d) c.numbers.constants)
    (room : length c.labels ≡ size c.numbers) where
  abbrev Constants : List ℕ
  Constants = c.numbers.constants

  -- a constant whose number is not its own label is joined to another
  pub clash_at : (k : ℕ) → k < length Constants → (label_of c.labels k ≡ k → ⊥) → HasNoClash links → ⊥
  clash_at k l ne none =
      let r = label_of c.labels k in
      let low : r ≤ k = classed.made.least k (omega arith) in
      let a = get_or Constants k 0 in
      let b = get_or Constants r 0 in
      let first : number c.numbers (constant a) ≡ k = place_at Constants k once l in
      let second : number c.numbers (constant b) ≡ r = place_at Constants r once (omega arith) in
      let held : Contains Constants a = Contains-get_or Constants k 0 l in
      let held_too : Contains Constants b = Contains-get_or Constants r 0 (omega arith) in
      let linked : AreLinked classed.joins (number c.numbers (constant a)) (number c.numbers (constant b)) =
      subst (λ (x : ℕ). AreLinked classed.joins x (number c.numbers (constant b))) (sym first)
      (subst (λ (y : ℕ). AreLinked classed.joins k y) (sym second) (classed.made.linked k (omega arith))) in
      let same : a ≡ b = none a b (joined_numbers c links classed (constant a) (constant b) held held_too linked) in
      ne (sym second ∙ (ap (λ (x : ℕ). number c.numbers (constant x)) (sym same) ∙ first))

  -- where every constant's number is its own label, no two are joined
  pub no_clash : ((k : ℕ) → k < length Constants → label_of c.labels k ≡ k) → HasNoClash links
  no_clash own a b h = elim (both_numbered c links classed h) [
    | inl e ↦ let s : a ≡ b = cc in s
    | inr (i, j) ↦
        let first = place_below Constants a i in
        let second = place_below Constants b j in
        let linked : AreLinked classed.joins (number c.numbers (constant a)) (number c.numbers (constant b)) = linked_numbers c links classed h in
        let same : position_or_len (nat_eq a) Constants ≡ position_or_len (nat_eq b) Constants =
        sym (own (position_or_len (nat_eq a) Constants) first) ∙
        (label-linked classed.joins c.labels (number c.numbers (constant a)) (number c.numbers (constant b)) classed.made linked ∙
        own (position_or_len (nat_eq b) Constants) second) in
        sym (constant_at_place Constants a i) ∙ (ap (λ (m : ℕ). get_or Constants m 0) same ∙ constant_at_place Constants b j)
  ]
