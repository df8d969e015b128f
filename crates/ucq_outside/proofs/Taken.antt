-- What a sink takes over two calls.
use Rattle.std.proofs.Common.{◌≡◌, ◌+◌, ◌++◌, ℕ, List, length, take, min, inl, inr, refl, sym, ap, ◌∙◌, append_assoc, arith}
use Rattle.std.proofs.lemmas.Grind.{common_steps}
use Rattle.std.proofs.lemmas.List.{take_at, drop_at}
use Rattle.std.proofs.Math.Seq.{take-add}
use Rattle.std.specs.Prelude.{Option, Some, None, IfSome}
use Rattle.ucq_outside.specs.Taken.{AllThenAll, AllThenPrefix, PrefixOfMore, RoseInOne}

some_same : (a b : List ℕ) → Some a ≡ Some b → a ≡ b
some_same a b e = cc

-- what was taken before the second call, told by the first
told_first : (before now : Option (List ℕ)) (one middle : List ℕ) → now ≡ Some middle →
    IfSome now (λ bytes. (first : List ℕ) × (before ≡ Some first) × (bytes ≡ first ++ one)) → (first : List ℕ) × (before ≡ Some first) × (middle ≡ first ++ one)
told_first before None one middle e h = absurd cc
told_first before (Some bytes) one middle e h = let same = some_same bytes middle e in (h.0, h.1, sym same ∙ h.2)

pub all_then_all : AllThenAll
all_then_all first second one two follows h k = go second.taken_after k
  where
    go : (now : Option (List ℕ)) → IfSome now (λ bytes. (middle : List ℕ) × (second.taken_before ≡ Some middle) × (bytes ≡ middle ++ two)) →
        IfSome now (λ bytes. (before : List ℕ) × (first.taken_before ≡ Some before) × (bytes ≡ before ++ (one ++ two)))
    go None k = tt
    go (Some bytes) (middle, at, is) =
        let (before, told, then) = told_first first.taken_before first.taken_after one middle (sym follows.taken ∙ at) h in
        (before, told, is ∙ (ap (λ (l : List ℕ). l ++ two) then ∙ append_assoc before one two))

-- a prefix of the second part, behind the first
behind : (one two : List ℕ) (n : ℕ) → take (length one + n) (one ++ two) ≡ one ++ take n two
behind one two n = grind (arith, common_steps, take-add (length one) n (one ++ two), take_at one two (length one) refl, drop_at one two (length one) refl)

pub all_then_prefix : AllThenPrefix
all_then_prefix first second one two follows h k = go second.taken_after k
  where
    go : (now : Option (List ℕ)) → IfSome now (λ bytes. (middle : List ℕ) × (count : ℕ) × (second.taken_before ≡ Some middle) × (bytes ≡ middle ++ take count two)) →
        IfSome now (λ bytes. (before : List ℕ) × (count : ℕ) × (first.taken_before ≡ Some before) × (bytes ≡ before ++ take count (one ++ two)))
    go None k = tt
    go (Some bytes) (middle, count, at, is) =
        let (before, told, then) = told_first first.taken_before first.taken_after one middle (sym follows.taken ∙ at) h in (
          before,
          length one + count,
          told,
          is ∙ (ap (λ (l : List ℕ). l ++ take count two) then ∙ (append_assoc before one (take count two) ∙ ap (λ (l : List ℕ). before ++ l) (sym (behind one two count)))),
        )

-- a prefix of the first part
within : (one two : List ℕ) (n : ℕ) → (m : ℕ) × (take n one ≡ take m (one ++ two))
within one two n = (min n (length one), grind (arith, common_steps, take_at one two (length one) refl))

pub prefix_of_more : PrefixOfMore
prefix_of_more sink one two h = go sink.taken_after h
  where
    go : (now : Option (List ℕ)) → IfSome now (λ bytes. (before : List ℕ) × (count : ℕ) × (sink.taken_before ≡ Some before) × (bytes ≡ before ++ take count one)) →
        IfSome now (λ bytes. (before : List ℕ) × (count : ℕ) × (sink.taken_before ≡ Some before) × (bytes ≡ before ++ take count (one ++ two)))
    go None h = tt
    go (Some bytes) (before, count, told, is) =
        let (more, same) = within one two count in
        (before, more, told, is ∙ ap (λ (l : List ℕ). before ++ l) same)

pub rose_in_one : RoseInOne
rose_in_one before between after up later (inl rose) = omega arith
rose_in_one before between after up later (inr rose) = omega arith
