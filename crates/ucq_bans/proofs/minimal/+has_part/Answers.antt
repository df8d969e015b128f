use Rattle.std.proofs.Common.{◌≡◌, ℕ, List, length, map, false, sym, subst, inl, inr, arith}
use Rattle.std.specs.Prelude.{IsTrue}
use Rattle.ucq_bans.specs.inner.Parts.{SomePart}
use Rattle.ucq_bans.proofs.Sent.{none_left}
use Rattle.ucq_bans.proofs.Parts.{none_at_end, SomePart-with, SomePart-without, SomePart-cases}
use Rattle.ucq_bans.proofs.minimal.+has_part.Goals as goal

pub returns-in_default-split_first : goal.returns-in_default-split_first
returns-in_default-split_first t c =
    let longer = λ (e : length c.in-Some.first.now.items ≡ c.args.depth). c.if-len-depth.false (omega (arith, e)) in (
      (λ yes. let none : IsTrue false = yes in absurd cc),
      λ s. absurd (none_at_end (λ v. v.items) c.args.sets.now c.args.depth c.args.size c.args.places.now c.in-Some.first.now c.requires.sorted
          (none_left c.args.places.now c.in_default-split_first.ensures.cases) c.in-Some.ensures.value longer s),
    )

pub returns-then-has_part : goal.returns-then-has_part
returns-then-has_part t c =
    let sets = map (λ v. v.items) c.args.sets.now in
    let beginning = map (λ v. v.items) c.with_place.result.now in
    let some = SomePart-with c.args.depth c.in-Some-split_first.place.now c.in-Some-split_first.rest.now c.args.size sets beginning c.with_place.ensures
    (c.has_part.ensures.0 c.if-has_part.true) in (
      λ yes. subst (λ (ps : List ℕ). SomePart c.args.depth ps c.args.size sets) (sym c.in-Some-split_first.ensures.cases.0) some,
      λ s. c.if-has_part.true,
    )

pub returns-else-has_part : goal.returns-else-has_part
returns-else-has_part t c =
    let sets = map (λ v. v.items) c.args.sets.now in
    let beginning = map (λ v. v.items) c.with_place.result.now in
    let place = c.in-Some-split_first.place.now in
    let rest = c.in-Some-split_first.rest.now in
    let is = c.in-Some-split_first.ensures.cases.0 in (
      λ yes. subst (λ (ps : List ℕ). SomePart c.args.depth ps c.args.size sets) (sym is)
          (SomePart-without c.args.depth place rest c.args.size sets beginning c.with_place.ensures (c.has_part-else-has_part.ensures.0 yes)),
      λ s. elim (SomePart-cases c.args.depth place rest c.args.size sets beginning c.with_place.ensures (subst (λ (ps : List ℕ). SomePart c.args.depth ps c.args.size sets) is s)) [
        | inl p ↦ let yes = c.has_part.ensures.1 p in let no = c.if-has_part.false in absurd cc
        | inr p ↦ c.has_part-else-has_part.ensures.1 p
      ],
    )
