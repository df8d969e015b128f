use Rattle.std.proofs.Common.{◌≡◌, ℕ, List, length, map, ◌++◌, ◌∷◌, [], sym, ap, ◌∙◌, subst}
use Rattle.ucq_bans.specs.Conflicts.{IsRising}
use Rattle.ucq_bans.specs.inner.Parts.{SomePart}
use Rattle.ucq_bans.proofs.Parts.{AreMinimalBefore-none, AreSortedBehind-none, SomePart-as, minimal_more, minimal_same, of_read}
use Rattle.ucq_bans.proofs.minimal.minimal.Goals as goal
use Rattle.ucq_bans.proofs.minimal.minimal.Goals.{then-not-has_part+in_ok-from_slice+in_ok-push, else-not-has_part}

pub loop-set-init : goal.loop-set-init
loop-set-init c = rw c.new-minimal.ensures.items (AreMinimalBefore-none _)

pub has_part-requires : goal.has_part-requires
has_part-requires c = record { sorted = AreSortedBehind-none _ c.requires.sorted }

pub new-requires : goal.new-requires
new-requires c =
    subst IsRising (sym (c.in_ok-from_slice.ensures.items ∙ c.as_slice-places.ensures.value))
    (of_read IsRising (λ v. v.items) c.args.sets.now c.loop-set.set-index c.set-item.result c.requires.rising c.loop-set-test.true c.set-item.is)

pub loop-set-preserved : goal.loop-set-preserved
loop-set-preserved c =
    let x = c.set-item.result in
    let i = c.loop-set.set-index in
    let sets = c.args.sets.now in
    let same : c.as_slice-places.result.now ≡ x.items = c.as_slice-places.ensures.value in
    let size : length c.as_slice-places.result.now ≡ length x.items = ap (λ (xs : List ℕ). length xs) same in
    elim c.if-not-has_part.branch [
      | then-not-has_part+in_ok-from_slice+in_ok-push w ↦
          let none = λ (s : SomePart 0 x.items (length x.items) (map (λ v. v.items) sets)).
          let yes = c.has_part.ensures.1 (SomePart-as x.items c.as_slice-places.result.now (length x.items) (length c.as_slice-places.result.now) (map (λ v. v.items) sets) (sym same) (sym size) s) in
          let no = w.if-not-has_part.true in absurd cc in
          let pushed : w.push.new.self.items ≡ c.loop-set.minimal.items ++ x.items ∷ [] =
          w.in_ok-push.ensures.items ∙ ap (λ (ps : List ℕ). c.loop-set.minimal.items ++ ps ∷ []) (w.new.ensures ∙ (w.in_ok-from_slice.ensures.items ∙ same)) in
          rw (w.minimal-is, pushed) (minimal_more (λ v. v.items) sets i x c.loop-set.minimal.items c.requires.sorted c.loop-set-test.true c.set-item.is none c.loop-set.invariant)
      | else-not-has_part w ↦
          let some = SomePart-as c.as_slice-places.result.now x.items (length c.as_slice-places.result.now) (length x.items) (map (λ v. v.items) sets) same size (c.has_part.ensures.0 w.if-not-has_part.false) in
          rw w.minimal-is (minimal_same (λ v. v.items) sets i x c.loop-set.minimal.items c.requires.sorted c.loop-set-test.true c.set-item.is some c.loop-set.invariant)
    ]
