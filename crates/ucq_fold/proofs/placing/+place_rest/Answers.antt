use Rattle.std.proofs.Common.{◌≡◌, ◌<◌, ◌≤◌, ◌+◌, ℕ, List, length, ap, ◌∙◌, arith, inl, inr, set, slice_index}
use Rattle.std.proofs.lemmas.Bool.{cases_eq}
use Rattle.std.proofs.lemmas.List.{length-set}
use Rattle.ucq_terms.specs.declared.Term.{Term}
use Rattle.ucq_terms.specs.Syntax.{atom_image}
use Rattle.ucq_terms.specs.Unifier.{atom_at}
use Rattle.ucq_terms.specs.Homomorphism.{IsIsomorphism}
use Rattle.ucq_fold.specs.inner.Placing.{Leads, visited}
use Rattle.ucq_fold.proofs.Placings.{AreSameTo, AreSameTo-trans, IsPlaced-same, set_next, none_next, none_left}
use Rattle.ucq_fold.proofs.placing.+place_rest.Goals as goal
use Rattle.ucq_fold.proofs.placing.+place_rest.Goals.{else-fits-via-then-fits+else-place_rest, else-fits-via-else-fits}

pub place_rest-requires : goal.place_rest-requires
place_rest-requires t c =
    let a = c.args.a.now in
    let b = c.args.b.now in
    let order = c.args.order.now in
    let at' = c.args.at in
    let next = set c.loop-place.images at' c.loop-place.place in
    let kept : AreSameTo at' next c.args.images.now =
    AreSameTo-trans at' next c.loop-place.images c.args.images.now (set_next c.loop-place.images at' c.loop-place.place) (record { each = c.loop-place.invariant.kept }) in
    let l : at' < length order = c.if-at-order.false in
    let room : length order ≤ length next = let r = c.requires.room in let m = c.loop-place.auto.images in let s = length-set c.loop-place.images at' c.loop-place.place in omega arith in (
      omega arith,
      (c.requires.order, (omega arith, (room, c.fits.ensures.placed c.if-fits.true (IsPlaced-same a b order c.args.images.now next at' kept c.requires.placed)))),
    )

pub loop-place-preserved : goal.loop-place-preserved
loop-place-preserved t c =
    let a = c.args.a.now in
    let b = c.args.b.now in
    let order = c.args.order.now in
    let at' = c.args.at in
    let first = c.args.images.now in
    let now = c.loop-place.images in
    let place = c.loop-place.place in
    let next = set now at' place in
    let same : AreSameTo at' now first = record { each = c.loop-place.invariant.kept } in
    let room : at' < length now = let l = c.if-at-order.false in let r = c.requires.room in let m = c.loop-place.auto.images in omega arith in
    let step : ((h : ℕ → Term) → IsIsomorphism h a b → Leads h a b order next (at' + 1) → ⊥) → (k : ℕ) → k < place + 1 → (h : ℕ → Term) → IsIsomorphism h a b → Leads h a b order first at' → atom_image h (visited a order at') ≡ atom_at b.atoms k → ⊥ =
    λ none k l h s g e. elim (cases_eq k place) [
      | inr ne ↦ c.loop-place.invariant.none k (omega arith) h s g e
      | inl d ↦ none_next h a b order first now at' place same room (none h s) g (e ∙ ap (atom_at b.atoms) d)
    ] in
    elim c.else-fits.branch [
      | else-fits-via-then-fits+else-place_rest w ↦ record {
        kept = λ i l. ap (λ (xs : List ℕ). slice_index xs i) w.images-is ∙ (w.place_rest.ensures.kept i (omega arith) ∙ ((set_next now at' place).each i l ∙ same.each i l));
        none = step (w.place_rest.ensures.none w.if-place_rest.false);
      }
      | else-fits-via-else-fits w ↦ record {
        kept = λ i l. ap (λ (xs : List ℕ). slice_index xs i) w.images-is ∙ ((set_next now at' place).each i l ∙ same.each i l);
        none = step (c.fits.ensures.none w.if-fits.false);
      }
    ]

pub returns-clause-none : goal.returns-clause-none
returns-clause-none t c = λ _ h s g. none_left h c.args.a.now c.args.b.now c.args.order.now c.args.at c.requires.order c.if-at-order.false s (λ k l e.
    c.loop-place.invariant.none k (let m : length c.atoms.result.now ≤ c.loop-place.place = c.loop-place-test.false in
    let q : length c.atoms.result.now ≡ length c.args.b.now.atoms = ap length c.atoms.ensures.atoms in omega arith) h s g e)
