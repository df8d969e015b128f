use Rattle.std.proofs.Common.{◌≡◌, ◌<◌, ◌-◌, length, sym, ◌∙◌, arith, subst, Contains}
use Rattle.std.proofs.lemmas.List.Elements.{Contains-get_or}
use Rattle.std.proofs.lemmas.Option.{get_or_from_slice_get}
use Rattle.ucq_hom.specs.Bindings.{Bound, last_bound}
use Rattle.ucq_hom.proofs.Trail.{IsKept-free, image_below}
use Rattle.ucq_bans.proofs.bindings.Bindings.free_last.Goals as goal

pub bounds-self-inside-variable : goal.bounds-self-inside-variable
bounds-self-inside-variable c =
    let b : Bound = record { images = c.self.inside.images; trail = c.self.inside.trail.items } in
    let some : 0 < length b.trail = subst (λ (x : Bound). 0 < length x.trail) (sym c.self.view_is) c.requires in
    let last : last_bound b ≡ c.in-Some.variable = get_or_from_slice_get b.trail (length b.trail - 1) c.in-Some.variable 0 (sym c.pop.ensures.value ∙ c.in-Some.is) in
    let less : length b.trail - 1 < length b.trail = omega arith in
    let within : c.in-Some.variable < length b.images = image_below b.images c.in-Some.variable
    (c.self.invariant.bound c.in-Some.variable (subst (λ x. Contains b.trail x) last (Contains-get_or b.trail (length b.trail - 1) 0 less))) in
    let room = c.self.invariant.room in
    omega arith

pub invariant_of-self : goal.invariant_of-self
invariant_of-self c =
    let b : Bound = record { images = c.self.inside.images; trail = c.self.inside.trail.items } in
    let some : 0 < length b.trail = subst (λ (x : Bound). 0 < length x.trail) (sym c.self.view_is) c.requires in
    let last : c.in-Some.variable ≡ last_bound b = sym (get_or_from_slice_get b.trail (length b.trail - 1) c.in-Some.variable 0 (sym c.pop.ensures.value ∙ c.in-Some.is)) in
    rw (last, c.pop.ensures.rest) (IsKept-free b some c.self.invariant)
