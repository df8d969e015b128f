use Rattle.std.proofs.Common.{◌≡◌, ◌<◌, ◌-◌, length, take, ℕ, sym, ap, ◌∙◌, arith, subst, Contains}
use Rattle.std.specs.Vec.{vec_len}
use Rattle.std.proofs.lemmas.List.Elements.{Contains-get_or}
use Rattle.ucq_hom.specs.Bindings.{Bound, last_bound}
use Rattle.ucq_hom.proofs.Trail.{IsKept-free, image_below}
use Rattle.ucq_hom.proofs.bindings.Bindings.free_last.Goals as goal

pub index_mut-requires : goal.index_mut-requires
index_mut-requires c =
    let b : Bound = record { images = c.self.inside.images.items; trail = c.self.inside.trail.items } in
    let some : 0 < length b.trail = subst (λ (x : Bound). 0 < length x.trail) (sym c.self.view_is) c.requires in
    let size : vec_len c.self.inside.trail ≡ length b.trail = omega arith in
    let last : c.in-Some.variable ≡ last_bound b = let e = c.in-Some.ensures.value 0 (subst (λ (n : ℕ). 0 < n) (sym size) some) in cc in
    let less : length b.trail - 1 < length b.trail = omega arith in
    let within : c.in-Some.variable < length b.images = image_below b.images c.in-Some.variable (c.self.invariant.1.bound c.in-Some.variable (subst (λ x. Contains b.trail x) (sym last) (Contains-get_or b.trail (length b.trail - 1) 0 less))) in
    omega arith

pub invariant_of-self : goal.invariant_of-self
invariant_of-self c =
    let b : Bound = record { images = c.self.inside.images.items; trail = c.self.inside.trail.items } in
    let some : 0 < length b.trail = subst (λ (x : Bound). 0 < length x.trail) (sym c.self.view_is) c.requires in
    let size : vec_len c.self.inside.trail ≡ length b.trail = omega arith in
    let last : c.in-Some.variable ≡ last_bound b = let e = c.in-Some.ensures.value 0 (subst (λ (n : ℕ). 0 < n) (sym size) some) in cc in
    let rest : c.pop.new.self.items ≡ take (length b.trail - 1) b.trail = c.in-Some.ensures.rest ∙ ap (λ n. take (n - 1) b.trail) size in
    let k = IsKept-free b some c.self.invariant.1 in
    (let w = c.self.invariant.0 in let e = c.in-Some.ensures.capacity in omega arith, rw (last, rest) k)
