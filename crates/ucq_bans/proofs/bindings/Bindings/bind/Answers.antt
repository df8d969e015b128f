use Rattle.std.proofs.Common.{◌≡◌, ◌<◌, length, sym, arith, subst, refl}
use Rattle.ucq_terms.specs.declared.TheConstants.{VARIABLES}
use Rattle.ucq_hom.specs.Space.{image}
use Rattle.ucq_hom.specs.Bindings.{Bound}
use Rattle.ucq_hom.proofs.Trail.{IsKept-bind, trail_room}
use Rattle.ucq_bans.proofs.bindings.Bindings.bind.Goals as goal

pub push-requires : goal.push-requires
push-requires c =
    let b : Bound = record { images = c.self.inside.images; trail = c.self.inside.trail.items } in
    let v = c.args.variable in
    let free = subst (λ (x : Bound). image x.images v ≡ _) (sym c.self.view_is) c.requires.free in
    let room : length b.trail < VARIABLES = trail_room b v VARIABLES refl c.requires.below free c.self.invariant in
    (omega arith, room)

pub invariant_of-self : goal.invariant_of-self
invariant_of-self c =
    let b : Bound = record { images = c.self.inside.images; trail = c.self.inside.trail.items } in
    let v = c.args.variable in
    let free = subst (λ (x : Bound). image x.images v ≡ _) (sym c.self.view_is) c.requires.free in
    rw c.push.ensures.items (IsKept-bind b v c.args.term c.requires.below free c.self.invariant)
