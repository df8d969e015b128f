use Rattle.std.proofs.Common.{◌≡◌, ◌≤◌, ◌<◌, [], ◌∷◌, ◌++◌, length, refl, sym, ap, ◌∙◌, arith, subst}
use Rattle.std.specs.Result.{is_ok}
use Rattle.std.specs.Bool.{if◌then◌else◌}
use Rattle.std.specs.Vec.{vec_capacity}
use Rattle.ucq_terms.specs.declared.TheConstants.{VARIABLES}
use Rattle.ucq_hom.specs.Space.{image}
use Rattle.ucq_hom.specs.Bindings.{Bound}
use Rattle.ucq_hom.proofs.Trail.{IsKept-bind, trail_room}
use Rattle.ucq_hom.proofs.bindings.Bindings.bind.Goals as goal

pub unwrap-requires : goal.unwrap-requires
unwrap-requires c =
    let b : Bound = record { images = c.self.inside.images.items; trail = c.self.inside.trail.items } in
    let v = c.args.variable in
    let free = subst (λ (x : Bound). image x.images v ≡ _) (sym c.self.view_is) c.requires.free in
    let room : length b.trail < VARIABLES = trail_room b v VARIABLES refl c.requires.below free c.self.invariant.1 in
    let wide : VARIABLES ≤ vec_capacity c.self.inside.trail = c.self.invariant.0 in
    c.push.ensures.succeeds (omega arith)

pub invariant_of-self : goal.invariant_of-self
invariant_of-self c =
    let b : Bound = record { images = c.self.inside.images.items; trail = c.self.inside.trail.items } in
    let v = c.args.variable in
    let free = subst (λ (x : Bound). image x.images v ≡ _) (sym c.self.view_is) c.requires.free in
    let wide : VARIABLES ≤ vec_capacity c.self.inside.trail = c.self.invariant.0 in
    let items : c.push.new.self.items ≡ b.trail ++ v ∷ [] =
    c.push.ensures.items ∙ ap (λ r. if is_ok r then b.trail ++ v ∷ [] else b.trail) c.unwrap.ensures in
    (let more = c.push.ensures.capacity in omega arith, rw items (IsKept-bind b v c.args.term c.requires.below free c.self.invariant.1))
