use Rattle.std.proofs.Common.{◌<◌, ◌++◌, ◌∷◌, [], ℕ, sym, subst, arith}
use Rattle.ucq_partition.specs.Partition.{IsMadeBy}
use Rattle.ucq_classes.specs.Numbers.{size, number, IsNumbered, node_of}
use Rattle.ucq_classes.specs.Classes.{Labels, IsClassed}
use Rattle.ucq_classes.proofs.Numbers.{number_below}
use Rattle.ucq_classes.proofs.Classed.{classed_more}
use Rattle.ucq_classes.proofs.classes.Classes.link.Goals as goal

pub join-requires-clause-a : goal.join-requires-clause-a
join-requires-clause-a c =
    let n = c.self.inside.numbering.now in
    let x = node_of c.args.x in
    let b : number n x < size n = number_below n x (subst (λ (v : Labels). IsNumbered v.numbers x) (sym c.self.view_is) c.requires.x) in
    omega (arith, b, c.number-a.ensures, c.self.invariant.room)

pub join-requires-clause-b : goal.join-requires-clause-b
join-requires-clause-b c =
    let n = c.self.inside.numbering.now in
    let y = node_of c.args.y in
    let b : number n y < size n = number_below n y (subst (λ (v : Labels). IsNumbered v.numbers y) (sym c.self.view_is) c.requires.y) in
    omega (arith, b, c.number-b.ensures, c.self.invariant.room)

pub returns-clause-linked : goal.returns-clause-linked
returns-clause-linked c = λ links k.
    let n = c.self.inside.numbering.now in
    let x = node_of c.args.x in
    let y = node_of c.args.y in
    let k' = subst (IsClassed links) (sym c.self.view_is) k in
    let made = c.join.ensures.made k'.joins k'.made in
    let made' = subst (λ (p : ℕ × ℕ). IsMadeBy (k'.joins ++ p ∷ []) c.join.new.self) (λ h. (c.number-a.ensures h, c.number-b.ensures h)) made in
    classed_more n links c.self.inside.partition c.join.new.self x y (subst (λ (v : Labels). IsNumbered v.numbers x) (sym c.self.view_is) c.requires.x)
    (subst (λ (v : Labels). IsNumbered v.numbers y) (sym c.self.view_is) c.requires.y) k' made'
