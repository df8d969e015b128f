use Rattle.std.proofs.Common.{◌<◌, sym, subst, arith}
use Rattle.ucq_classes.specs.Numbers.{size, number, IsNumbered, node_of}
use Rattle.ucq_classes.specs.Classes.{Labels, IsClassed}
use Rattle.ucq_classes.proofs.Numbers.{number_below}
use Rattle.ucq_classes.proofs.Classed.{test_tells}
use Rattle.ucq_classes.proofs.classes.Classes.same.Goals as goal

pub same-requires-clause-a : goal.same-requires-clause-a
same-requires-clause-a c =
    let n = c.self.inside.numbering.now in
    let x = node_of c.args.x in
    let b : number n x < size n = number_below n x (subst (λ (v : Labels). IsNumbered v.numbers x) (sym c.self.view_is) c.requires.x) in
    omega (arith, b, c.number-a.ensures, c.self.invariant.room)

pub same-requires-clause-b : goal.same-requires-clause-b
same-requires-clause-b c =
    let n = c.self.inside.numbering.now in
    let y = node_of c.args.y in
    let b : number n y < size n = number_below n y (subst (λ (v : Labels). IsNumbered v.numbers y) (sym c.self.view_is) c.requires.y) in
    omega (arith, b, c.number-b.ensures, c.self.invariant.room)

pub returns : goal.returns
returns c = λ links k.
    let x = node_of c.args.x in
    let y = node_of c.args.y in
    let v : Labels = record { numbers = c.self.inside.numbering.now; labels = c.self.inside.partition } in
    let k' : IsClassed links v = subst (IsClassed links) (sym c.self.view_is) k in
    test_tells v links k' c.same.result c.number-a.result c.number-b.result x y c.same.ensures
    (subst (λ (u : Labels). IsNumbered u.numbers x) (sym c.self.view_is) c.requires.x)
    (subst (λ (u : Labels). IsNumbered u.numbers y) (sym c.self.view_is) c.requires.y) c.number-a.ensures c.number-b.ensures
