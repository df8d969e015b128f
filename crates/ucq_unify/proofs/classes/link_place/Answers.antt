use Rattle.std.proofs.Common.{◌<◌, length, sym, ◌∙◌, ap, subst, arith}
use Rattle.ucq_terms.specs.Syntax.{Atom}
use Rattle.ucq_classes.specs.Numbers.{NumbersAtom, NumbersHead}
use Rattle.ucq_classes.proofs.Numbers.{numbered_atom, numbered_head, read_atom}
use Rattle.ucq_unify.proofs.classes.link_place.Goals as goal

pub offset_bounds-atoms-place : goal.offset_bounds-atoms-place
offset_bounds-atoms-place c =
    let k = c.requires.keeps c.in-Some.head c.in-Some.is in
    let n = ap length c.atoms-atoms.ensures.atoms in
    let l : c.args.place < length c.atoms-atoms.result.now = omega (arith, n, k.in_query) in
    let w = c.atoms-atoms.type_inv.1 in
    omega (arith, l, w)

pub bounds-atoms-place : goal.bounds-atoms-place
bounds-atoms-place c =
    let k = c.requires.keeps c.in-Some.head c.in-Some.is in
    let n = ap length c.atoms-atoms.ensures.atoms in
    omega (arith, n, k.in_query)

pub bounds-heads-head : goal.bounds-heads-head
bounds-heads-head c =
    let k = c.requires.keeps c.in-Some.head c.in-Some.is in
    let n = ap length c.heads-heads.ensures.heads in
    omega (arith, n, k.in_head)

pub link_atoms-requires-clause-atom : goal.link_atoms-requires-clause-atom
link_atoms-requires-clause-atom c =
    let q = c.args.sides.now.query.now in
    let k = c.requires.keeps c.in-Some.head c.in-Some.is in
    let e = read_atom q.atoms c.atoms-atoms.result.now c.args.place c.index-atoms-place.result c.atoms-atoms.ensures.atoms k.in_query c.index-atoms-place.is in
    subst (NumbersAtom c.args.classes.now.numbers) (sym e) (numbered_atom c.args.classes.now.numbers q c.args.place c.requires.sides.query k.in_query)

pub link_atoms-requires-clause-head : goal.link_atoms-requires-clause-head
link_atoms-requires-clause-head c =
    let r = c.args.sides.now.rule.now in
    let k = c.requires.keeps c.in-Some.head c.in-Some.is in
    let e = read_atom r.heads c.heads-heads.result.now c.in-Some.head c.index-heads-head.result c.heads-heads.ensures.heads k.in_head c.index-heads-head.is in
    subst (NumbersHead c.args.classes.now.numbers 0) (sym e) (numbered_head c.args.classes.now.numbers r 0 c.in-Some.head c.requires.sides.heads k.in_head)

pub link_atoms-requires-clause-arity : goal.link_atoms-requires-clause-arity
link_atoms-requires-clause-arity c =
    let q = c.args.sides.now.query.now in
    let r = c.args.sides.now.rule.now in
    let k = c.requires.keeps c.in-Some.head c.in-Some.is in
    let e = read_atom q.atoms c.atoms-atoms.result.now c.args.place c.index-atoms-place.result c.atoms-atoms.ensures.atoms k.in_query c.index-atoms-place.is in
    let f = read_atom r.heads c.heads-heads.result.now c.in-Some.head c.index-heads-head.result c.heads-heads.ensures.heads k.in_head c.index-heads-head.is in
    ap (λ (a : Atom). length a.terms) e ∙ (k.arity ∙ sym (ap (λ (a : Atom). length a.terms) f))
