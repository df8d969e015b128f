use Rattle.std.proofs.Common.{◌≡◌, ◌<◌, true, List, length, zip, subst, sym, ap₂, ◌∙◌, arith, slice_index, IsTrue}
use Rattle.ucq_terms.specs.declared.Term.{Term}
use Rattle.ucq_terms.specs.Syntax.{Atom}
use Rattle.ucq_hom.proofs.Ordered.{ArePlaces-at}
use Rattle.ucq_fold.specs.inner.Agreement.{all_agree, goes_with}
use Rattle.ucq_fold.specs.inner.Placing.{visited}
use Rattle.ucq_fold.proofs.Placings.{read_atom, IsPlaced-more, goes_with-renamed, agrees_with-renamed}
use Rattle.ucq_fold.proofs.placing.fits.Goals as goal

pub bounds-atoms-order : goal.bounds-atoms-order
bounds-atoms-order c =
    subst (λ (x : List Atom). slice_index c.args.order.now c.args.at < length x) (sym c.atoms.ensures.atoms)
    (ArePlaces-at c.args.a.now.atoms c.args.order.now c.args.at c.requires.at c.requires.order)

pub returns-then-goes_with_answers-clause-placed : goal.returns-then-goes_with_answers-clause-placed
returns-then-goes_with_answers-clause-placed c = λ e s.
    let a = c.args.a.now in
    let b = c.args.b.now in
    let order = c.args.order.now in
    let images = c.args.images.now in
    let at' = c.args.at in
    let x = c.index-atoms-order.result in
    let y = c.index-atoms-images.result in
    let p : x ≡ visited a order at' = read_atom a.atoms c.atoms.result.now (slice_index order at') x c.atoms.ensures.atoms (ArePlaces-at a.atoms order at' c.requires.at c.requires.order) c.index-atoms-order.is in
    let q : y ≡ visited b images at' = read_atom b.atoms c.atoms-2.result.now (slice_index images at') y c.atoms-2.ensures.atoms (c.requires.within at' (omega arith)) c.index-atoms-images.is in
    let with_answers : goes_with x y a.answers b.answers ≡ true =
    ap₂ (λ (us vs : List Term). goes_with x y us vs) (sym c.answers.ensures.answers) (sym c.answers-2.ensures.answers) ∙ (sym c.goes_with_answers.ensures ∙ c.if-goes_with_answers.true) in
    IsPlaced-more a b order images at' s (c.requires.within at' (omega arith)) (ap₂ (λ (u v : Atom). goes_with u v a.answers b.answers) (sym p) (sym q) ∙ with_answers)
    (λ i l. ap₂ (λ (u v : Atom). all_agree (zip u.terms v.terms) (zip (visited a order i).terms (visited b images i).terms)) (sym p) (sym q) ∙ c.agrees_with_first.ensures.0 e i l)

pub returns-then-goes_with_answers-clause-none : goal.returns-then-goes_with_answers-clause-none
returns-then-goes_with_answers-clause-none c = λ e h s g.
    let a = c.args.a.now in
    let b = c.args.b.now in
    let order = c.args.order.now in
    let images = c.args.images.now in
    let at' = c.args.at in
    let x = c.index-atoms-order.result in
    let y = c.index-atoms-images.result in
    let p : x ≡ visited a order at' = read_atom a.atoms c.atoms.result.now (slice_index order at') x c.atoms.ensures.atoms (ArePlaces-at a.atoms order at' c.requires.at c.requires.order) c.index-atoms-order.is in
    let q : y ≡ visited b images at' = read_atom b.atoms c.atoms-2.result.now (slice_index images at') y c.atoms-2.ensures.atoms (c.requires.within at' (omega arith)) c.index-atoms-images.is in
    let yes' : IsTrue c.agrees_with_first.result = c.agrees_with_first.ensures.1 (λ i l.
    ap₂ (λ (u v : Atom). all_agree (zip u.terms v.terms) (zip (visited a order i).terms (visited b images i).terms)) p q ∙
    agrees_with-renamed h a b order images at' i c.requires.order c.requires.at s g l) in
    cc

pub returns-else-goes_with_answers-clause-none : goal.returns-else-goes_with_answers-clause-none
returns-else-goes_with_answers-clause-none c = λ e h s g.
    let a = c.args.a.now in
    let b = c.args.b.now in
    let order = c.args.order.now in
    let images = c.args.images.now in
    let at' = c.args.at in
    let x = c.index-atoms-order.result in
    let y = c.index-atoms-images.result in
    let p : x ≡ visited a order at' = read_atom a.atoms c.atoms.result.now (slice_index order at') x c.atoms.ensures.atoms (ArePlaces-at a.atoms order at' c.requires.at c.requires.order) c.index-atoms-order.is in
    let q : y ≡ visited b images at' = read_atom b.atoms c.atoms-2.result.now (slice_index images at') y c.atoms-2.ensures.atoms (c.requires.within at' (omega arith)) c.index-atoms-images.is in
    let yes' : c.goes_with_answers.result ≡ true =
    c.goes_with_answers.ensures ∙ (ap₂ (λ (us vs : List Term). goes_with x y us vs) c.answers.ensures.answers c.answers-2.ensures.answers ∙
    (ap₂ (λ (u v : Atom). goes_with u v a.answers b.answers) p q ∙ goes_with-renamed h a b order images at' c.requires.order c.requires.at s g)) in
    cc
