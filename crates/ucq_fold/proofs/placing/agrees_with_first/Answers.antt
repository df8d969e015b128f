use Rattle.std.proofs.Common.{◌≡◌, ◌<◌, ℕ, true, List, length, zip, subst, sym, ap₂, ◌∙◌, arith, inl, inr, slice_index, rules}
use Rattle.std.proofs.lemmas.Bool.{cases_eq}
use Rattle.ucq_terms.specs.declared.Term.{Term}
use Rattle.ucq_terms.specs.Syntax.{Atom}
use Rattle.ucq_hom.proofs.Ordered.{ArePlaces-at}
use Rattle.ucq_fold.specs.inner.Agreement.{all_agree}
use Rattle.ucq_fold.specs.inner.Placing.{visited}
use Rattle.ucq_fold.proofs.Placings.{read_terms}
use Rattle.ucq_fold.proofs.placing.agrees_with_first.Goals as goal

pub bounds-atoms-order : goal.bounds-atoms-order
bounds-atoms-order c =
    subst (λ (x : List Atom). slice_index c.args.order.now c.loop-i.i < length x) (sym c.atoms.ensures.atoms)
    (ArePlaces-at c.args.a.now.atoms c.args.order.now c.loop-i.i (let r = c.requires.count in omega arith) c.requires.order)

pub returns-then-not-all_agree : goal.returns-then-not-all_agree
returns-then-not-all_agree c = (
  λ e. cc,
  λ f.
      let i = c.loop-i.i in
      let l = c.loop-i-test.true in
      let order_at = ArePlaces-at c.args.a.now.atoms c.args.order.now i (let r = c.requires.count in omega arith) c.requires.order in
      let here : all_agree (zip c.terms.result.now c.terms-in-loop-i.result.now) (zip c.terms-earlier.result.now c.terms-placed.result.now) ≡
      all_agree (zip c.args.atom.now.terms c.args.image.now.terms) (zip (visited c.args.a.now c.args.order.now i).terms (visited c.args.b.now c.args.images.now i).terms) =
      ap₂ (λ (ps qs : List (Term × Term)). all_agree ps qs) (ap₂ (λ (xs ys : List Term). zip xs ys) c.terms.ensures.terms c.terms-in-loop-i.ensures.terms)
      (ap₂ (λ (xs ys : List Term). zip xs ys)
      (c.terms-earlier.ensures.terms ∙ read_terms c.args.a.now.atoms c.atoms.result.now (slice_index c.args.order.now i) c.index-atoms-order.result c.atoms.ensures.atoms order_at c.index-atoms-order.is)
      (c.terms-placed.ensures.terms ∙ read_terms c.args.b.now.atoms c.atoms-in-loop-i.result.now (slice_index c.args.images.now i) c.index-atoms-images.result c.atoms-in-loop-i.ensures.atoms (c.requires.within i l) c.index-atoms-images.is)) in
      let yes' : c.all_agree.result ≡ true = c.all_agree.ensures ∙ (here ∙ f i l) in
      let no' = c.if-not-all_agree.true in
      cc,
)

pub loop-i-preserved : goal.loop-i-preserved
loop-i-preserved c = λ k l. elim (cases_eq k c.loop-i.i) [
  | inr ne ↦ c.loop-i.invariant k (omega arith)
  | inl e ↦
      let i = c.loop-i.i in
      let m = c.loop-i-test.true in
      let order_at = ArePlaces-at c.args.a.now.atoms c.args.order.now i (let r = c.requires.count in omega arith) c.requires.order in
      let here : all_agree (zip c.terms.result.now c.terms-in-loop-i.result.now) (zip c.terms-earlier.result.now c.terms-placed.result.now) ≡
      all_agree (zip c.args.atom.now.terms c.args.image.now.terms) (zip (visited c.args.a.now c.args.order.now i).terms (visited c.args.b.now c.args.images.now i).terms) =
      ap₂ (λ (ps qs : List (Term × Term)). all_agree ps qs) (ap₂ (λ (xs ys : List Term). zip xs ys) c.terms.ensures.terms c.terms-in-loop-i.ensures.terms)
      (ap₂ (λ (xs ys : List Term). zip xs ys)
      (c.terms-earlier.ensures.terms ∙ read_terms c.args.a.now.atoms c.atoms.result.now (slice_index c.args.order.now i) c.index-atoms-order.result c.atoms.ensures.atoms order_at c.index-atoms-order.is)
      (c.terms-placed.ensures.terms ∙ read_terms c.args.b.now.atoms c.atoms-in-loop-i.result.now (slice_index c.args.images.now i) c.index-atoms-images.result c.atoms-in-loop-i.ensures.atoms (c.requires.within i m) c.index-atoms-images.is)) in
      let yes' : c.all_agree.result ≡ true = search rules in
      subst (λ (n : ℕ). all_agree (zip c.args.atom.now.terms c.args.image.now.terms) (zip (visited c.args.a.now c.args.order.now n).terms (visited c.args.b.now c.args.images.now n).terms) ≡ true) (sym e)
      (sym here ∙ (sym c.all_agree.ensures ∙ yes'))
]
