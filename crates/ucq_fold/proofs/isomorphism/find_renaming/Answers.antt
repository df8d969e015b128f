use Rattle.std.proofs.Common.{◌≡◌, ◌∙◌, Bool, true, false, List, refl, ap₂, subst, IsTrue, arith}
use Rattle.ucq_terms.specs.declared.Term.{Term}
use Rattle.ucq_terms.specs.Syntax.{Atom, Query}
use Rattle.ucq_terms.specs.Homomorphism.{AreIsomorphic}
use Rattle.ucq_hom.specs.Search.{IsOrder}
use Rattle.ucq_fold.specs.inner.Agreement.{renamed}
use Rattle.ucq_fold.proofs.Renamings.{IsTermOf-answer}
use Rattle.ucq_fold.proofs.Placings.{AreIsomorphic-placed, Renames-isomorphism, renamed-renamed}
use Rattle.ucq_fold.proofs.isomorphism.find_renaming.Goals as goal

not_false : (found : Bool) → (found ≡ false → ⊥) → IsTrue found
not_false true n = refl
not_false false n = absurd (n refl)

-- the answers of isomorphic queries are renamed
answers_renamed : (a b : Query) (i : AreIsomorphic a b) → renamed a.answers b.answers ≡ true
answers_renamed a b i =
    renamed-renamed i.renaming a a.answers b.answers (Renames-isomorphism i.renaming a b i.isomorphism) (IsTermOf-answer a) i.isomorphism.answers

pub returns-then-not-is_renamed : goal.returns-then-not-is_renamed
returns-then-not-is_renamed c = (
  λ e. cc,
  λ i.
      let yes' : c.is_renamed.result ≡ true =
      c.is_renamed.ensures ∙ (ap₂ (λ (xs ys : List Term). renamed xs ys) c.answers.ensures.answers c.answers-2.ensures.answers ∙ answers_renamed c.args.a.now c.args.b.now i) in
      let no' = c.if-not-is_renamed.true in
      cc,
)

pub returns : goal.returns
returns c =
    let a = c.args.a.now in
    let b = c.args.b.now in
    let order = c.order_atoms.new.order in
    let o : IsOrder a.atoms order = subst (λ (x : List Atom). IsOrder x order) c.atoms-atoms.ensures.atoms c.order_atoms.ensures in (
      λ e. AreIsomorphic-placed a b order c.place_rest.new.images (c.place_rest.ensures.found e) o c.atoms-atoms.ensures.stored.once c.requires,
      λ i. not_false c.place_rest.result (λ e. c.place_rest.ensures.none e i.renaming i.isomorphism (record { each = λ k l. absurd (omega arith) })),
    )
