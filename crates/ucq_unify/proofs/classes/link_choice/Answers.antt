use Rattle.std.proofs.Common.{ℕ, List, take, sym, ◌∙◌, subst, arith, Option}
use Rattle.std.proofs.lemmas.List.{take_all}
use Rattle.ucq_terms.specs.Unifier.{Node, links}
use Rattle.ucq_classes.specs.Classes.{IsClassed}
use Rattle.ucq_unify.specs.inner.Growing.{pairs_of}
use Rattle.ucq_unify.specs.inner.Sides.{AreNumbered}
use Rattle.ucq_unify.proofs.Choices.{pair_from_head}
use Rattle.ucq_unify.proofs.Linked.{links_of-more}
use Rattle.ucq_unify.proofs.classes.link_choice.Goals as goal

pub loop-place-init : goal.loop-place-init
loop-place-init c = record { numbers = c.clear.ensures.numbers; linked = c.clear.ensures.alone }

pub link_place-requires-clause-sides : goal.link_place-requires-clause-sides
link_place-requires-clause-sides c =
    subst (AreNumbered c.args.sides.now.query.now c.args.sides.now.rule.now c.args.sides.now.existential.items) (sym c.loop-place.invariant.numbers) c.requires.sides

pub link_place-requires-clause-keeps : goal.link_place-requires-clause-keeps
link_place-requires-clause-keeps c = λ h e. c.requires.keeps.each (c.loop-place.place, h) (pair_from_head c.args.choice.now c.loop-place.place h e)

pub loop-place-preserved : goal.loop-place-preserved
loop-place-preserved c =
    let q = c.args.sides.now.query.now in
    let r = c.args.sides.now.rule.now in
    record {
      numbers = c.link_place.ensures.numbers ∙ c.loop-place.invariant.numbers;
      linked = subst (λ (ls : List (Node × Node)). IsClassed ls c.link_place.new.classes)
          (sym (links_of-more q r c.args.choice.now c.loop-place.place c.loop-place-test.true))
          (c.link_place.ensures.linked (links q 0 r (pairs_of (take c.loop-place.place c.args.choice.now))) c.loop-place.invariant.linked);
    }

pub returns : goal.returns
returns c = record {
  numbers = c.loop-place.invariant.numbers;
  linked = subst (λ (xs : List (Option ℕ)). IsClassed (links c.args.sides.now.query.now 0 c.args.sides.now.rule.now (pairs_of xs)) c.loop-place.classes)
      (take_all c.loop-place.place c.args.choice.now (omega arith)) c.loop-place.invariant.linked;
}
