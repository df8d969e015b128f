use Rattle.std.proofs.Common.{◌≤◌, refl, sym, subst, inl, inr, arith}
use Rattle.ucq_terms.specs.Unifier.{links}
use Rattle.ucq_unify.specs.inner.Growing.{pairs_of}
use Rattle.ucq_unify.specs.inner.Sides.{AreNumbered}
use Rattle.ucq_unify.proofs.Growth.{unlike_blocks, clash_blocks, called_for, closed_unifies}
use Rattle.ucq_unify.proofs.Clashing.{clash_found, clash_none, called_from, called_at}
use Rattle.ucq_unify.proofs.search.next_step.Goals as goal

pub has_clash-requires : goal.has_clash-requires
has_clash-requires c = subst (AreNumbered c.args.sides.now.query.now c.args.sides.now.rule.now c.args.sides.now.existential.items) (sym c.link_choice.ensures.numbers) c.requires.sides

pub first_called-requires-clause-sides : goal.first_called-requires-clause-sides
first_called-requires-clause-sides c = subst (AreNumbered c.args.sides.now.query.now c.args.sides.now.rule.now c.args.sides.now.existential.items) (sym c.link_choice.ensures.numbers) c.requires.sides

pub returns-then-has_clash-clause-step : goal.returns-then-has_clash-clause-step
returns-then-has_clash-clause-step c =
    let q = c.args.sides.now.query.now in
    let r = c.args.sides.now.rule.now in
    let flags = c.args.sides.now.existential.items in
    let choice = c.args.choice.now in
    let ls = links q 0 r (pairs_of choice) in
    let v = c.link_choice.new.classes in
    let h = subst (AreNumbered q r flags) (sym c.link_choice.ensures.numbers) c.requires.sides in
    record {
      none = λ piece U w s. elim (c.has_clash.ensures.clash ls c.link_choice.ensures.linked c.if-has_clash.true) [
        | inl u ↦ unlike_blocks q r choice piece u U w
        | inr s ↦ clash_blocks q r choice piece (clash_found q r flags v.numbers h ls s) U w
      ];
    }

pub returns-in-None-clause-step : goal.returns-in-None-clause-step
returns-in-None-clause-step c =
    let q = c.args.sides.now.query.now in
    let r = c.args.sides.now.rule.now in
    let flags = c.args.sides.now.existential.items in
    let choice = c.args.choice.now in
    let ls = links q 0 r (pairs_of choice) in
    let v = c.link_choice.new.classes in
    let h = subst (AreNumbered q r flags) (sym c.link_choice.ensures.numbers) c.requires.sides in
    let none = c.has_clash.ensures.none ls c.link_choice.ensures.linked c.if-has_clash.false in
    closed_unifies q r c.args.root choice c.requires.grown c.requires.some
    (clash_none q r flags v ls h c.link_choice.ensures.linked none.0 none.1)
    (λ place l f a. c.in-None.ensures.none ls c.link_choice.ensures.linked refl place (called_at q r flags v.numbers h choice place l f a))

pub returns-in-Some-clause-step : goal.returns-in-Some-clause-step
returns-in-Some-clause-step c =
    let q = c.args.sides.now.query.now in
    let r = c.args.sides.now.rule.now in
    let flags = c.args.sides.now.existential.items in
    let choice = c.args.choice.now in
    let a = c.in-Some.ensures.some (links q 0 r (pairs_of choice)) c.link_choice.ensures.linked in
    record {
      none = λ piece U w s.
          let (head, i) = called_for q r choice c.in-Some.place piece U w a.within (called_from q r flags c.args.classes.now.numbers c.requires.sides choice c.in-Some.place a) in
          let l : c.args.root ≤ c.in-Some.place = s.each (c.in-Some.place, head) i in
          omega (arith, c.if-place-root.true);
    }

pub returns-in-Some-2-clause-step : goal.returns-in-Some-2-clause-step
returns-in-Some-2-clause-step c =
    let q = c.args.sides.now.query.now in
    let r = c.args.sides.now.rule.now in
    let flags = c.args.sides.now.existential.items in
    let choice = c.args.choice.now in
    let a = c.in-Some.ensures.some (links q 0 r (pairs_of choice)) c.link_choice.ensures.linked in
    record {
      within = a.within;
      above = omega (arith, c.if-place-root.false);
      free = a.free;
      calls = called_from q r flags c.args.classes.now.numbers c.requires.sides choice c.in-Some.place a;
    }
