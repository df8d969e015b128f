use Rattle.std.proofs.Common.{arith, subst}
use Rattle.std.proofs.lemmas.List.Elements.{Contains-get_or}
use Rattle.ucq_terms.specs.declared.Term.{Term}
use Rattle.ucq_terms.specs.declared.Term.TheVariants.{Constant}
use Rattle.std.specs.Prelude.{Contains}
use Rattle.ucq_hom.proofs.Matched.{IsMatched-more, IsClash-at}
use Rattle.ucq_bans.proofs.matching.match_terms.Goals as goal

pub match_term-requires : goal.match_term-requires
match_term-requires c = λ v e. c.requires.low v (subst (λ (t : Term). Contains c.args.terms.now t) e (Contains-get_or c.args.terms.now c.loop-i.i (Constant 0) (omega arith)))

pub returns-then-not-match_term-clause-clash : goal.returns-then-not-match_term-clause-clash
returns-then-not-match_term-clause-clash c = λ _.
    IsClash-at c.args.bindings.now c.loop-i.bindings c.args.terms.now c.args.targets.now c.loop-i.i (Constant 0) (Constant 0) (omega arith) c.loop-i.invariant
    (c.match_term.ensures.clash c.if-not-match_term.true)

pub loop-i-preserved : goal.loop-i-preserved
loop-i-preserved c =
    IsMatched-more c.args.bindings.now c.loop-i.bindings c.match_term.new.bindings c.args.terms.now c.args.targets.now c.loop-i.i (Constant 0) (Constant 0)
    (omega arith) (omega arith) c.loop-i.invariant (c.match_term.ensures.matched c.if-not-match_term.false)
