use Rattle.std.proofs.Common.{length, sym, arith}
use borrow.Author.Rules.{rules}
use Rattle.std.proofs.lemmas.List.Sums.{position_or_len_is}
use Rattle.ucq_terms.specs.declared.Term.TheVariants.{Constant}
use Rattle.ucq_terms.specs.Numbering.{term_eq}
use Rattle.ucq_sql.proofs.columns.first_place.Goals as goal

pub returns-then-eq-clause-place : goal.returns-then-eq-clause-place
returns-then-eq-clause-place c =
    sym (position_or_len_is (term_eq c.args.term) c.args.terms.now c.loop-place.place (Constant 0) (omega arith)
    (λ k l. c.loop-place.invariant k (Constant 0) l) (λ l. let same = c.eq.ensures in let yes = c.if-eq.true in search (rules)))

pub returns-clause-place : goal.returns-clause-place
returns-clause-place c =
    sym (position_or_len_is (term_eq c.args.term) c.args.terms.now (length c.args.terms.now) (Constant 0) (omega arith)
    (λ k l. c.loop-place.invariant k (Constant 0) (omega (arith, l))) (λ l. absurd (omega arith)))
