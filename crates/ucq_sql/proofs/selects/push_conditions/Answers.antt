use Rattle.std.proofs.Common.{◌++◌, ◌+◌, List, take, ap, arith}
use Rattle.ucq_terms.specs.declared.Term.{Term}
use Rattle.ucq_sql.specs.Selects.{conditions_in, row_conditions}
use Rattle.ucq_sql.proofs.Growing.{behind-more, conditions_in-next}
use Rattle.ucq_sql.proofs.selects.push_conditions.Goals as goal

pub loop-alias-preserved : goal.loop-alias-preserved
loop-alias-preserved c =
    let atoms = c.args.atoms.now in
    let i = c.loop-alias.alias in
    let a = c.index-atoms-alias.result in
    let next = conditions_in-next atoms atoms i a c.loop-alias-test.true c.index-atoms-alias.is in
    let same = ap (λ (ts : List Term). conditions_in atoms (take i atoms) ++ row_conditions atoms i ts) c.terms.ensures.terms in
    let size = c.terms.ensures.few in
    record {
      behind = behind-more c.args.names.now c.args.text.now.items 0 (conditions_in atoms (take i atoms)) (row_conditions atoms i c.terms.result.now) (conditions_in atoms (take (i + 1) atoms))
          c.loop-alias.text.items c.push_row_conditions.new.text.items c.loop-alias.count c.in_ok-count.count c.loop-alias.invariant.behind (cc) c.in_ok-count.ensures.text c.in_ok-count.ensures.count;
      few = omega (arith, c.in_ok-count.ensures.few);
    }
