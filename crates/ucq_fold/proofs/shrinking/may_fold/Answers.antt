use Rattle.std.proofs.Common.{◌<◌, List, length, subst, sym, arith}
use Rattle.ucq_terms.specs.Syntax.{Atom}
use Rattle.ucq_fold.proofs.Shrunk.{IsCore-needed}
use Rattle.ucq_fold.proofs.shrinking.may_fold.Goals as goal

pub returns-clause-core : goal.returns-clause-core
returns-clause-core c = λ _. IsCore-needed c.args.query.now (λ k l. c.loop-place.invariant.needed k (
    let m : k < length c.atoms.result.now = subst (λ (x : List Atom). k < length x) (sym c.atoms.ensures.atoms) l in
    omega arith))
