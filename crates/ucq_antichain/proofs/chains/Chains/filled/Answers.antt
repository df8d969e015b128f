use Rattle.std.proofs.Common.{◌+◌, ◌*◌, arith, subst}
use Rattle.std.proofs.lemmas.List.{get_or_read}
use Rattle.ucq_antichain.specs.inner.Chains.{Chained, IsInChain}
use Rattle.ucq_antichain.proofs.Links.{none_beside}
use Rattle.ucq_antichain.proofs.chains.Chains.filled.Goals as goal

pub returns : goal.returns
returns c j low set unset row =
    let f = c.self.inside in
    let read = get_or_read f.filled.items c.args.first c.index.result.now (let s = c.self.invariant.sets in let l = c.requires in omega arith) c.index.ensures 0 in
    subst (λ (k : Chained). ¬ IsInChain k (128 * c.args.first + j) row) c.self.view_is
    (none_beside f.heads.items f.next.items f.filled.items c.args.first j c.index.result.now c.args.others row c.self.invariant c.requires low read set unset)
