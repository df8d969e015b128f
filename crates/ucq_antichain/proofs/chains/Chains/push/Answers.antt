use Rattle.std.proofs.Common.{subst, arith}
use Rattle.std.specs.Vec.{vec_capacity}
use Rattle.std.proofs.Math.ListN.{set}
use Rattle.std.proofs.lemmas.List.{get_or_read}
use Rattle.ucq_antichain.specs.inner.Chains.{Chained, Keeps}
use Rattle.ucq_antichain.proofs.Links.{Keeps-pushed}
use Rattle.ucq_antichain.proofs.chains.Chains.push.Goals as goal

pub returns-clause-keeps : goal.returns-clause-keeps
returns-clause-keeps c =
    let f = c.self.inside in
    let read = get_or_read f.heads.items c.args.key c.index-after.result.now (let s = c.self.invariant.count in let l = c.requires.key in omega arith) c.index-after.ensures 0 in
    let after : Chained = record { heads = set f.heads.items c.args.key c.len-link.result; next = c.push_within.new.items.items; room = vec_capacity c.push_within.new.items } in
    subst (λ (k : Chained). Keeps k after) c.self.view_is
    (Keeps-pushed f.heads.items f.next.items f.filled.items c.args.key c.len-link.result c.index-after.result.now c.push_within.new.items.items c.self.invariant (omega (arith, f.next.ok, c.len-link.ensures)) c.requires.key read
    c.push_within.ensures.items (vec_capacity f.next) (vec_capacity c.push_within.new.items))
