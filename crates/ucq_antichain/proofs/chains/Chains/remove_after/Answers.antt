use Rattle.std.proofs.Common.{ℕ, ◌<◌, ◌∙◌, arith, sym, subst, length}
use Rattle.std.specs.Vec.{vec_capacity}
use Rattle.std.proofs.Math.ListN.{set}
use Rattle.std.proofs.lemmas.List.{get_or_read}
use Rattle.ucq_antichain.specs.inner.Chains.{Chained, KeepsBut}
use Rattle.ucq_antichain.proofs.Links.{KeepsBut-passed}
use Rattle.ucq_antichain.proofs.chains.Chains.remove_after.Goals as goal

pub returns-then-index-link-clause-keeps : goal.returns-then-index-link-clause-keeps
returns-then-index-link-clause-keeps c =
    let f = c.self.inside in
    let inside : c.args.before < length f.next.items = subst (λ (k : Chained). c.args.before < length k.next) (sym c.self.view_is) c.requires.within in
    let follows = get_or_read f.next.items c.args.before c.index.result.now inside c.index.ensures 0 in
    let read = get_or_read f.next.items c.args.link c.index-then-index-link.result.now (omega (arith, c.requires.above, inside)) c.index-then-index-link.ensures 0 in
    let after : Chained = record { heads = f.heads.items; next = set f.next.items c.args.before c.index-then-index-link.result.now; room = vec_capacity f.next } in
    subst (λ (k : Chained). KeepsBut k after c.args.link) c.self.view_is
    (subst (λ (n : ℕ). KeepsBut (record { heads = f.heads.items; next = f.next.items; room = vec_capacity f.next }) (record { heads = f.heads.items; next = set f.next.items c.args.before n; room = vec_capacity f.next })
    c.args.link) (sym read)
    (KeepsBut-passed f.heads.items f.next.items f.filled.items c.args.before c.args.link c.self.invariant c.requires.some c.requires.above inside (sym follows ∙ c.if-index-link.true) (vec_capacity f.next)))
