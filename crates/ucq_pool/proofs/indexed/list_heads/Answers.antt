use Rattle.std.proofs.Common.{◌≡◌, ℕ, subst, sym, ap, ◌∙◌}
use Rattle.ucq_terms.specs.Syntax.{Atom}
use Rattle.ucq_terms.specs.Unifier.{atom_at}
use Rattle.ucq_pool.specs.inner.ByHead.{IsListed}
use Rattle.ucq_pool.proofs.Listed.{one_before, atom_read}
use Rattle.ucq_pool.proofs.indexed.list_heads.Goals as goal

pub loop-place-preserved : goal.loop-place-preserved
loop-place-preserved c =
    let heads = c.args.rule.now.heads in
    let read = atom_read heads c.heads-heads.result.now c.loop-place.place c.index-heads-place.result c.heads-heads.ensures.heads c.loop-place-test.true c.index-heads-place.is in
    let name : c.name.result ≡ (atom_at heads c.loop-place.place).name = c.name.ensures ∙ ap (λ (a : Atom). a.name) (sym read) in
    one_before heads c.loop-place.place c.args.number c.args.lists.now c.loop-place.lists c.list.new.lists c.loop-place.invariant
    (subst (λ (n : ℕ). IsListed c.loop-place.lists n c.args.number c.list.new.lists) name c.in_ok-list.ensures)
