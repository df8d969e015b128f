use Rattle.std.proofs.Common.{◌≡◌, sym, subst}
use Rattle.ucq_store.specs.Store.{Store, IsRow, depth_of}
use Rattle.ucq_store.specs.Changes.{IsExhausted}
use Rattle.ucq_store.proofs.OneState.{done_keeps}
use Rattle.ucq_store.proofs.store.Store.finish.Goals as goal

pub invariant_of-self : goal.invariant_of-self
invariant_of-self c =
    let f = c.self.inside in
    let s : Store = record { problem = f.problem.now; budget = f.antichain.budget; rows = f.antichain.rows; marks = f.marks.items; level = f.level; claims = f.claims; cut = f.cut } in
    let l : IsRow s c.args.row = subst (λ (v : Store). IsRow v c.args.row) (sym c.self.view_is) c.requires.row in
    let at : depth_of s c.args.row ≡ s.level = subst (λ (v : Store). depth_of v c.args.row ≡ v.level) (sym c.self.view_is) c.requires.level in
    let all : IsExhausted s c.args.row = subst (λ (v : Store). IsExhausted v c.args.row) (sym c.self.view_is) c.requires.exhausted in
    rw c.set_state.ensures ((done_keeps s c.args.row l at all).by_levels c.self.invariant.0, c.self.invariant.1, c.self.invariant.2)
