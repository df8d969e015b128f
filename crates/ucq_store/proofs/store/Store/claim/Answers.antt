use Rattle.std.proofs.Common.{ℕ, ◌<◌, subst}
use Rattle.ucq_store.specs.Store.{Store, IsRow}
use Rattle.ucq_store.specs.Calls.{IsFirstOpen}
use Rattle.ucq_store.proofs.OneState.{claim_keeps}
use Rattle.ucq_store.proofs.store.Store.claim.Goals as goal

pub invariant_of-self-2 : goal.invariant_of-self-2
invariant_of-self-2 c =
    let f = c.self.inside in
    let s : Store = record { problem = f.problem.now; budget = f.antichain.budget; rows = f.antichain.rows; marks = f.marks.items; level = f.level; claims = f.claims; cut = f.cut } in
    let first : IsFirstOpen s.marks c.in-Some.row = c.in-Some.ensures.found in
    let row_of : IsRow s c.in-Some.row = subst (λ (n : ℕ). c.in-Some.row < n) c.self.invariant.0.lawful.marks_fit first.within in
    rw (c.set_state.ensures, c.first_open.ensures.same) ((claim_keeps s c.in-Some.row row_of first.is_open).by_levels c.self.invariant.0, c.self.invariant.1, c.self.invariant.2)
