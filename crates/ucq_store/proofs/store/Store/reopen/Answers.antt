use Rattle.ucq_store.specs.Store.{Store}
use Rattle.ucq_store.proofs.AllStates.{reopen_keeps}
use Rattle.ucq_store.proofs.store.Store.reopen.Goals as goal

pub invariant_of-self : goal.invariant_of-self
invariant_of-self c =
    let f = c.self.inside in
    let s : Store = record { problem = f.problem.now; budget = f.antichain.budget; rows = f.antichain.rows; marks = f.marks.items; level = f.level; claims = f.claims; cut = f.cut } in
    ((reopen_keeps s c.reopen.new.self.items c.reopen.ensures.items).by_levels c.self.invariant.0, c.self.invariant.1, rw c.reopen.ensures.room c.self.invariant.2)
