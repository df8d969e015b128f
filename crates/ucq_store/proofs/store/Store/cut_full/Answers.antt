use Rattle.std.proofs.Common.{sym, subst}
use Rattle.ucq_store.specs.Store.{Store}
use Rattle.ucq_store.specs.Lawful.{IsLeftOver}
use Rattle.ucq_store.proofs.Cutting.{full_keeps}
use Rattle.ucq_store.proofs.store.Store.cut_full.Goals as goal

pub invariant_of-self : goal.invariant_of-self
invariant_of-self c =
    let f = c.self.inside in
    let s : Store = record { problem = f.problem.now; budget = f.antichain.budget; rows = f.antichain.rows; marks = f.marks.items; level = f.level; claims = f.claims; cut = f.cut } in
    let left : IsLeftOver s.problem s.budget s.rows c.args.left = subst (λ (v : Store). IsLeftOver v.problem v.budget v.rows c.args.left) (sym c.self.view_is) c.requires in
    ((full_keeps s c.args.left left).by_levels c.self.invariant.0, c.self.invariant.1, c.self.invariant.2)
