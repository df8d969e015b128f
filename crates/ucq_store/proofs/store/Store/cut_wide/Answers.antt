use Rattle.std.proofs.Common.{sym, subst}
use Rattle.ucq_store.specs.Store.{Store}
use Rattle.ucq_store.specs.Lawful.{IsWideRow}
use Rattle.ucq_store.proofs.Cutting.{wide_keeps}
use Rattle.ucq_store.proofs.store.Store.cut_wide.Goals as goal

pub invariant_of-self : goal.invariant_of-self
invariant_of-self c =
    let f = c.self.inside in
    let s : Store = record { problem = f.problem.now; budget = f.antichain.budget; rows = f.antichain.rows; marks = f.marks.items; level = f.level; claims = f.claims; cut = f.cut } in
    let wide : IsWideRow s.problem.rules s.rows c.args.row c.args.rule c.args.count = subst (λ (v : Store). IsWideRow v.problem.rules v.rows c.args.row c.args.rule c.args.count) (sym c.self.view_is) c.requires in
    ((wide_keeps s c.args.row c.args.rule c.args.count wide).by_levels c.self.invariant.0, c.self.invariant.1, c.self.invariant.2)
