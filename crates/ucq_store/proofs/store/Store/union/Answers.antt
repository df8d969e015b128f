use Rattle.std.proofs.Common.{◌≡◌, sym, ◌∙◌, subst}
use Rattle.ucq_terms.specs.Union.{IsExact}
use Rattle.ucq_antichain.specs.Rows.{live_queries}
use Rattle.ucq_store.specs.Store.{Store, IsFinished}
use Rattle.ucq_store.proofs.Finished.{finished_is_exact}
use Rattle.ucq_store.proofs.store.Store.union.Goals as goal

pub returns-clause-exact : goal.returns-clause-exact
returns-clause-exact c =
    let f = c.self.inside in
    let s : Store = record { problem = f.problem.now; budget = f.antichain.budget; rows = f.antichain.rows; marks = f.marks.items; level = f.level; claims = f.claims; cut = f.cut } in
    let end : IsFinished s = subst IsFinished (sym c.self.view_is) c.requires in
    let list : c.new.result ≡ live_queries s.rows = c.new.ensures ∙ c.in_ok-live_copies.ensures.live in
    let exact : IsExact s.problem c.new.result = subst (IsExact s.problem) (sym list) (finished_is_exact s c.self.invariant.0.lawful end) in
    subst (λ (v : Store). IsExact v.problem c.new.result) c.self.view_is exact
