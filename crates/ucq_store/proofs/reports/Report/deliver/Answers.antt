use Rattle.std.proofs.Common.{◌∙◌, inl, inr, sym, ap, subst, true}
use Rattle.ucq_store.specs.declared.Published.{Published}
use Rattle.ucq_store.specs.declared.reports.Found.TheVariants.{Whole}
use Rattle.ucq_store.specs.Reports.{Report, IsFound}
use Rattle.ucq_store.specs.Calls.{IsAbout, DoesDeliver}
use Rattle.ucq_store.proofs.Delivered.{CanFinish, can_finish}
use Rattle.ucq_store.proofs.reports.Report.deliver.Goals.{in-Wide, in-Whole+in-Some, in-Whole+in-None}
use Rattle.ucq_store.proofs.reports.Report.deliver.Goals as goal

finishes : (c : goal.After-finish-arg-1) → CanFinish c.take_all.new.store c.args.row
finishes c =
    let f = c.self.inside in
    let r : Report = record { problem = f.problem.now; query = f.query; found = f.found; spent = f.spent } in
    let about : IsAbout c.args.store.now c.args.row r = subst (IsAbout c.args.store.now c.args.row) (sym c.self.view_is) c.requires.about in
    let facts : IsFound r.problem.rules r.query r.found = c.self.invariant (ap (λ (x : Report). x.spent) c.self.view_is ∙ c.requires.unspent) in
    can_finish c.args.store.now c.args.row r c.in-Whole.candidates c.requires.lawful c.requires.uncut about c.requires.level c.in-Whole.is facts c.take_all.new.store
    c.take_all.new.self c.in-None.ensures.does

pub finish-requires-clause-row : goal.finish-requires-clause-row
finish-requires-clause-row c = (finishes c).row_of

pub finish-requires-clause-level : goal.finish-requires-clause-level
finish-requires-clause-level c = (finishes c).row_depth

pub finish-requires-clause-exhausted : goal.finish-requires-clause-exhausted
finish-requires-clause-exhausted c = (finishes c).exhausted

pub returns-clause-does : goal.returns-clause-does
returns-clause-does c =
    let f = c.self.inside in
    let Does : Published → Type 0 = λ answer. DoesDeliver c.args.store.now c.args.row c.args.self.now answer c.match-self.store
    (record { problem = c.match-self.self-inside.problem.now; query = c.match-self.self-inside.query; found = c.match-self.self-inside.found; spent = c.match-self.self-inside.spent }) in
    elim c.match-self.branch [
      | in-Wide w ↦ subst Does (sym w.result-is) (inr (record {
        rule = w.in-Wide.rule;
        count = w.in-Wide.count;
        were = ap (λ (x : Report). x.found) (sym c.self.view_is) ∙ w.in-Wide.is;
        store = w.store-is ∙ w.cut_wide.ensures;
        spent = rw w.self-inside-is (rw (← w.in-Wide.is) (ap (λ (x : Report). let then : Report = record x { spent = true } in then) c.self.view_is));
      }))
      | in-Whole+in-Some w ↦ subst Does (sym w.result-is) (inl (record {
        candidates = w.in-Whole.candidates;
        were = ap (λ (x : Report). x.found) (sym c.self.view_is) ∙ w.in-Whole.is;
        left = w.in-Some.left;
        taken = w.take_all.new.store;
        candidates_then = w.take_all.new.self;
        fills = w.in-Some.ensures.does;
        store = w.store-is ∙ w.cut_full.ensures;
        spent = rw w.self-inside-is (ap (λ (x : Report). let then : Report = record x { found = Whole w.take_all.new.self; spent = true } in then) c.self.view_is);
      }))
      | in-Whole+in-None w ↦ subst Does (sym w.result-is) (record {
        candidates = w.in-Whole.candidates;
        were = ap (λ (x : Report). x.found) (sym c.self.view_is) ∙ w.in-Whole.is;
        taken = w.take_all.new.store;
        candidates_then = w.take_all.new.self;
        takes = w.in-None.ensures.does;
        store = w.store-is ∙ w.finish.ensures;
        spent = rw w.self-inside-is (ap (λ (x : Report). let then : Report = record x { found = Whole w.take_all.new.self; spent = true } in then) c.self.view_is);
      })
    ]
