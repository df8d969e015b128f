use Rattle.std.proofs.Common.{◌≡◌, ℕ, refl, sym, ap, ◌∙◌, Bool, true, false, not, subst}
use Rattle.std.specs.Option.{is_some}
use Rattle.ucq_store.specs.declared.RowState.TheVariants.{Waiting}
use Rattle.ucq_store.specs.Store.{Store, IsLive, state_of, IsFinished}
use Rattle.ucq_store.proofs.Live.{live_is_row}
use Rattle.ucq_store.proofs.Steps.{idle_rows, none_from, some_in_work}
use Rattle.ucq_store.proofs.store.Store.is_finished.Goals.{then-is_some-via-then-is_some, then-is_some-via-else-is_some+then-is_any_in_work}
use Rattle.ucq_store.proofs.store.Store.is_finished.Goals as goal

not_from : (b : Bool) → (b ≡ true → ⊥) → not b ≡ true
not_from true h = absurd (h refl)
not_from false h = refl

-- a store isn't finished that is cut or has a row in work
pub returns-then-is_some-clause-finished : goal.returns-then-is_some-clause-finished
returns-then-is_some-clause-finished c =
    let f = c.self.inside in
    let s : Store = record { problem = f.problem.now; budget = f.antichain.budget; rows = f.antichain.rows; marks = f.marks.items; level = f.level; claims = f.claims; cut = f.cut } in (
      λ e. let bad : false ≡ true = e in absurd (cc),
      λ end.
          let now : IsFinished s = subst IsFinished (sym c.self.view_is) end in
          absurd (elim c.then-is_some.branch [
            | then-is_some-via-then-is_some w ↦ let bad : true ≡ false = w.if-is_some.ensures ∙ ap is_some now.uncut in cc
            | then-is_some-via-else-is_some+then-is_any_in_work w ↦
                some_in_work s.rows s.marks c.self.invariant.0.lawful.marks_fit now.none_in_work (w.if-is_any_in_work.ensures.0 refl)
          ]),
    )

pub returns-clause-finished : goal.returns-clause-finished
returns-clause-finished c =
    let f = c.self.inside in
    let s : Store = record { problem = f.problem.now; budget = f.antichain.budget; rows = f.antichain.rows; marks = f.marks.items; level = f.level; claims = f.claims; cut = f.cut } in
    let idle = idle_rows s.rows s.marks c.self.invariant.0.lawful.marks_fit c.if-is_any_in_work.ensures.1 in
    let waiting : (row : ℕ) → IsLive s row → state_of s row ≡ Waiting → c.does_any_wait.result ≡ true = λ row live e.
    c.does_any_wait.ensures.1 (row, live_is_row s.rows row live, live, e) in (
      λ none. subst IsFinished c.self.view_is (record {
        uncut = none_from f.cut c.if-is_some.ensures;
        none_in_work = idle;
        no_live_waits = λ row live e. let bad : false ≡ true = sym (ap not (waiting row live e)) ∙ none in cc;
      }),
      λ end.
          let now : IsFinished s = subst IsFinished (sym c.self.view_is) end in
          not_from c.does_any_wait.result (λ e. let (row, l, live, waits) = c.does_any_wait.ensures.0 e in now.no_live_waits row live waits),
    )
