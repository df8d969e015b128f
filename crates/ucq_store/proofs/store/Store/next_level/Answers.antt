use Rattle.std.proofs.Common.{◌≡◌, ◌+◌, ◌≤◌, refl, sym, ap, ◌∙◌, true, false, length, arith, subst}
use Rattle.std.specs.Option.{is_some}
use Rattle.ucq_store.specs.declared.RowState.TheVariants.{Waiting}
use Rattle.ucq_store.specs.Store.{Store, IsRow, IsLive, state_of}
use Rattle.ucq_store.specs.Calls.{CanRise}
use Rattle.ucq_store.proofs.AllStates.{raise_keeps}
use Rattle.ucq_store.proofs.Live.{live_is_row}
use Rattle.ucq_store.proofs.Steps.{room_above, idle_rows, none_from, some_in_work}
use Rattle.ucq_store.proofs.store.Store.next_level.Goals.{then-is_some-via-then-is_some, then-is_some-via-else-is_some+then-is_any_in_work, then-is_some-via-else-is_some+else-is_any_in_work+then-not-does_any_wait}
use Rattle.ucq_store.proofs.store.Store.next_level.Goals as goal

pub overflow_add-self : goal.overflow_add-self
overflow_add-self c =
    let f = c.self.inside in
    let s : Store = record { problem = f.problem.now; budget = f.antichain.budget; rows = f.antichain.rows; marks = f.marks.items; level = f.level; claims = f.claims; cut = f.cut } in
    let (row, l, live, waits) = c.if-not-does_any_wait.ensures.0 refl in
    let m : IsRow s row = l in
    let up : s.level + 1 ≤ row = room_above s row c.self.invariant.0.lawful m waits in
    let within : length s.rows ≤ s.budget = c.self.invariant.0.lawful.rows_are_sound_cores.within in
    let small : s.budget ≤ 65536 = c.self.invariant.1 in
    omega arith

pub invariant_of-self : goal.invariant_of-self
invariant_of-self c =
    let f = c.self.inside in
    let s : Store = record { problem = f.problem.now; budget = f.antichain.budget; rows = f.antichain.rows; marks = f.marks.items; level = f.level; claims = f.claims; cut = f.cut } in
    let idle = idle_rows s.rows s.marks c.self.invariant.0.lawful.marks_fit c.if-is_any_in_work.ensures.1 in
    ((raise_keeps s c.raise.new.self.items idle c.raise.ensures.items).by_levels c.self.invariant.0, c.self.invariant.1, rw c.raise.ensures.room c.self.invariant.2)

pub returns : goal.returns
returns c =
    let f = c.self.inside in
    let s : Store = record { problem = f.problem.now; budget = f.antichain.budget; rows = f.antichain.rows; marks = f.marks.items; level = f.level; claims = f.claims; cut = f.cut } in
    let idle = idle_rows s.rows s.marks c.self.invariant.0.lawful.marks_fit c.if-is_any_in_work.ensures.1 in
    let (row, l, live, waits) = c.if-not-does_any_wait.ensures.0 refl in
    let alive : IsLive s row = live in
    let w : state_of s row ≡ Waiting = waits in
    rw (← c.self.view_is) (
      record { uncut = none_from f.cut c.if-is_some.ensures; none_in_work = idle; one_waits = (row, alive, w) },
      (c.raise.new.self.items, c.raise.ensures.items, refl),
    )

-- a store doesn't rise that is cut, has a row in work, or in which no live row waits
pub returns-then-is_some : goal.returns-then-is_some
returns-then-is_some c =
    let f = c.self.inside in
    let s : Store = record { problem = f.problem.now; budget = f.antichain.budget; rows = f.antichain.rows; marks = f.marks.items; level = f.level; claims = f.claims; cut = f.cut } in (
      λ can.
          let now : CanRise s = subst CanRise (sym c.self.view_is) can in
          elim c.then-is_some.branch [
            | then-is_some-via-then-is_some w ↦ let bad : true ≡ false = w.if-is_some.ensures ∙ ap is_some now.uncut in cc
            | then-is_some-via-else-is_some+then-is_any_in_work w ↦
                some_in_work s.rows s.marks c.self.invariant.0.lawful.marks_fit now.none_in_work (w.if-is_any_in_work.ensures.0 refl)
            | then-is_some-via-else-is_some+else-is_any_in_work+then-not-does_any_wait w ↦
                let (row, live, waits) = now.one_waits in
                let bad : false ≡ true = w.if-not-does_any_wait.ensures.1 (row, live_is_row s.rows row live, live, waits) in
                cc
          ],
      refl,
    )
