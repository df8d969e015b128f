use Rattle.std.proofs.Common.{◌≡◌, ◌<◌, ◌∙◌, ℕ, ap, arith, refl, subst, sym}
use Rattle.ucq_outside.specs.Taken.{change_of, Follows}
use Rattle.ucq_run.specs.declared.outcome.Outcome.{Outcome}
use Rattle.ucq_run.specs.Printed.{PrintsParts}
use Rattle.ucq_run.specs.inner.Request.{part_count, parts_for}
use Rattle.ucq_run.proofs.Turns.{IsTurn, both_later, loop_ends, turn_cut, turn_ends, turn_finished}
use Rattle.ucq_run.proofs.sections.print_all_by_crew.Goals.{in-Finished, in-Cut}
use Rattle.ucq_run.proofs.sections.print_all_by_crew.Goals as goal

pub returns-in_default : goal.returns-in_default
returns-in_default g c =
    let s = c.args.shared.now in
    let rules = c.args.rules.items in
    let all = c.args.queries.now in
    let first = change_of (g.K.Sink.taken c.args.out.now) (g.K.Sink.taken c.loop-number.out) (g.K.Sink.faults c.args.out.now) (g.K.Sink.faults c.loop-number.out) in
    let second =
    change_of (g.K.Sink.taken c.loop-number.out) (g.K.Sink.taken c.print_part_by_crew-outcome.new.out) (g.K.Sink.faults c.loop-number.out)
    (g.K.Sink.faults c.print_part_by_crew-outcome.new.out) in
    let kept = c.print_part_by_crew-outcome.result.1.items in
    let o = c.print_part_by_crew-outcome.result.0 in
    let turn : IsTurn s rules all c.loop-number.number c.loop-number.rules.items kept second o = record {
      prints = c.print_part_by_crew-outcome.ensures.prints;
      back = c.print_part_by_crew-outcome.ensures.rules;
      later = c.print_part_by_crew-outcome.ensures.later;
    } in
    let follows : Follows first second = record { taken = refl; faults = refl } in
    let count : c.part_count-count.result ≡ part_count s.mode all rules = c.part_count-count.ensures ∙ ap (part_count s.mode all) c.as_slice.ensures.value in
    let inside : c.loop-number.number < part_count s.mode all rules = subst (λ (n : ℕ). c.loop-number.number < n) count c.loop-number-test.true in
    record {
      prints = turn_ends s rules all c.loop-number.number c.loop-number.rules.items c.loop-number.cut first c.loop-number.invariant inside kept second o turn follows c.in_default.not-Finished c.in_default.not-Cut;
      later = both_later s rules all c.loop-number.number c.loop-number.rules.items c.loop-number.cut first c.loop-number.invariant inside kept second o turn follows;
    }

pub loop-number-preserved : goal.loop-number-preserved
loop-number-preserved g c =
    let s = c.args.shared.now in
    let rules = c.args.rules.items in
    let all = c.args.queries.now in
    let first = change_of (g.K.Sink.taken c.args.out.now) (g.K.Sink.taken c.loop-number.out) (g.K.Sink.faults c.args.out.now) (g.K.Sink.faults c.loop-number.out) in
    let second =
    change_of (g.K.Sink.taken c.loop-number.out) (g.K.Sink.taken c.print_part_by_crew-outcome.new.out) (g.K.Sink.faults c.loop-number.out)
    (g.K.Sink.faults c.print_part_by_crew-outcome.new.out) in
    let kept = c.print_part_by_crew-outcome.result.1.items in
    let o = c.print_part_by_crew-outcome.result.0 in
    let turn : IsTurn s rules all c.loop-number.number c.loop-number.rules.items kept second o = record {
      prints = c.print_part_by_crew-outcome.ensures.prints;
      back = c.print_part_by_crew-outcome.ensures.rules;
      later = c.print_part_by_crew-outcome.ensures.later;
    } in
    let follows : Follows first second = record { taken = refl; faults = refl } in
    let count : c.part_count-count.result ≡ part_count s.mode all rules = c.part_count-count.ensures ∙ ap (part_count s.mode all) c.as_slice.ensures.value in
    let inside : c.loop-number.number < part_count s.mode all rules = subst (λ (n : ℕ). c.loop-number.number < n) count c.loop-number-test.true in
    elim c.match-outcome.branch [
      | in-Finished w ↦ rw (w.cut-is)
          (turn_finished s rules all c.loop-number.number c.loop-number.rules.items c.loop-number.cut first c.loop-number.invariant inside kept second o turn follows w.in-Finished.is)
      | in-Cut w ↦ rw (w.cut-is)
          (turn_cut s rules all c.loop-number.number c.loop-number.rules.items c.loop-number.cut first c.loop-number.invariant inside kept second o turn follows w.in-Cut.is)
    ]

pub returns-clause-prints : goal.returns-clause-prints
returns-clause-prints g c = λ facts about.
    let s = c.args.shared.now in
    let rules = c.args.rules.items in
    let all = c.args.queries.now in
    let out = change_of (g.K.Sink.taken c.args.out.now) (g.K.Sink.taken c.loop-number.out) (g.K.Sink.faults c.args.out.now) (g.K.Sink.faults c.loop-number.out) in
    let below = c.loop-number.auto.number-end in
    let behind = c.loop-number-test.false in
    let end : c.loop-number.number ≡ c.part_count-count.result = omega (arith, below, behind) in
    let count : c.part_count-count.result ≡ part_count s.mode all rules = c.part_count-count.ensures ∙ ap (part_count s.mode all) c.as_slice.ensures.value in
    subst (λ (o : Outcome). PrintsParts (parts_for s rules all facts) out o) (sym c.ended.ensures)
    (loop_ends s rules all c.loop-number.number c.loop-number.rules.items c.loop-number.cut out c.loop-number.invariant (end ∙ count) facts about)
