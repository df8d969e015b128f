use Rattle.std.proofs.Common.{append_assoc, refl, rules, subst, sym, ◌≡◌, ◌++◌, Err}
use Rattle.ucq_outside.specs.Taken.{change_of}
use Rattle.ucq_print.specs.Texts.{lines_text}
use Rattle.ucq_run.specs.Compared.{compared_lines}
use Rattle.ucq_run.specs.inner.Reading.{IsWritten}
use Rattle.ucq_run.specs.inner.Solved.{solved_text}
use Rattle.ucq_run.proofs.Written.{GoOn, both_written, unwritten_with_more}
use Rattle.ucq_run.proofs.parts.write_compared.Goals as goal

pub returns-in_err-write_solved-clause-written : goal.returns-in_err-write_solved-clause-written
returns-in_err-write_solved-clause-written g c =
    let taken = g.K.Sink.taken in
    let faults = g.K.Sink.faults in
    let header = c.args.header.now in
    let text = solved_text c.args.shared.now c.args.solved.now in
    let lines = lines_text (compared_lines c.args.shared.now.names c.args.number c.args.compared.now.told.items c.args.compared.now.minimal) in
    let sink = change_of (taken c.args.out.now) (taken c.write_solved.new.out) (faults c.args.out.now) (faults c.write_solved.new.out) in
    let e = c.in_err-write_solved.field-0.0 in
    let wrote = unwritten_with_more sink (header ++ text) lines e c.in_err-write_solved.ensures.written in
    let is : c.from_residual.result ≡ Err e = search rules in
    subst (λ answer. IsWritten sink (header ++ (text ++ lines)) answer) (sym is)
    (subst (λ whole. IsWritten sink whole (Err e)) (append_assoc header text lines) wrote)

pub returns-clause-written : goal.returns-clause-written
returns-clause-written g c =
    let taken = g.K.Sink.taken in
    let faults = g.K.Sink.faults in
    let header = c.args.header.now in
    let text = solved_text c.args.shared.now c.args.solved.now in
    let lines = lines_text (compared_lines c.args.shared.now.names c.args.number c.args.compared.now.told.items c.args.compared.now.minimal) in
    let first = change_of (taken c.args.out.now) (taken c.write_solved.new.out) (faults c.args.out.now) (faults c.write_solved.new.out) in
    let second = change_of (taken c.write_solved.new.out) (taken c.write_text.new.sink) (faults c.write_solved.new.out) (faults c.write_text.new.sink) in
    let both = change_of (taken c.args.out.now) (taken c.write_text.new.sink) (faults c.args.out.now) (faults c.write_text.new.sink) in
    let on : GoOn first second = record { follows = record { taken = refl; faults = refl }; later = c.write_solved.ensures.later; later_still = c.write_text.ensures.later } in
    let wrote = both_written first second (header ++ text) lines c.write_text.result on c.in_ok-write_solved.ensures.written c.write_text.ensures.written in
    subst (λ whole. IsWritten both whole c.write_text.result) (append_assoc header text lines) wrote
