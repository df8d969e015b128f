use Rattle.std.proofs.Common.{append_assoc, ap, refl, rules, subst, sym, ◌∙◌, ◌++◌, ◌≡◌, ℕ, List, Err}
use Rattle.ucq_terms.specs.Syntax.{Query}
use Rattle.ucq_antichain.specs.Rows.{live_queries}
use Rattle.ucq_outside.specs.Taken.{change_of}
use Rattle.ucq_print.specs.Texts.{answer_lines, answered_text, finished_text, lines_text}
use Rattle.ucq_run.specs.inner.Reading.{IsWritten}
use Rattle.ucq_run.proofs.Told.{answered_about}
use Rattle.ucq_run.proofs.Written.{GoOn, both_written, unwritten_with_more}
use Rattle.ucq_run.proofs.finished.write_answered.Goals as goal

-- the answers behind the union, behind the header
behind_header : (header : List ℕ) (names : List (List ℕ)) (union : List Query) (tuples : List (List ℕ)) →
    (header ++ finished_text names union) ++ lines_text (answer_lines names tuples) ≡ header ++ answered_text names union tuples
behind_header header names union tuples =
    append_assoc header (finished_text names union) (lines_text (answer_lines names tuples)) ∙ ap (λ l. header ++ l) (answered_about names union tuples)

pub returns-in_err-write_finished-clause-written : goal.returns-in_err-write_finished-clause-written
returns-in_err-write_finished-clause-written g c =
    let taken = g.K.Sink.taken in
    let faults = g.K.Sink.faults in
    let names = c.args.names.now in
    let union = live_queries (g.R.Rows.value c.args.rows.now).rows in
    let tuples = c.args.answers.now.tuples in
    let sink = change_of (taken c.args.sink.now) (taken c.write_finished.new.sink) (faults c.args.sink.now) (faults c.write_finished.new.sink) in
    let e = c.in_err-write_finished.field-0.0 in
    let wrote = unwritten_with_more sink (c.args.header.now ++ finished_text names union) (lines_text (answer_lines names tuples)) e c.in_err-write_finished.ensures.written in
    let is : c.from_residual.result ≡ Err e = search rules in
    subst (λ answer. IsWritten sink (c.args.header.now ++ answered_text names union tuples) answer) (sym is)
    (subst (λ text. IsWritten sink text (Err e)) (behind_header c.args.header.now names union tuples) wrote)

pub returns-clause-written : goal.returns-clause-written
returns-clause-written g c =
    let taken = g.K.Sink.taken in
    let faults = g.K.Sink.faults in
    let names = c.args.names.now in
    let union = live_queries (g.R.Rows.value c.args.rows.now).rows in
    let tuples = c.args.answers.now.tuples in
    let first = change_of (taken c.args.sink.now) (taken c.write_finished.new.sink) (faults c.args.sink.now) (faults c.write_finished.new.sink) in
    let second = change_of (taken c.write_finished.new.sink) (taken c.write_text.new.sink) (faults c.write_finished.new.sink) (faults c.write_text.new.sink) in
    let both = change_of (taken c.args.sink.now) (taken c.write_text.new.sink) (faults c.args.sink.now) (faults c.write_text.new.sink) in
    let on : GoOn first second = record { follows = record { taken = refl; faults = refl }; later = c.write_finished.ensures.later; later_still = c.write_text.ensures.later } in
    let text = subst (λ ns. IsWritten second (lines_text (answer_lines ns tuples)) c.write_text.result) c.requires c.write_text.ensures.written in
    let wrote = both_written first second (c.args.header.now ++ finished_text names union) (lines_text (answer_lines names tuples)) c.write_text.result on c.in_ok-write_finished.ensures.written text in
    subst (λ text. IsWritten both text c.write_text.result) (behind_header c.args.header.now names union tuples) wrote
