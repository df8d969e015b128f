use Rattle.std.proofs.Common.{◌≡◌, ap, map, subst, sym}
use Rattle.std.specs.Prelude.{MatchResult, string_bytes}
use Rattle.ucq_reader.specs.Outcome.{input_value}
use Rattle.ucq_words.specs.Settings.{JobValue, files, job_value}
use Rattle.ucq_run.specs.Inputs.{IsInputOf}
use Rattle.ucq_run.specs.Causes.{IsJobCause}
use Rattle.ucq_run.proofs.inputs.input_of.Goals as goal

pub returns-in-Files-clause-input : goal.returns-in-Files-clause-input
returns-in-Files-clause-input g c =
    let held = g.H.Shelf.held c.args.shelf.now in
    let before = g.H.Shelf.faults c.args.shelf.now in
    let after = g.H.Shelf.faults c.read_input.new.shelf in
    let named : job_value c.args.job.now ≡ files (map string_bytes c.in-Files.names.items) = ap job_value c.in-Files.is in
    let here =
    subst (λ names. MatchResult c.read_input.result (λ input. IsInputOf held (files (map string_bytes names)) (input_value input))
    (λ outcome. IsJobCause held (files (map string_bytes names)) before after outcome)) c.as_slice.ensures.value c.read_input.ensures.input in
    subst (λ (job : JobValue). MatchResult c.read_input.result (λ input. IsInputOf held job (input_value input)) (λ outcome. IsJobCause held job before after outcome)) (sym named) here
