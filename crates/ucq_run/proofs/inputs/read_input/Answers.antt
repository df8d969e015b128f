use Rattle.std.proofs.Common.{map, subst}
use Rattle.std.specs.Prelude.{string_bytes}
use Rattle.ucq_reader.specs.Outcome.{IsFault, texts}
use Rattle.ucq_run.proofs.FilesRead.{refusal_is_cause}
use Rattle.ucq_run.proofs.inputs.read_input.Goals as goal

pub returns-clause-input : goal.returns-clause-input
returns-clause-input g c =
    let fault = subst (λ files. IsFault (texts files) c.in-Err-read_files.fault) c.as_slice.ensures.value c.in-Err-read_files.ensures.fault in
    refusal_is_cause _ (map string_bytes c.args.names.now) (texts c.in-Ok.files.items) _ _ c.refusal.result c.in-Ok.ensures.files (c.refusal.ensures (texts c.in-Ok.files.items) fault)
