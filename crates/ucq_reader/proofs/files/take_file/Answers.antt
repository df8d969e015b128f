use Rattle.std.proofs.Common.{refl}
use Rattle.std.proofs.lemmas.Result.{err_from_is_err_and}
use Rattle.ucq_reader.specs.declared.ReadFault.{ReadFault}
use Rattle.ucq_reader.specs.Meaning.{malformed}
use Rattle.ucq_reader.specs.Input.{IsRead}
use Rattle.ucq_reader.specs.Outcome.{IsFileFault}
use Rattle.ucq_reader.proofs.Taking.{or_memory_map}
use Rattle.ucq_reader.proofs.files.take_file.Goals as goal

pub returns-in_err-tokens-clause-fault : goal.returns-in_err-tokens-clause-fault
returns-in_err-tokens-clause-fault c =
    let p = err_from_is_err_and c.from_residual.result c.from_residual.ensures.1 in
    rw (p.1, p.2) (or_memory_map (λ (f : ReadFault). IsRead c.args.file c.args.text.now (malformed f)) (IsFileFault c.args.file c.args.text.now) (λ f r. (malformed f, r, refl)) c.in_err-tokens.field-0.0 c.in_err-tokens.ensures.fault)
