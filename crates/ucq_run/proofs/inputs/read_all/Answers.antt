use Rattle.std.proofs.Common.{take, ◌+◌, ◌≡◌, ◌∙◌, ap, sym, subst, arith, ◌∷◌, [], ◌++◌, map}
use Rattle.std.specs.Prelude.{IfSome, string_bytes}
use Rattle.std.proofs.lemmas.List.{map-append}
use Rattle.ucq_reader.specs.Outcome.{byte_count, texts}
use Rattle.ucq_run.specs.Inputs.{AreFileTexts}
use Rattle.ucq_run.specs.Causes.{IsUnreadAt}
use Rattle.ucq_run.proofs.FilesRead.{byte_count-more, mapped_at, one_more_read, unread_is_cause}
use Rattle.ucq_run.proofs.inputs.read_all.Goals as goal

pub loop-file-preserved : goal.loop-file-preserved
loop-file-preserved g c =
    let held = g.H.Shelf.held c.args.shelf.now in
    let names = map string_bytes c.args.names.now in
    let before = texts c.loop-file.files.items in
    let name = c.as_str.result.now in
    let text = c.in-Ok.bytes.items in
    let named = mapped_at string_bytes c.args.names.now c.loop-file.file c.index-names-file.result name c.loop-file-test.true c.index-names-file.is c.as_str.ensures.value in
    let told = subst (λ o. IfSome o (λ file. text ≡ file)) (c.loop-file.invariant.held name) c.in-Ok.ensures.read.0 in
    let short = c.in-Ok.ensures.read.1 in
    let total = c.loop-file.invariant.total in
    let more = byte_count-more before text in
    let grown : texts c.push.new.self.items ≡ before ++ text ∷ [] = ap texts c.in_ok-push.ensures.items ∙ map-append (λ f. f.items) c.loop-file.files.items (c.in-Ok.bytes ∷ []) in
    let sum = ap byte_count grown in
    let size = c.len-total.ensures in
    record {
      read = subst (λ ts. AreFileTexts held (take (c.loop-file.file + 1) names) ts) (sym grown) (one_more_read held names before c.loop-file.file name text named c.loop-file.invariant.read told (omega (arith, total, short)));
      total = omega (arith, total, more, sum, size);
      held = λ n. c.in-Ok.ensures.held n ∙ c.loop-file.invariant.held n;
      later = omega (arith, c.in-Ok.ensures.later, c.loop-file.invariant.later);
    }

pub returns-in-Err-clause-files : goal.returns-in-Err-clause-files
returns-in-Err-clause-files g c =
    let held = g.H.Shelf.held c.args.shelf.now in
    let name = c.as_str.result.now in
    let before = texts c.loop-file.files.items in
    let middle = g.H.Shelf.faults c.loop-file.shelf in
    let after = g.H.Shelf.faults c.read_next.new.shelf in
    let named = mapped_at string_bytes c.args.names.now c.loop-file.file c.index-names-file.result name c.loop-file-test.true c.index-names-file.is c.as_str.ensures.value in
    let here = subst (λ o. IsUnreadAt c.loop-file.file o c.loop-file.total middle after c.in-Err.outcome) (c.loop-file.invariant.held name) c.in-Err.ensures.read in
    let cause = subst (λ n. IsUnreadAt c.loop-file.file (held name) n middle after c.in-Err.outcome) c.loop-file.invariant.total here in
    unread_is_cause held (map string_bytes c.args.names.now) before c.loop-file.file name _ middle after c.in-Err.outcome named c.loop-file.invariant.read c.loop-file.invariant.later cause
