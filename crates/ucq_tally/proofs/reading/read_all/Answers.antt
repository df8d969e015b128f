use Rattle.std.proofs.Common.{◌≡◌, ◌+◌, ◌∙◌, ℕ, List, [], ◌∷◌, ◌++◌, length, ap, arith}
use Rattle.std.proofs.lemmas.List.{map-append}
use Rattle.std.proofs.lemmas.List.Sums.{sum_by-append}
use Rattle.std.proofs.lemmas.Grind.{common_steps}
use Rattle.ucq_reader.specs.Outcome.{byte_count, texts}
use Rattle.ucq_tally.proofs.reading.read_all.Goals as goal

byte_count-more : (texts : List (List ℕ)) (text : List ℕ) → byte_count (texts ++ text ∷ []) ≡ byte_count texts + length text
byte_count-more texts text = let h = sum_by-append length texts (text ∷ []) in omega (arith, h)

pub loop-file-preserved : goal.loop-file-preserved
loop-file-preserved c =
    let files = c.loop-file.files.items in
    let grown : texts c.push.new.self.items ≡ texts files ++ c.in_ok-bytes.bytes.items ∷ [] =
    ap texts c.in_ok-push.ensures.items ∙ map-append (λ f. f.items) files (c.in_ok-bytes.bytes ∷ []) in
    let sum = ap byte_count grown in
    let more = byte_count-more (texts files) c.in_ok-bytes.bytes.items in
    let before = c.loop-file.invariant.total in
    record {
      many = grind (arith, common_steps);
      total = omega (arith, sum, more, before);
      small = omega arith;
    }
