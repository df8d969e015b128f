use Rattle.std.proofs.Common.{◌≡◌, ◌≤◌, ◌^◌, vec_len}
use Rattle.ucq_reader.specs.Outcome.{byte_count, texts}
use Rattle.ucq_tally.proofs.reading.read_all.Given as goal

abbrev pub invariant-loop-file : goal.invariant-loop-file
invariant-loop-file l = record {
  many : vec_len l.files ≡ l.file;
  total : l.total ≡ byte_count (texts l.files.items);
  small : l.total ≤ 2 ^ 26;
}
