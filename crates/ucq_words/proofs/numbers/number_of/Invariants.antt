use Rattle.std.proofs.Common.{◌≡◌, ◌≤◌, take}
use Rattle.std.specs.Prelude.{All}
use Rattle.ucq_words.specs.Settings.{IsDigit, value_of}
use Rattle.ucq_words.proofs.numbers.number_of.Given as goal

abbrev pub invariant-loop-byte : goal.invariant-loop-byte
invariant-loop-byte l = record {
  each : All IsDigit (take l.byte-index l.digits);
  value : l.value ≡ value_of (take l.byte-index l.digits);
  small : l.value ≤ l.most;
}
