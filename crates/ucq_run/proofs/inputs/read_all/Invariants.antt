use Rattle.std.proofs.Common.{◌≡◌, ◌≤◌, ℕ, List, map, take}
use Rattle.std.specs.Prelude.{string_bytes}
use Rattle.ucq_reader.specs.Outcome.{byte_count, texts}
use Rattle.ucq_run.specs.Inputs.{AreFileTexts}
use Rattle.ucq_run.proofs.inputs.read_all.Given as goal

abbrev pub invariant-loop-file : goal.invariant-loop-file
invariant-loop-file g l = record {
  read : AreFileTexts (g.H.Shelf.held l.initial.shelf) (take l.file (map string_bytes l.names)) (texts l.files.items);
  total : l.total ≡ byte_count (texts l.files.items);
  held : (n : List ℕ) → g.H.Shelf.held l.shelf n ≡ g.H.Shelf.held l.initial.shelf n;
  later : g.H.Shelf.faults l.initial.shelf ≤ g.H.Shelf.faults l.shelf;
}
