use Rattle.std.proofs.Common.{length, ◌-◌, ◌≡◌, ◌≤◌, ◌+◌, ℕ, List, take, vec_len}
use Rattle.std.specs.Prelude.{IfSome}
use Rattle.ucq_run.proofs.reading.read_file.Given as goal

abbrev pub invariant-loop-piece : goal.invariant-loop-piece
invariant-loop-piece g l = record {
  bytes : IfSome (g.H.Shelf.held l.shelf l.name) (λ file. (l.bytes.items ≡ take (vec_len l.bytes) file) × (vec_len l.bytes ≤ length file));
  held : (n : List ℕ) → g.H.Shelf.held l.shelf n ≡ g.H.Shelf.held l.initial.shelf n;
  later : g.H.Shelf.faults l.initial.shelf ≤ g.H.Shelf.faults l.shelf;
}

abbrev pub decreases-loop-piece : goal.decreases-loop-piece
decreases-loop-piece g l = l.room + 1 - vec_len l.bytes
