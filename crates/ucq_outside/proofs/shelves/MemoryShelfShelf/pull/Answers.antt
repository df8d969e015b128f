use Rattle.std.proofs.Common.{rules, inl, inr, refl}
use Rattle.ucq_outside.proofs.shelves.MemoryShelfShelf.pull.Goals as goal
use Rattle.ucq_outside.proofs.shelves.MemoryShelfShelf.pull.Goals.{then-not-contains+in_default, else-not-contains}

pub returns-clause-answer : goal.returns-clause-answer
returns-clause-answer c = elim c.if-not-contains.branch [
  | then-not-contains+in_default w ↦ (inr (search rules), refl)
  | else-not-contains w ↦ (inl (search rules), refl)
]
