-- The rest of the atoms is a part of the atoms, so the query stays as stored queries are.
use Rattle.std.proofs.Common.{subst, sym, ◌<◌, length}
use Rattle.std.specs.List.{remove}
use Rattle.ucq_terms.specs.Syntax.{IsSafe, Query}
use Rattle.ucq_terms.proofs.Removal.{IsStored-remove}
use Rattle.ucq_terms.proofs.queries.Query.remove_atom.Goals as goal

pub invariant_of-self : goal.invariant_of-self
invariant_of-self c =
    let place = c.args.place in
    rw c.remove.ensures.items
    (IsStored-remove _ place
    (subst (λ (q : Query). place < length q.atoms) (sym c.self.view_is) c.requires.within)
    (subst (λ (q : Query). IsSafe (record q { atoms = remove q.atoms place })) (sym c.self.view_is) c.requires.safe)
    c.self.invariant)
