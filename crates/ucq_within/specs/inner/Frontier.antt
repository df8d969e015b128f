-- A rule's frontier, as it is collected.
use Rattle.std.specs.Prelude.{ℕ, nat_eq, if◌then◌else◌, List, ◌∷◌, [], ◌++◌, filter, fold}
use Rattle.std.specs.List.{filter_map, list_any}
use Rattle.ucq_terms.specs.declared.Term.{Term}
use Rattle.ucq_terms.specs.Syntax.{Atom}
use Rattle.ucq_terms.specs.Numbering.{variable_of}
use Rattle.ucq_within.specs.Needless.{stands_in}

-- the variables, with those of the terms that stand in the body after them, each once
abbrev pub with_frontier : List Atom → List ℕ → List Term → List ℕ
with_frontier body order terms = fold (λ seen v. if list_any (nat_eq v) seen then seen else seen ++ v ∷ []) order (filter (stands_in body) (filter_map variable_of terms))
