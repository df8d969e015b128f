use Rattle.std.proofs.Common.{◌≡◌, ◌≢◌, ◌++◌, List, [], AllPairs, sym, ap, ◌∙◌, subst}
use Rattle.std.proofs.lemmas.List.{append-nil}
use Rattle.std.proofs.lemmas.Map.Made.{AllPairs-from_IsDistinct}
use Rattle.ucq_terms.specs.Syntax.{Query}
use Rattle.ucq_terms.specs.Equality.{Decides-query_eq}
use Rattle.ucq_step.proofs.kept.Kept.into_queries.Goals as goal

pub returns-clause-different : goal.returns-clause-different
returns-clause-different c =
    let items = c.loop-core.queries.items in
    let none : c.loop-core.core-iterator ≡ [] = c.in-None.ensures.steps.0 in
    let all : items ≡ c.self.inside.cores.keys =
    sym (append-nil items) ∙ (ap (λ rest. items ++ rest) (sym none) ∙ (c.loop-core.invariant ∙ sym c.self.view_is)) in
    subst (λ (qs : List Query). AllPairs (λ (a b : Query). a ≢ b) qs) (sym all)
    (AllPairs-from_IsDistinct Decides-query_eq c.self.inside.cores.keys c.len.ensures.unique)
