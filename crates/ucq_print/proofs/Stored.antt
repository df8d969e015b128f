-- Stored queries have few variables.
use Rattle.std.proofs.Common.{◌≡◌, ℕ, ◌+◌, ◌<◌, ◌≤◌, ◌++◌, List, length, filter_map, Contains, nat_eq, inl, inr, ◌∙◌, arith}
use Rattle.std.specs.List.{range_with_len}
use Rattle.std.proofs.lemmas.List.FromFn.{length-range_with_len, get_or-range_with_len}
use Rattle.std.proofs.lemmas.List.Elements.{Contains-append_cases}
use Rattle.ucq_terms.specs.declared.TheConstants.{VARIABLES}
use Rattle.ucq_terms.specs.declared.Term.TheVariants.{Variable}
use Rattle.ucq_terms.specs.Syntax.{Query, IsVariableOf}
use Rattle.ucq_terms.specs.Query.{IsStored}
use Rattle.ucq_terms.specs.Numbering.{variable_of, terms_of, query_order}
use Rattle.ucq_terms.proofs.Distinct.{IsDistinct, length-distinct_le}
use Rattle.ucq_terms.proofs.Equality.{IsEquality-nat_eq}
use Rattle.ucq_terms.proofs.Numbering.{IsDistinct-first_occurrences, Contains-from_first_occurrences}
use Rattle.ucq_terms.proofs.Orders.{Contains-from_variables, OccursIn-terms_of}
use Rattle.ucq_chase.specs.Names.{IsHeldQuery}
use Rattle.ucq_print.specs.Laws.{IsPrintable}

-- different numbers below a limit are no more than the limit
few_below : (limit : ℕ) (xs : List ℕ) → IsDistinct xs → ((x : ℕ) → Contains xs x → x < limit) → length xs ≤ limit
few_below limit xs different below =
    let few : length xs ≤ length (range_with_len 0 limit) = length-distinct_le xs (range_with_len 0 limit) different (λ x i. in_range x (below x i)) in
    omega (arith, few, length-range_with_len 0 limit)
  where
    in_range : (x : ℕ) → x < limit → Contains (range_with_len 0 limit) x
    in_range x h =
        let place : x < length (range_with_len 0 limit) = omega (arith, h, length-range_with_len 0 limit) in
        let zero_more : 0 + x ≡ x = omega arith in
        (x, place, get_or-range_with_len 0 limit x x h ∙ zero_more)

ordered_is_variable : (q : Query) (v : ℕ) → Contains (query_order q) v → IsVariableOf q v
ordered_is_variable q v i =
    let j = Contains-from_first_occurrences nat_eq IsEquality-nat_eq (filter_map variable_of (q.answers ++ terms_of q.atoms)) v i in
    elim (Contains-append_cases q.answers (terms_of q.atoms) (Variable v) (Contains-from_variables (q.answers ++ terms_of q.atoms) v j)) [
      | inl k ↦ inr k
      | inr k ↦ inl (OccursIn-terms_of q.atoms (Variable v) k)
    ]

pub stored_is_printable : (names : List (List ℕ)) (q : Query) → IsStored q → IsHeldQuery (length names) q → IsPrintable names q
stored_is_printable names q stored held =
    let different : IsDistinct (query_order q) = IsDistinct-first_occurrences nat_eq IsEquality-nat_eq (filter_map variable_of (q.answers ++ terms_of q.atoms)) in
    let few : length (query_order q) ≤ VARIABLES = few_below VARIABLES (query_order q) different (λ v i. stored.variables v (ordered_is_variable q v i)) in
    record { held = held; variables = omega (arith, few) }
