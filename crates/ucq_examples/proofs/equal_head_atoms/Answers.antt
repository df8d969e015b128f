use Rattle.std.proofs.Common.{◌≡◌, ℕ, ◌+◌, [], ◌∷◌, List, inl, inr, refl, arith}
use Rattle.ucq_terms.specs.declared.Term.TheVariants.{Variable}
use Rattle.ucq_terms.specs.Chase.{IsExistential}
use Rattle.ucq_terms.specs.Unifier.{IsSeparating, unmatched}
use Rattle.ucq_examples.specs.Examples.{edge_from, double_edge_rule}
use Rattle.ucq_examples.proofs.Literal.{IsTermOf, IsOneOf, one_of, term_of_atoms, OccursIn-term_of, variable_same}
use Rattle.ucq_examples.proofs.Single.{one_matching, one_is_whole, renaming_unifies}
use Rattle.ucq_examples.proofs.equal_head_atoms.Goals as goal

-- Y alone is existential
only_Y : (v : ℕ) → IsExistential double_edge_rule v → v ≡ 1
only_Y v (head, free) = go (term_of_atoms double_edge_rule.heads (Variable v) head)
  where
    not_X : Variable 0 ≡ Variable v → v ≡ 1
    not_X e = absurd (free (OccursIn-term_of double_edge_rule.body (Variable v) (inl (inl e))))

    go : IsTermOf double_edge_rule.heads (Variable v) → v ≡ 1
    go (inl (inl e)) = not_X e
    go (inl (inr (inl e))) = variable_same _ _ (cc)
    go (inl (inr (inr n))) = elim n [ ]
    go (inr (inl (inl e))) = not_X e
    go (inr (inl (inr (inl e)))) = variable_same _ _ (cc)
    go (inr (inl (inr (inr n)))) = elim n [ ]
    go (inr (inr n)) = elim n [ ]

-- X alone is an answer
not_answer : (u : ℕ) → u ≡ 1 → IsOneOf edge_from.answers (Variable u) → ⊥
not_answer u is (inl e) = let h = variable_same _ _ e in omega arith
not_answer u is (inr n) = n

-- and so separating, as the only atom is matched
apart : (pairs : List (ℕ × ℕ)) → unmatched edge_from pairs ≡ [] → (v u : ℕ) → IsExistential double_edge_rule v → IsSeparating edge_from pairs u →
    ¬ (Variable (0 + v) ≡ Variable u)
apart pairs none v u e separating same = let h = variable_same _ _ same in let is = only_Y v e in go separating (omega arith)
  where
    go : IsSeparating edge_from pairs u → u ≡ 1 → ⊥
    go (inl o) is = term_of_atoms [] (Variable u) (rw none at o)
    go (inr i) is = not_answer u is (one_of edge_from.answers (Variable u) i)

pub returns : goal.returns
returns c = record {
  with_first = record {
    unifier = renaming_unifies Variable 0 edge_from double_edge_rule ((0, 0) ∷ [])
        (one_matching edge_from double_edge_rule (0, 0) (record { in_query = omega arith; in_head = omega arith; name = refl; arity = refl })) (refl, tt) (apart ((0, 0) ∷ []) refl);
    whole = one_is_whole edge_from double_edge_rule (0, 0);
  };
  with_second = record {
    unifier = renaming_unifies Variable 0 edge_from double_edge_rule ((0, 1) ∷ [])
        (one_matching edge_from double_edge_rule (0, 1) (record { in_query = omega arith; in_head = omega arith; name = refl; arity = refl })) (refl, tt) (apart ((0, 1) ∷ []) refl);
    whole = one_is_whole edge_from double_edge_rule (0, 1);
  };
}
