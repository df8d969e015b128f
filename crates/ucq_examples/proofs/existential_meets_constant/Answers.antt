use Rattle.std.proofs.Common.{◌≡◌, ◌⊎◌, [], ◌∷◌, inl, inr, refl, arith}
use Rattle.ucq_terms.specs.Syntax.{Query}
use Rattle.ucq_terms.specs.Unifier.{constant, of_copy, alone, back, IsNonSeparating, IsPieceUnifier}
use Rattle.ucq_examples.specs.Examples.{X, constant_a, p, asks, edge_rule, first}
use Rattle.ucq_examples.proofs.Edges.{Y_is_existential, pair_zero}
use Rattle.ucq_examples.proofs.Single.{no_first_step}
use Rattle.ucq_examples.proofs.existential_meets_constant.Goals as goal

abbrev edge_to_a : Query
edge_to_a = asks (p X constant_a ∷ [])

refused : ¬ IsPieceUnifier edge_to_a edge_rule first
refused u = go (u.existential 1 (constant 0) Y_is_existential (back (1, omega arith, refl) alone))
  where
    go : (constant 0 ≡ of_copy 0 1) ⊎ IsNonSeparating edge_to_a first (constant 0) → ⊥
    go (inl e) = cc
    go (inr never) = never

pub returns : goal.returns
returns c = λ result. no_first_step edge_to_a edge_rule result (λ a k. pair_zero a.0 a.1 k.in_query k.in_head) refused
