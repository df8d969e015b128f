-- Piece-unifiers of one rule over disjoint atoms, with a map of each one's copy, make a one-step rewriting that maps where they do.
use Rattle.std.proofs.Common.{◌≡◌, ℕ, ◌<◌, ◌≤◌, List, length, ◌⊎◌, Contains, subst}
use Rattle.ucq_terms.specs.declared.Term.{Term}
use Rattle.ucq_terms.specs.Syntax.{Atom, Rule, Query, IsSubset, terms_image, atom_image, atoms_image}
use Rattle.ucq_terms.specs.Homomorphism.{MapsInto}
use Rattle.ucq_terms.specs.Unifier.{atom_at, places, IsPieceUnifier}
use Rattle.ucq_terms.specs.Rewriting.{rule_at, IsOneStepWith}
use Rattle.ucq_terms.proofs.Lists.{length-positive, first_element}
use Rattle.ucq_terms.proofs.Matched.{Fits}
use Rattle.ucq_terms.proofs.Places.{Contains-from_places, Contains-places}
use Rattle.ucq_chase.proofs.Groups.{IsGrouped, grouped}
use Rattle.ucq_chase.proofs.Labelled.{Labelled, laid_out_maps}
use Rattle.ucq_terms.proofs.Split.{AreDisjoint}

-- The first n lists of pairs are piece-unifiers or empty, and what they leave out is in the target.
pub record AreUnifiers (q : Query) (rule : Rule) (h : ℕ → Term) (place : ℕ → ℕ → Term) (target : List Atom) (n : ℕ) (pairs : ℕ → List (ℕ × ℕ)) : Type 0 where
  pub disjoint : (i j : ℕ) → ¬ (i ≡ j) → AreDisjoint (pairs i) (pairs j)
  pub unifies : (i : ℕ) → i < n → (length (pairs i) ≤ 0) ⊎ IsPieceUnifier q rule (pairs i)
  pub fits : (i : ℕ) → i < n → (pair : ℕ × ℕ) → Contains (pairs i) pair → Fits h (place i) q rule pair
  pub body : (i : ℕ) → i < n → IsSubset (atoms_image (place i) rule.body) target
  pub rest : (k : ℕ) → k < length q.atoms → ((i : ℕ) → i < n → ¬ Contains (places (pairs i)) k) → Contains target (atom_image h (atom_at q.atoms k))
  pub some : (i : ℕ) × (i < n) × (0 < length (pairs i))

-- they make a one-step rewriting that maps into the target
pub unifiers_map : (rules : List Rule) (number : ℕ) (q : Query) (h : ℕ → Term) (place : ℕ → ℕ → Term) (target : List Atom) (n : ℕ)
    (pairs : ℕ → List (ℕ × ℕ)) → number < length rules → AreUnifiers q (rule_at rules number) h place target n pairs →
    (result : Query) × IsOneStepWith rules number q result × MapsInto result target (terms_image h q.answers)
unifiers_map rules number q h place target n pairs inside U =
    let g = grouped q (rule_at rules number) pairs U.disjoint n U.unifies in
    laid_out_maps rules number q h place target g.0 inside (some g.0 g.1) (record {
      single = g.1.single;
      apart = g.1.apart;
      fits = λ p c pair d. U.fits p.label (g.1.label p c) pair (g.1.inside p pair c d);
      body = λ p c. U.body p.label (g.1.label p c);
      rest =
          λ k l f. U.rest k l (λ i m c. let x = Contains-from_places (pairs i) k c in let r = g.1.outside i x.0 m x.1 in
          f r.0 r.1 (subst (λ k. Contains (places r.0.pairs) k) x.2 (Contains-places r.0.pairs x.0 r.2)));
    })
  where
    some : (pieces : List Labelled) → IsGrouped q (rule_at rules number) pairs n pieces → 0 < length pieces
    some pieces g =
        let s = U.some in
        let x = first_element (pairs s.0) s.2 in
        let r = g.outside s.0 x.0 s.1 x.1 in
        length-positive pieces r.0 r.1
