-- The two ways to say that a piece-unifier can't be split are one: no two piece-unifiers make it up; its pairs are connected by
-- variables that existential variables touch.
use Rattle.std.proofs.Common.{◌≡◌, ℕ, Bool, true, false, not, List, ◌↔◌, ◌⊎◌, Contains, filter, sym, ap, ◌∙◌, refl, inl, inr}
use Rattle.std.proofs.lemmas.Bool.{cases_Bool, not-true}
use Rattle.ucq_terms.specs.Syntax.{Query, Rule}
use Rattle.ucq_terms.specs.Unifier.{IsPieceUnifier, IsSinglePiece}
use Rattle.ucq_terms.proofs.Lists.{Contains-filter, Contains-from_filter, length-positive, first_element}
use Rattle.ucq_terms.proofs.Touched.{passing, passing_unifies, passes_too}
use Rattle.ucq_unify.specs.inner.Growing.{IsAlike, IsConnected}

not_true_too : (a b : Bool) → (a ≡ true → b ≡ true) → (not a ≡ true → not b ≡ true) → a ≡ b
not_true_too true b h k = sym (h refl)
not_true_too false b h k = sym (not-true b (k refl))

-- a connected piece-unifier can't be split
pub connected_single : (q : Query) (rule : Rule) (pairs : List (ℕ × ℕ)) → IsPieceUnifier q rule pairs → IsConnected q rule pairs → IsSinglePiece q rule pairs
connected_single q rule pairs U h = record { unifier = U; whole = no_split }
  where
    no_split : (left : ℕ → Bool) → IsPieceUnifier q rule (filter (λ p. left p.0) pairs) → IsPieceUnifier q rule (filter (λ p. not (left p.0)) pairs) → ⊥
    no_split left L R =
        let alike : IsAlike q rule pairs left =
        record {
          same = λ a b u c d s t. not_true_too (left a.0) (left b.0) (passes_too q rule pairs left U.matching.each L a b u c d s t)
              (passes_too q rule pairs (λ place. not (left place)) U.matching.each R a b u c d s t);
        } in
        let x = first_element (filter (λ p. left p.0) pairs) L.matching.nonempty in
        let y = first_element (filter (λ p. not (left p.0)) pairs) R.matching.nonempty in
        let i = Contains-from_filter (λ (p : ℕ × ℕ). left p.0) pairs x.0 x.1 in
        let j = Contains-from_filter (λ (p : ℕ × ℕ). not (left p.0)) pairs y.0 y.1 in
        let e : true ≡ false = sym i.1 ∙ (h.together left alike x.0 i.0 ∙ (sym (h.together left alike y.0 j.0) ∙ not-true _ j.1)) in
        cc

-- and one that can't be split is connected
pub single_connected : (q : Query) (rule : Rule) (pairs : List (ℕ × ℕ)) → IsSinglePiece q rule pairs → IsConnected q rule pairs
single_connected q rule pairs S =
    let (root, i) = first_element pairs S.unifier.matching.nonempty in
    record { root = root; rooted = i; together = λ f a p c. one_side root i f a p c }
  where
    split : (f : ℕ → Bool) → IsAlike q rule pairs f → (x y : ℕ × ℕ) → Contains pairs x → Contains pairs y → f x.0 ≡ true → f y.0 ≡ false → ⊥
    split f a x y c d e n = S.whole f
        (passing_unifies q rule pairs f S.unifier a.same
        (length-positive (passing f pairs) x (Contains-filter (λ (p : ℕ × ℕ). f p.0) pairs x c e)))
        (passing_unifies q rule pairs (λ place. not (f place)) S.unifier (λ p r u i j s t. ap not (a.same p r u i j s t))
        (length-positive (passing (λ place. not (f place)) pairs) y (Contains-filter (λ (p : ℕ × ℕ). not (f p.0)) pairs y d (ap not n))))

    one_side : (root : ℕ × ℕ) → Contains pairs root → (f : ℕ → Bool) → IsAlike q rule pairs f → (p : ℕ × ℕ) → Contains pairs p → f p.0 ≡ f root.0
    one_side root i f a p c = go (cases_Bool (f p.0)) (cases_Bool (f root.0))
      where
        go : (f p.0 ≡ true) ⊎ (f p.0 ≡ false) → (f root.0 ≡ true) ⊎ (f root.0 ≡ false) → f p.0 ≡ f root.0
        go (inl e) (inl d) = e ∙ sym d
        go (inl e) (inr d) = absurd (split f a p root c i e d)
        go (inr e) (inl d) = absurd (split f a root p i c d e)
        go (inr e) (inr d) = e ∙ sym d

pub single_iff_connected : (q : Query) (rule : Rule) (pairs : List (ℕ × ℕ)) → IsSinglePiece q rule pairs ↔ (IsPieceUnifier q rule pairs × IsConnected q rule pairs)
single_iff_connected q rule pairs = (λ S. (S.unifier, single_connected q rule pairs S), λ p. connected_single q rule pairs p.0 p.1)
