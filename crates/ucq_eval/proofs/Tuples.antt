-- Tuples that a set holds, each in a key.
use Rattle.std.proofs.Common.{◌≡◌, ℕ, Bool, true, false, cond, nat_eq, List, [], ◌∷◌, ◌++◌, map, fold, Contains, refl, sym, ap, ◌∙◌, subst, inl, inr}
use Rattle.std.specs.List.{list_any}
use Rattle.std.specs.Cmp.Lexicographic.{pointwise, pointwise_decides}
use Rattle.std.proofs.lemmas.Bool.Decides.{Decides-eqb}
use Rattle.std.proofs.lemmas.List.{map-append}
use Rattle.std.proofs.lemmas.List.Elements.{Contains-append_left, Contains-push, Contains-push_cases}
use Rattle.ucq_terms.proofs.Equality.{IsEquality}
use Rattle.ucq_terms.proofs.Numbering.{list_any-map, Contains-from_any, any_from_contains}
use Rattle.ucq_terms.proofs.Lists.{Contains-cons_cases, Contains-empty, Contains-first, Contains-rest}
use Rattle.ucq_eval.specs.inner.Join.{IsGrownBy}
use Rattle.ucq_eval.proofs.Grown.{IsGrownBy-both, IsGrownBy-nothing}

IsEquality-tuples : IsEquality (pointwise nat_eq)
IsEquality-tuples = record { decides = pointwise_decides Decides-eqb }

module _ {V : Type 0} (f : V → List ℕ) (keys : List V) where
  -- the test finds the tuples that are held
  pub held-found : (tuple : List ℕ) → list_any (λ v. pointwise nat_eq tuple (f v)) keys ≡ true → Contains (map f keys) tuple
  held-found tuple e = Contains-from_any (pointwise nat_eq) IsEquality-tuples (map f keys) tuple (sym (list_any-map f (pointwise nat_eq tuple) keys) ∙ e)

  pub found-held : (tuple : List ℕ) → Contains (map f keys) tuple → list_any (λ v. pointwise nat_eq tuple (f v)) keys ≡ true
  found-held tuple i = list_any-map f (pointwise nat_eq tuple) keys ∙ any_from_contains (pointwise nat_eq) IsEquality-tuples (map f keys) tuple i

  -- a key that is inserted adds its tuple
  pub IsGrownBy-inserted : (key : V) (tuple : List ℕ) → f key ≡ tuple →
      IsGrownBy (λ t. t ≡ tuple) (map f keys) (map f (cond (list_any (λ v. pointwise nat_eq (f key) (f v)) keys) keys (keys ++ key ∷ [])))
  IsGrownBy-inserted key tuple e = go (list_any (λ v. pointwise nat_eq (f key) (f v)) keys) refl
    where
      go : (b : Bool) → list_any (λ v. pointwise nat_eq (f key) (f v)) keys ≡ b → IsGrownBy (λ t. t ≡ tuple) (map f keys) (map f (cond b keys (keys ++ key ∷ [])))
      go true h =
          let held : Contains (map f keys) tuple = subst (λ (t : List ℕ). Contains (map f keys) t) e (held-found (f key) h) in
          record {
            each = λ t. (λ i. inl i, λ i. elim i [ inl j ↦ j | inr q ↦ subst (λ (x : List ℕ). Contains (map f keys) x) (sym q) held ]);
          }
      go false h =
          let whole : map f (keys ++ key ∷ []) ≡ map f keys ++ tuple ∷ [] = map-append f keys (key ∷ []) ∙ ap (λ x. map f keys ++ x ∷ []) e in
          subst (λ (xs : List (List ℕ)). IsGrownBy (λ t. t ≡ tuple) (map f keys) xs) (sym whole) (record {
            each = λ t. (
              λ i. elim (Contains-push_cases (map f keys) tuple t i) [ inl j ↦ inl j | inr q ↦ inr (sym q) ],
              λ i. elim i [
                | inl j ↦ Contains-append_left (map f keys) (tuple ∷ []) t j
                | inr q ↦ subst (λ (x : List ℕ). Contains (map f keys ++ tuple ∷ []) x) (sym q) (Contains-push (map f keys) tuple)
              ],
            );
          })

module _ {V : Type 0} (f : V → List ℕ) where
  -- keys that are inserted one after another add their tuples
  pub IsGrownBy-all_inserted : (keys more : List V) →
      IsGrownBy (Contains (map f more)) (map f keys) (map f (fold (λ ks k. cond (list_any (λ v. pointwise nat_eq (f k) (f v)) ks) ks (ks ++ k ∷ [])) keys more))
  IsGrownBy-all_inserted keys [] = IsGrownBy-nothing (Contains []) (map f keys) (λ t i. absurd (Contains-empty t i))
  IsGrownBy-all_inserted keys (k ∷ more) =
      let next : List V = cond (list_any (λ v. pointwise nat_eq (f k) (f v)) keys) keys (keys ++ k ∷ []) in
      IsGrownBy-both (λ t. t ≡ f k) (Contains (map f more)) (Contains (f k ∷ map f more)) (map f keys) (map f next) _
      (λ t i. elim (Contains-cons_cases (f k) (map f more) t i) [ inl e ↦ inl (sym e) | inr j ↦ inr j ])
      (λ t e. subst (λ (x : List ℕ). Contains (f k ∷ map f more) x) (sym e) (Contains-first (f k) (map f more)))
      (λ t j. Contains-rest (f k) (map f more) t j)
      (IsGrownBy-inserted f keys k (f k) refl)
      (IsGrownBy-all_inserted next more)
