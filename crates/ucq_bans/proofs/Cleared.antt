-- Bindings of no variable.
use Rattle.std.proofs.Common.{◌≡◌, ℕ, zero, suc, Bool, true, false, List, [], ◌∷◌, length, Option, Some, None, Contains, refl, sym, subst, arith}
use Rattle.std.specs.Prelude.{AllPairs, ◌≢◌}
use Rattle.ucq_terms.specs.declared.Term.{Term}
use Rattle.ucq_terms.specs.declared.TheConstants.{VARIABLES}
use Rattle.ucq_terms.proofs.Lists.{Contains-empty}
use Rattle.ucq_hom.specs.Space.{image, IsClear}
use Rattle.ucq_hom.specs.Bindings.{IsKept}
use Rattle.ucq_hom.proofs.Trail.{image_none}

-- whether no variable has an image
unfoldable pub is_clear : List (Option Term) → Bool
is_clear [] = true
is_clear (None ∷ images) = is_clear images
is_clear (Some t ∷ images) = false

pub none_bound : (images : List (Option Term)) → is_clear images ≡ true → (v : ℕ) → image images v ≡ None
unfolding is_clear
none_bound [] e v = refl
none_bound (None ∷ images) e zero = refl
none_bound (None ∷ images) e (suc v) = none_bound images e v
none_bound (Some t ∷ images) e v = absurd cc

pub IsKept-clear : (images : List (Option Term)) (trail : List ℕ) → length images ≡ VARIABLES → is_clear images ≡ true → trail ≡ [] →
    IsKept (record { images = images; trail = trail })
IsKept-clear images trail room clear none = record {
  room = room;
  bound = λ v i. absurd (Contains-empty v (subst (λ (vs : List ℕ). Contains vs v) none i));
  on_trail = λ v s. absurd (image_none (none_bound images clear v) s);
  once = subst (λ (vs : List ℕ). AllPairs (λ (v w : ℕ). v ≢ w) vs) (sym none) (λ i j d less within. absurd (omega (arith, within)));
}

pub IsClear-clear : (images : List (Option Term)) → is_clear images ≡ true → IsClear images
IsClear-clear images e = record { none = λ v. none_bound images e v }
