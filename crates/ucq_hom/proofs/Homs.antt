-- What a search from nothing bound finds: a homomorphism, or that there is none.
use Rattle.std.proofs.Common.{◌≡◌, ◌<◌, ℕ, List, [], ◌∷◌, length, Some, None, Contains, refl, sym, ap, ◌∙◌, subst, inl, inr}
use Rattle.std.specs.List.{remove}
use Rattle.std.proofs.lemmas.List.Elements.{Contains-get_or}
use Rattle.ucq_terms.specs.declared.Term.{Term}
use Rattle.ucq_terms.specs.declared.Term.TheVariants.{Variable}
use Rattle.ucq_terms.specs.Syntax.{Atom, Query, IsSubset, atom_image, atoms_image}
use Rattle.ucq_terms.specs.Homomorphism.{IsHomomorphism, MapsInto}
use Rattle.ucq_terms.specs.Query.{IsStored}
use Rattle.ucq_terms.specs.Unifier.{atom_at}
use Rattle.ucq_terms.proofs.Lists.{Contains-cons_cases, Contains-empty}
use Rattle.ucq_terms.proofs.Images.{IsSubset-from_image, IsSubset-image}
use Rattle.ucq_terms.proofs.Places.{place_of}
use Rattle.ucq_terms.proofs.Subsets.{OccursIn-atom}
use Rattle.ucq_hom.specs.Space.{IsClear, or_itself, mapping, GivesHomomorphism}
use Rattle.ucq_hom.specs.Bindings.{Bound, Extends, IsMatched, IsClash}
use Rattle.ucq_hom.specs.Search.{HasLowTerms, HasLowAtoms, ArePlaces, IsOrder, Sends, IsMappedFurther, IsBlocked}
use Rattle.ucq_hom.proofs.Trail.{image_none}
use Rattle.ucq_hom.proofs.Noted.{ExtendsAt-all}
use Rattle.ucq_hom.proofs.Matched.{Extends-less, IsSome-grown}

-- a stored query's variables are low
pub HasLowTerms-answers : (q : Query) → IsStored q → HasLowTerms q.answers
HasLowTerms-answers q s = record { low = λ v i. s.variables v (inr i) }

pub HasLowAtoms-atoms : (q : Query) → IsStored q → HasLowAtoms q.atoms
HasLowAtoms-atoms q s = record { low = λ v i. s.variables v (inl i) }

-- every map agrees with nothing bound
pub Extends-clear : (h : ℕ → Term) (b : Bound) → IsClear b.images → Extends h b
Extends-clear h b c = record { agrees = λ v t e. let bad : None ≡ Some t = sym (c.none v) ∙ e in cc }

-- the images as a map agree with what is bound
pub Extends-mapping : (b : Bound) → Extends (mapping b.images) b
Extends-mapping b = record { agrees = λ v t e. ap (or_itself v) e }

-- what was found is a homomorphism
pub GivesHomomorphism-found : (a b c : Bound) (q : Query) (order : List ℕ) (targets : List Atom) (tuple : List Term) → IsClear a.images →
    IsMatched a b q.answers tuple → IsOrder q.atoms order → IsMappedFurther b c q.atoms order targets → GivesHomomorphism c.images q targets tuple
GivesHomomorphism-found a b c q order targets tuple clear m o f =
    let e = Extends-mapping c in
    record {
      defined = λ v. (
        λ s. elim (f.no_more v s) [
          | inr i ↦ inl i
          | inl r ↦ elim (m.no_more v r) [ inl x ↦ absurd (image_none (clear.none v) x) | inr i ↦ inr i ]
        ],
        λ i. elim i [
          | inl j ↦
              let (x, k, n) = OccursIn-atom q.atoms (Variable v) j in
              let (place, l, p) = place_of q.atoms x k in
              f.bound v place (o.all place l) (subst (λ (y : Atom). Contains y.terms (Variable v)) (sym p) n)
          | inr j ↦ IsSome-grown b c v f.grown (m.bound v j)
        ],
      );
      homomorphism = record {
        atoms = IsSubset-from_image (mapping c.images) q.atoms targets (λ x k.
            let (place, l, p) = place_of q.atoms x k in
            subst (λ (y : Atom). Contains targets (atom_image (mapping c.images) y)) p ((f.sent (mapping c.images) e).each place (o.all place l)));
        answers = m.carried (mapping c.images) (Extends-less b c (mapping c.images) f.grown e);
      };
    }

-- where the answers clash, there is no homomorphism
pub none_by_clash : (a : Bound) (q : Query) (targets : List Atom) (tuple : List Term) → IsClear a.images → IsClash a q.answers tuple → MapsInto q targets tuple → ⊥
none_by_clash a q targets tuple clear k m = k.none m.mapping (Extends-clear m.mapping a clear) m.homomorphism.answers

-- a homomorphism sends the atoms at any places
pub Sends-homomorphism : (h : ℕ → Term) (q : Query) (order : List ℕ) (targets : List Atom) (tuple : List Term) → ArePlaces q.atoms order →
    IsHomomorphism h q targets tuple → Sends h q.atoms order targets
Sends-homomorphism h q order targets tuple p s = record {
  each = λ place i. IsSubset-image h q.atoms targets s.atoms (atom_at q.atoms place) (Contains-get_or q.atoms place _ (p.within place i));
}

-- where the atoms at some places are blocked, there is none either
pub none_by_block : (a b : Bound) (levels : List ℕ) (set : ℕ) (q : Query) (places : List ℕ) (targets : List Atom) (tuple : List Term) → IsClear a.images → IsMatched a b q.answers tuple →
    ArePlaces q.atoms places → IsBlocked b levels set q.atoms places targets → MapsInto q targets tuple → ⊥
none_by_block a b levels set q places targets tuple clear m p k s =
    k.none s.mapping (ExtendsAt-all s.mapping b levels set (m.forced s.mapping (Extends-clear s.mapping a clear) s.homomorphism.answers))
    (Sends-homomorphism s.mapping q places targets tuple p s.homomorphism)

-- one place of an atom
pub ArePlaces-one : (atoms : List Atom) (place : ℕ) → place < length atoms → ArePlaces atoms (place ∷ [])
ArePlaces-one atoms place l = record { within = λ x i. elim (Contains-cons_cases place [] x i) [ inl e ↦ subst (λ (k : ℕ). k < length atoms) e l | inr j ↦ absurd (Contains-empty x j) ] }

-- a list without the element past its end is the list
pub remove_past : (xs : List Atom) → remove xs (length xs) ≡ xs
remove_past [] = refl
remove_past (x ∷ xs) = ap (λ l. x ∷ l) (remove_past xs)

-- where some atom has no image under the answers, there is none
pub none_by_images : (a b : Bound) (q : Query) (targets : List Atom) (tuple : List Term) → IsClear a.images → IsMatched a b q.answers tuple →
    ((h : ℕ → Term) → Extends h b → IsSubset (atoms_image h q.atoms) targets → ⊥) → MapsInto q targets tuple → ⊥
none_by_images a b q targets tuple clear m none s =
    none s.mapping (m.forced s.mapping (Extends-clear s.mapping a clear) s.homomorphism.answers) s.homomorphism.atoms
