-- Adding a fact to those that are held.
use Rattle.std.proofs.Common.{◌≡◌, ℕ, Bool, true, false, not, cond, List, [], ◌∷◌, ◌++◌, length, slice_get, Some, Contains, refl, sym, ap, ◌∙◌, subst, true≢false}
use Rattle.std.specs.List.{list_any}
use Rattle.indexmap.specs.IndexSet.{insert_key}
use Rattle.indexmap.proofs.CallerLemmas.{Contains-list_any}
use Rattle.ucq_terms.specs.Syntax.{Atom}
use Rattle.ucq_terms.specs.Numbering.{atom_eq}
use Rattle.ucq_terms.specs.Equality.{Decides-atom_eq}
use Rattle.ucq_terms.proofs.Numbering.{any_from_contains}
use Rattle.ucq_terms.proofs.Equality.{IsEquality-atom_eq}
use Rattle.ucq_facts.specs.Facts.{DoesAdd}

pub inserted : (facts : List Atom) (a : Atom) (added : Bool) (new : List Atom) → added ≡ not (list_any (atom_eq a) facts) →
    new ≡ insert_key atom_eq facts a → DoesAdd facts a added new
inserted facts a added new e k = go (list_any (atom_eq a) facts) refl
  where
    go : (b : Bool) → list_any (atom_eq a) facts ≡ b → DoesAdd facts a added new
    go true h =
        let held : Contains facts a = Contains-list_any atom_eq (λ x y e. (Decides-atom_eq x y).0 e) facts a h in
        subst (λ (x : Bool). DoesAdd facts a x new) (sym (e ∙ ap not h)) (held, k ∙ ap (λ (b : Bool). cond b facts (facts ++ a ∷ [])) h)
    go false h =
        let absent : ¬ Contains facts a = λ held. true≢false (sym (any_from_contains atom_eq IsEquality-atom_eq facts a held) ∙ h) in
        subst (λ (x : Bool). DoesAdd facts a x new) (sym (e ∙ ap not h)) (absent, k ∙ ap (λ (b : Bool). cond b facts (facts ++ a ∷ [])) h)

-- the fact at the end
pub last_of : (facts : List Atom) (a found : Atom) (number : ℕ) → number ≡ length facts → Some found ≡ slice_get (facts ++ a ∷ []) number → found ≡ a
last_of [] a found number e h = let f = rw e at h in cc
last_of (x ∷ facts) a found number e h = last_of facts a found (length facts) refl (rw e at h)
