-- A set of queries with one more.
use Rattle.std.proofs.Common.{◌≡◌, Bool, true, false, if◌then◌else◌, List, [], ◌∷◌, ◌++◌, Contains, refl, sym, subst, inl, inr}
use Rattle.std.specs.List.{list_any}
use Rattle.std.proofs.lemmas.List.Folds.{Any-from_list_any}
use Rattle.std.proofs.lemmas.List.Elements.{Contains-append_left, Contains-append_right, Contains-append_cases}
use Rattle.indexmap.specs.IndexSet.{insert_key}
use Rattle.ucq_terms.specs.Syntax.{Query}
use Rattle.ucq_terms.specs.Equality.{query_eq, Decides-query_eq}
use Rattle.ucq_terms.proofs.Lists.{Contains-first, Contains-cons_cases, Contains-empty}
use Rattle.ucq_step.specs.Kept.{HasKept}

HasKept-held : (before : List Query) (core : Query) → list_any (query_eq core) before ≡ true → HasKept before core before
HasKept-held before core e =
    let (k, other, l, s, t) = Any-from_list_any (query_eq core) before e in
    record {
      kept = λ o c. c;
      there = subst (λ (q : Query). Contains before q) (sym ((Decides-query_eq core other).0 t)) (k, l, s);
      only = λ o c. inl c;
    }

HasKept-new : (before : List Query) (core : Query) → HasKept before core (before ++ core ∷ [])
HasKept-new before core = record {
  kept = λ o c. Contains-append_left before (core ∷ []) o c;
  there = Contains-append_right before (core ∷ []) core (Contains-first core []);
  only = λ o c. elim (Contains-append_cases before (core ∷ []) o c) [
    | inl i ↦ inl i
    | inr i ↦ elim (Contains-cons_cases core [] o i) [ inl e ↦ inr (sym e) | inr j ↦ absurd (Contains-empty o j) ]
  ];
}

-- one more key
pub HasKept-insert_key : (before after : List Query) (core : Query) → after ≡ insert_key query_eq before core → HasKept before core after
HasKept-insert_key before after core e = go (list_any (query_eq core) before) refl e
  where
    go : (b : Bool) → list_any (query_eq core) before ≡ b → after ≡ (if b then before else before ++ core ∷ []) → HasKept before core after
    go true h e = subst (HasKept before core) (sym e) (HasKept-held before core h)
    go false h e = subst (HasKept before core) (sym e) (HasKept-new before core)

-- a key that was there before
pub Contains-held : (before : List Query) (core : Query) → list_any (query_eq core) before ≡ true → Contains before core
Contains-held before core e = (HasKept-held before core e).there
