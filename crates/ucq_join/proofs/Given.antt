-- What a walk has given, from its start to its end.
use Rattle.std.proofs.Common.{◌≡◌, ℕ, List, [], ◌∷◌, ◌++◌, length, Contains, ◌⊎◌, refl, sym, ap, subst, inl, inr, arith}
use Rattle.std.proofs.lemmas.List.Elements.{Contains-append_left, Contains-push, Contains-push_cases}
use Rattle.ucq_terms.proofs.Lists.{Contains-empty}
use Rattle.ucq_join.specs.Names.{Named}
use Rattle.ucq_join.specs.Walk.{Walk, ComesAfter, IsJoinOf, IsLast, MovesTo, HasGiven, members_at}
use Rattle.ucq_join.proofs.Orders.{ComesAfter-trans}
use Rattle.ucq_join.proofs.Sets.{AllPairs-push}

nonempty_after : (xs : List ℕ) → (xs ≡ []) ⊎ ComesAfter [] xs
nonempty_after [] = inl refl
nonempty_after (x ∷ xs) = inr tt

-- a walk before its first set has given none
pub HasGiven-start : (w : Walk) → w.present ≡ [] → HasGiven w []
HasGiven-start w e = record {
  joins = λ xs i. absurd (Contains-empty xs i);
  rest = λ xs j. inr (subst (λ (ys : List ℕ). ComesAfter ys xs) (sym e) (elim (nonempty_after xs) [
    | inl d ↦ absurd (let n = j.aggregate.nonempty in let z : length (members_at w.pieces xs) ≡ 0 = ap (λ (ys : List ℕ). length (members_at w.pieces ys)) d in omega arith)
    | inr c ↦ c
  ]));
  once = λ i k d l m. absurd (omega arith);
  so_far = λ xs i. absurd (Contains-empty xs i);
}

-- one set more
pub HasGiven-next : (before after : Walk) (j : Named) (given : List (List ℕ)) → MovesTo before after j → HasGiven before given → HasGiven after (given ++ j.members ∷ [])
HasGiven-next before after j given g h =
    subst (λ (w : Walk). HasGiven w (given ++ j.members ∷ [])) (sym g.stands) (record {
      joins = λ xs i. elim (Contains-push_cases given j.members xs i) [ inl c ↦ h.joins xs c | inr e ↦ subst (IsJoinOf before) e g.next.join ];
      rest = λ xs k. elim (h.rest xs k) [
        | inl c ↦ inl (Contains-append_left given (j.members ∷ []) xs c)
        | inr c ↦ elim (g.next.least xs k c) [
          | inl e ↦ inl (subst (λ (ys : List ℕ). Contains (given ++ j.members ∷ []) ys) e (Contains-push given j.members))
          | inr d ↦ inr d
        ]
      ];
      once = AllPairs-push ComesAfter given j.members h.once (λ xs c. comes xs c);
      so_far = λ xs i. elim (Contains-push_cases given j.members xs i) [ inl c ↦ inr (comes xs c) | inr e ↦ inl (sym e) ];
    })
  where
    comes : (xs : List ℕ) → Contains given xs → ComesAfter xs j.members
    comes xs c = elim (h.so_far xs c) [
      | inl e ↦ subst (λ (ys : List ℕ). ComesAfter ys j.members) (sym e) g.next.after
      | inr d ↦ ComesAfter-trans xs before.present j.members d g.next.after
    ]

-- at the end each set of pieces that makes an aggregate was given
pub HasGiven-all : (w : Walk) (given : List (List ℕ)) → IsLast w → HasGiven w given → (xs : List ℕ) → IsJoinOf w xs → Contains given xs
HasGiven-all w given l h xs j = elim (h.rest xs j) [ inl c ↦ c | inr c ↦ absurd (l.none xs j c) ]
