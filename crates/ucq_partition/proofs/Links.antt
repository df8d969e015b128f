-- Chains of joins, and the labels that tell their classes.
use Rattle.std.proofs.Common.{◌≡◌, ℕ, ◌<◌, ◌≤◌, Bool, true, false, List, [], ◌∷◌, ◌++◌, length, ◌⊎◌, ◌↔◌, Contains, get_or, nat_eq, cond, refl, sym, ap, ◌∙◌, subst, inl, inr, ⊎_elim, arith}
use Rattle.std.proofs.lemmas.List.{get_or-map, length-map, get_or_default}
use Rattle.std.proofs.lemmas.List.Elements.{Contains-append_left, Contains-push, Contains-push_cases}
use Rattle.std.proofs.lemmas.Bool.{eq-eqb, eqb-true}
use Rattle.ucq_partition.specs.Partition.{AreLinked, alone, forth, back, label_of, IsMadeBy, relabelled}

-- Being linked is an equivalence.
pub AreLinked-trans : {joins : List (ℕ × ℕ)} {a b c : ℕ} → AreLinked joins a b → AreLinked joins b c → AreLinked joins a c
AreLinked-trans alone k = k
AreLinked-trans (forth c h) k = forth c (AreLinked-trans h k)
AreLinked-trans (back c h) k = back c (AreLinked-trans h k)

pub AreLinked-sym : {joins : List (ℕ × ℕ)} {a b : ℕ} → AreLinked joins a b → AreLinked joins b a
AreLinked-sym alone = alone
AreLinked-sym (forth c h) = AreLinked-trans (AreLinked-sym h) (back c alone)
AreLinked-sym (back c h) = AreLinked-trans (AreLinked-sym h) (forth c alone)

-- more joins link more
pub AreLinked-more : {joins more : List (ℕ × ℕ)} {a b : ℕ} → ((j : ℕ × ℕ) → Contains joins j → Contains more j) → AreLinked joins a b → AreLinked more a b
AreLinked-more f alone = alone
AreLinked-more f (forth c h) = forth (f _ c) (AreLinked-more f h)
AreLinked-more f (back c h) = back (f _ c) (AreLinked-more f h)

-- what is equal at the two ends of each join is equal on a class
pub AreLinked-same : {T : Type 0} (f : ℕ → T) {joins : List (ℕ × ℕ)} {a b : ℕ} → ((j : ℕ × ℕ) → Contains joins j → f j.0 ≡ f j.1) →
    AreLinked joins a b → f a ≡ f b
AreLinked-same f e alone = refl
AreLinked-same f e (forth c h) = e _ c ∙ AreLinked-same f e h
AreLinked-same f e (back c h) = sym (e _ c) ∙ AreLinked-same f e h

AreLinked-path : {joins : List (ℕ × ℕ)} {a b : ℕ} → a ≡ b → AreLinked joins a b
AreLinked-path {joins} {a} {b} e = subst (λ (c : ℕ). AreLinked joins a c) e alone

-- a label that was read is the one at the place
pub read_label : (labels values : List ℕ) (a x : ℕ) → labels ≡ values → a < length values → x ≡ get_or labels a x → x ≡ label_of values a
read_label labels values a x e l h = h ∙ (ap (λ (v : List ℕ). get_or v a x) e ∙ get_or_default values a x 0 l)

-- linked numbers have one label
pub label-linked : (joins : List (ℕ × ℕ)) (labels : List ℕ) (a b : ℕ) → IsMadeBy joins labels → AreLinked joins a b → label_of labels a ≡ label_of labels b
label-linked joins labels a b m h = AreLinked-same (label_of labels) m.kept h

-- and numbers with one label are linked
pub linked_from_label : (joins : List (ℕ × ℕ)) (labels : List ℕ) (a b : ℕ) → IsMadeBy joins labels → a < length labels → b < length labels →
    label_of labels a ≡ label_of labels b → AreLinked joins a b
linked_from_label joins labels a b m l k e = AreLinked-trans (m.linked a l) (AreLinked-trans (AreLinked-path e) (AreLinked-sym (m.linked b k)))

pub same_label : (joins : List (ℕ × ℕ)) (labels : List ℕ) (a b : ℕ) → IsMadeBy joins labels → a < length labels → b < length labels →
    (label_of labels a ≡ label_of labels b) ↔ AreLinked joins a b
same_label joins labels a b m l k = (λ e. linked_from_label joins labels a b m l k e, λ h. label-linked joins labels a b m h)

end_within : (joins : List (ℕ × ℕ)) (n : ℕ) → ((j : ℕ × ℕ) → Contains joins j → (j.0 < n) × (j.1 < n)) → {a b : ℕ} → AreLinked joins a b → a < n → b < n
end_within joins n w alone l = l
end_within joins n w (forth c h) l = end_within joins n w h (w _ c).1
end_within joins n w (back c h) l = end_within joins n w h (w _ c).0

-- a label is the least number of its class
pub label-least : (joins : List (ℕ × ℕ)) (labels : List ℕ) (a b : ℕ) → IsMadeBy joins labels → a < length labels → AreLinked joins a b → label_of labels a ≤ b
label-least joins labels a b m l h =
    let e : label_of labels a ≡ label_of labels b = label-linked joins labels a b m h in
    let k : label_of labels b ≤ b = m.least b (end_within joins (length labels) m.within h l) in
    omega arith

-- numbers that are their own labels are alone
pub IsMadeBy-alone : (labels : List ℕ) → ((k : ℕ) → k < length labels → get_or labels k 0 ≡ k) → IsMadeBy [] labels
IsMadeBy-alone labels f = record {
  within = λ j c. absurd (let l = c.1 in omega arith);
  kept = λ j c. absurd (let l = c.1 in omega arith);
  linked = λ a l. AreLinked-path (sym (f a l));
  least = λ a l. let e : get_or labels a 0 ≡ a = f a l in omega arith;
}

-- One label in place of another.
new_label : ℕ → ℕ → ℕ → ℕ
new_label from to l = cond (nat_eq l from) to l

new_label-cases : (from to l : ℕ) → ((l ≡ from) × (new_label from to l ≡ to)) ⊎ (new_label from to l ≡ l)
unfolding new_label
new_label-cases from to l = go (nat_eq l from) refl
  where
    go : (b : Bool) → nat_eq l from ≡ b → ((l ≡ from) × (cond b to l ≡ to)) ⊎ (cond b to l ≡ l)
    go true e = inl (eqb-true l from e, refl)
    go false e = inr refl

label-relabelled : (labels : List ℕ) (from to a : ℕ) → a < length labels → label_of (relabelled labels from to) a ≡ new_label from to (label_of labels a)
unfolding new_label
label-relabelled labels from to a l = get_or-map (λ (k : ℕ). cond (nat_eq k from) to k) labels a 0 0 l

new_label-from : (from to : ℕ) → new_label from to from ≡ to
unfolding new_label
new_label-from from to = ap (λ b. cond b to from) (eq-eqb from from refl)

new_label-to : (from to : ℕ) → new_label from to to ≡ to
new_label-to from to = ⊎_elim (λ r. r.1) (λ e. e) (new_label-cases from to to)

-- A join makes the labels of one class those of the other, which are smaller.
module _ (joins : List (ℕ × ℕ)) (labels : List ℕ) (a b c d : ℕ) (m : IsMadeBy joins labels) (la : a < length labels) (lb : b < length labels)
    (which : ((c ≡ label_of labels a) × (d ≡ label_of labels b)) ⊎ ((c ≡ label_of labels b) × (d ≡ label_of labels a))) (below : d ≤ c) where
  abbrev New : List ℕ
  New = relabelled labels c d

  size : length New ≡ length labels
  size = length-map labels (λ k. cond (nat_eq k c) d k)

  at : (x : ℕ) → x < length labels → label_of New x ≡ new_label c d (label_of labels x)
  at x l = label-relabelled labels c d x l

  first : label_of New a ≡ d
  first = at a la ∙ ⊎_elim (λ r. ap (new_label c d) (sym r.0) ∙ new_label-from c d) (λ r. ap (new_label c d) (sym r.1) ∙ new_label-to c d) which

  second : label_of New b ≡ d
  second = at b lb ∙ ⊎_elim (λ r. ap (new_label c d) (sym r.1) ∙ new_label-to c d) (λ r. ap (new_label c d) (sym r.0) ∙ new_label-from c d) which

  older : {x y : ℕ} → AreLinked joins x y → AreLinked (joins ++ (a, b) ∷ []) x y
  older h = AreLinked-more (λ j i. Contains-append_left joins ((a, b) ∷ []) j i) h

  joined : AreLinked (joins ++ (a, b) ∷ []) (label_of labels a) (label_of labels b)
  joined = AreLinked-trans (AreLinked-sym (older (m.linked a la))) (forth (Contains-push joins (a, b)) (older (m.linked b lb)))

  over : AreLinked (joins ++ (a, b) ∷ []) c d
  over = ⊎_elim
      (λ r. AreLinked-trans (AreLinked-path r.0) (AreLinked-trans joined (AreLinked-path (sym r.1))))
      (λ r. AreLinked-trans (AreLinked-path r.0) (AreLinked-trans (AreLinked-sym joined) (AreLinked-path (sym r.1)))) which

  linked_new : (x : ℕ) → x < length labels → AreLinked (joins ++ (a, b) ∷ []) x (label_of New x)
  linked_new x l = AreLinked-trans (older (m.linked x l)) (AreLinked-trans
      (⊎_elim (λ r. AreLinked-trans (AreLinked-path r.0) (AreLinked-trans over (AreLinked-path (sym r.1)))) (λ e. AreLinked-path (sym e))
      (new_label-cases c d (label_of labels x)))
      (AreLinked-path (sym (at x l))))

  least_new : (x : ℕ) → x < length labels → label_of New x ≤ x
  least_new x l =
      let e : label_of New x ≡ new_label c d (label_of labels x) = at x l in
      let h : label_of labels x ≤ x = m.least x l in
      ⊎_elim (λ r. let p : label_of labels x ≡ c = r.0 in let q : new_label c d (label_of labels x) ≡ d = r.1 in omega arith)
      (λ r. let q : new_label c d (label_of labels x) ≡ label_of labels x = r in omega arith)
      (new_label-cases c d (label_of labels x))

  pub IsMadeBy-join : IsMadeBy (joins ++ (a, b) ∷ []) (relabelled labels c d)
  IsMadeBy-join = record {
    within = λ j i. elim (Contains-push_cases joins (a, b) j i) [
      | inl k ↦ let (x, y) = m.within j k in (omega (arith, size), omega (arith, size))
      | inr e ↦ subst (λ (j : ℕ × ℕ). (j.0 < length New) × (j.1 < length New)) e (omega (arith, size), omega (arith, size))
    ];
    kept = λ j i. elim (Contains-push_cases joins (a, b) j i) [
      | inl k ↦ let (x, y) = m.within j k in at j.0 x ∙ (ap (new_label c d) (m.kept j k) ∙ sym (at j.1 y))
      | inr e ↦ subst (λ (j : ℕ × ℕ). label_of New j.0 ≡ label_of New j.1) e (first ∙ sym second)
    ];
    linked = λ x l. linked_new x (omega (arith, l, size));
    least = λ x l. least_new x (omega (arith, l, size));
  }
