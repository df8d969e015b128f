-- Rows stay in their chains where one is added.
use Rattle.std.proofs.Common.{◌≡◌, ◌≢◌, ℕ, zero, suc, ◌+◌, ◌*◌, ◌/◌, ◌%◌, ◌<◌, ◌≤◌, ◌⊎◌, inl, inr, refl, sym, ap, ◌∙◌, List, [], ◌∷◌, ◌++◌, length, get_or, arith, subst}
use Rattle.std.specs.Prelude.{bit_and}
use Rattle.std.specs.Int.{bit_at}
use Rattle.std.proofs.Math.ListN.{set, replicate}
use Rattle.std.proofs.lemmas.Bool.{cases_eq}
use Rattle.std.proofs.lemmas.List.{get_or_append_left, get_or_at, get_or_past, get_or-replicate, length-replicate, length-append, length-set, get_or-set_same, get_or-set_other}
use Rattle.ucq_antichain.specs.inner.Chains.{follow, Reaches, Keeps, KeepsBut, AreChains}
use Rattle.ucq_antichain.proofs.Words.{and_both, cases_below}

-- the links of a list that fall
pub record Fall (next : List ℕ) : Type 0 where
  pub begun : 0 < length next
  pub ends : get_or next 0 0 ≡ 0
  pub falls : (link : ℕ) → 0 < link → link < length next → get_or next link 0 < link

next_within : (next : List ℕ) (link : ℕ) → Fall next → link < length next → get_or next link 0 < length next
next_within next zero f l = let e = f.ends in let b = f.begun in omega arith
next_within next (suc link) f l = let d = f.falls (suc link) (omega arith) l in omega arith

-- nothing follows the end
follow-end : (next : List ℕ) (steps : ℕ) → get_or next 0 0 ≡ 0 → follow next 0 steps ≡ 0
follow-end next zero e = refl
follow-end next (suc steps) e = ap (λ (link : ℕ). follow next link steps) e ∙ follow-end next steps e

pub none_after_end : (next : List ℕ) (link row : ℕ) → get_or next 0 0 ≡ 0 → link ≡ 0 → ¬ Reaches next link (row + 1)
none_after_end next link row e is r =
    let there : follow next 0 r.steps ≡ row + 1 = subst (λ (l : ℕ). follow next l r.steps ≡ row + 1) is r.there in
    let none : follow next 0 r.steps ≡ 0 = follow-end next r.steps e in
    omega arith

-- what is reached is the link itself or is reached from the next one
reach_by : (next : List ℕ) (link to steps : ℕ) → follow next link steps ≡ to → (link ≡ to) ⊎ Reaches next (get_or next link 0) to
reach_by next link to zero there = inl there
reach_by next link to (suc steps) there = inr (record { steps = steps; there = there })

pub reach_cases : (next : List ℕ) (link to : ℕ) → Reaches next link to → (link ≡ to) ⊎ Reaches next (get_or next link 0) to
reach_cases next link to r = reach_by next link to r.steps r.there

follow-appended : (next : List ℕ) (after link steps : ℕ) → Fall next → link < length next → follow (next ++ after ∷ []) link steps ≡ follow next link steps
follow-appended next after link zero f l = refl
follow-appended next after link (suc steps) f l =
    ap (λ (n : ℕ). follow (next ++ after ∷ []) n steps) (get_or_append_left next (after ∷ []) 0 link l) ∙ follow-appended next after (get_or next link 0) steps f (next_within next link f l)

module _ (heads next : List ℕ) (key link : ℕ) (f : Fall next) (size : link ≡ length next) (low : key < length heads) (within : (k : ℕ) → get_or heads k 0 < length next) where
  abbrev more : List ℕ
  more = next ++ get_or heads key 0 ∷ []

  head : get_or (set heads key link) key 0 ≡ link
  head = get_or-set_same heads key link 0 low

  last : get_or more link 0 ≡ get_or heads key 0
  last = get_or_at next (get_or heads key 0) [] 0 link (sym size)

  pub old_in_chain : (k row : ℕ) → Reaches next (get_or heads k 0) (row + 1) → Reaches more (get_or (set heads key link) k 0) (row + 1)
  old_in_chain k row r = elim (cases_eq k key) [
    | inl e ↦ record {
      steps = suc r.steps;
      there =
          ap (λ (l : ℕ). follow more l (suc r.steps)) (subst (λ (i : ℕ). get_or (set heads key link) i 0 ≡ link) (sym e) head) ∙ ap (λ (l : ℕ). follow more l r.steps) last
          ∙ follow-appended next (get_or heads key 0) (get_or heads key 0) r.steps f (within key) ∙ subst (λ (i : ℕ). follow next (get_or heads i 0) r.steps ≡ row + 1) e r.there;
    }
    | inr ne ↦ record {
      steps = r.steps;
      there =
          ap (λ (l : ℕ). follow more l r.steps) (get_or-set_other heads key k link 0 ne) ∙ follow-appended next (get_or heads key 0) (get_or heads k 0) r.steps f (within k)
          ∙ r.there;
    }
  ]

  many : length more ≡ length next + 1
  many = length-append next (get_or heads key 0 ∷ [])

  falls_more : (l : ℕ) → 0 < l → l < length more → get_or more l 0 < l
  falls_more l some below = elim (cases_eq l link) [
    | inl e ↦ subst (λ (i : ℕ). get_or more i 0 < i) (sym e) (let w = within key in omega (arith, last, w, size))
    | inr ne ↦
        let inside : l < length next = omega (arith, below, many, ne, size) in
        let same : get_or more l 0 ≡ get_or next l 0 = get_or_append_left next (get_or heads key 0 ∷ []) 0 l inside in
        let d = f.falls l some inside in omega (arith, same, d)
  ]

  within_more : (k : ℕ) → get_or (set heads key link) k 0 < length more
  within_more k = elim (cases_eq k key) [
    | inl e ↦ subst (λ (i : ℕ). get_or (set heads key link) i 0 < length more) (sym e) (omega (arith, head, many, size))
    | inr ne ↦ let same = get_or-set_other heads key k link 0 ne in let w = within k in omega (arith, same, w, many)
  ]

  pub AreChains-pushed : (filled : List ℕ) (place marks mark : ℕ) → AreChains heads next filled → place ≡ key / 128 → mark ≡ key % 128 → bit_at marks mark ≡ 1 →
      ((i : ℕ) → bit_at (get_or filled place 0) i ≡ 1 → bit_at marks i ≡ 1) → AreChains (set heads key link) more (set filled place marks)
  AreChains-pushed filled place marks mark c at is has kept = record {
    count = length-set heads key link ∙ c.count;
    sets = length-set filled place marks ∙ c.sets;
    begun = omega (arith, many);
    ends = get_or_append_left next (get_or heads key 0 ∷ []) 0 0 f.begun ∙ f.ends;
    falls = falls_more;
    within = within_more;
    noted = λ i j l m some. elim (cases_eq (128 * i + j) key) [
      | inl e ↦
          let row : i ≡ place = omega (arith, e, at, m) in
          let column : j ≡ mark = omega (arith, e, is, m) in
          subst (λ (k : ℕ). bit_at (get_or (set filled place marks) k 0) j ≡ 1) (sym row)
          (subst (λ (n : ℕ). bit_at n j ≡ 1) (sym (get_or-set_same filled place marks 0 (let size = c.sets in omega (arith, size, row, l)))) (subst (λ (n : ℕ). bit_at marks n ≡ 1) (sym column) has))
      | inr ne ↦ still i j (c.noted i j l m (λ none. some (get_or-set_other heads key (128 * i + j) link 0 ne ∙ none))) l
    ];
  }
    where
      still : (i j : ℕ) → bit_at (get_or filled i 0) j ≡ 1 → i < 128 → bit_at (get_or (set filled place marks) i 0) j ≡ 1
      still i j bit l = elim (cases_eq i place) [
        | inl e ↦
            subst (λ (k : ℕ). bit_at (get_or (set filled place marks) k 0) j ≡ 1) (sym e)
            (subst (λ (n : ℕ). bit_at n j ≡ 1) (sym (get_or-set_same filled place marks 0 (let size = c.sets in omega (arith, size, e, l)))) (kept j (subst (λ (k : ℕ). bit_at (get_or filled k 0) j ≡ 1) e bit)))
        | inr ne ↦ subst (λ (n : ℕ). bit_at n j ≡ 1) (sym (get_or-set_other filled place i marks 0 ne)) bit
      ]

pub chains_fall : (heads next filled : List ℕ) → AreChains heads next filled → Fall next
chains_fall heads next filled c = record { begun = c.begun; ends = c.ends; falls = c.falls }

-- the chains and their links before and after
module _ (heads next filled : List ℕ) (key link after : ℕ) (now : List ℕ) (c : AreChains heads next filled) (size : link ≡ length next) (low : key ≤ 16384) (is : after ≡ get_or heads key 0)
    (e : now ≡ next ++ after ∷ []) where
  f : Fall next
  f = chains_fall heads next filled c

  same : next ++ get_or heads key 0 ∷ [] ≡ now
  same = ap (λ (n : ℕ). next ++ n ∷ []) (sym is) ∙ sym e

  below : key < length heads
  below = let n = c.count in omega arith

  pub Keeps-pushed : (room wider : ℕ) → Keeps (record { heads = heads; next = next; room = room }) (record { heads = set heads key link; next = now; room = wider })
  Keeps-pushed room wider = record {
    each = λ k row r. subst (λ (xs : List ℕ). Reaches xs (get_or (set heads key link) k 0) (row + 1)) same (old_in_chain heads next key link f size below c.within k row r);
  }

  pub pushed : (place marks mark : ℕ) → place ≡ key / 128 → mark ≡ key % 128 → bit_at marks mark ≡ 1 → ((i : ℕ) → bit_at (get_or filled place 0) i ≡ 1 → bit_at marks i ≡ 1) →
      AreChains (set heads key link) now (set filled place marks)
  pushed place marks mark at mark_is has kept =
      subst (λ (xs : List ℕ). AreChains (set heads key link) xs (set filled place marks)) same (AreChains-pushed heads next key link f size below c.within filled place marks mark c at mark_is has kept)

-- a chain that isn't noted has no row
pub none_beside : (heads next filled : List ℕ) (first second marks others row : ℕ) → AreChains heads next filled → first < 128 → second < 128 → marks ≡ get_or filled first 0 →
    bit_at others second ≡ 1 → bit_at (bit_and marks others) second ≡ 0 → ¬ Reaches next (get_or heads (128 * first + second) 0) (row + 1)
none_beside heads next filled first second marks others row c low small is set unset = elim (cases_eq (get_or heads (128 * first + second) 0) 0) [
  | inl e ↦ none_after_end next (get_or heads (128 * first + second) 0) row c.ends e
  | inr ne ↦
      let noted : bit_at marks second ≡ 1 = subst (λ (n : ℕ). bit_at n second ≡ 1) (sym is) (c.noted first second low small ne) in
      let both = and_both marks others second noted set in
      absurd (omega (arith, both, unset))
]

zeros : (n i : ℕ) → get_or {A = ℕ} (replicate n 0) i 0 ≡ 0
zeros n i = elim (cases_below i n) [ inl l ↦ get_or-replicate n i 0 0 l | inr past ↦ get_or_past (replicate n 0) i 0 (omega (arith, length-replicate {A = ℕ} n 0, past)) ]

-- no row is in any chain
pub none_chained : (heads next filled : List ℕ) (keys marks : ℕ) → heads ≡ replicate keys 0 → next ≡ 0 ∷ [] → filled ≡ replicate marks 0 → keys ≡ 16385 → marks ≡ 129 → AreChains heads next filled
none_chained heads next filled keys marks h n f many few = record {
  count = ap (λ (xs : List ℕ). length xs) h ∙ length-replicate {A = ℕ} keys 0 ∙ many;
  sets = ap (λ (xs : List ℕ). length xs) f ∙ length-replicate {A = ℕ} marks 0 ∙ few;
  begun = omega (arith, one);
  ends = subst (λ (xs : List ℕ). get_or xs 0 0 ≡ 0) (sym n) refl;
  falls = λ link some below. absurd (omega (arith, one, some, below));
  within = λ key. let e = none key in omega (arith, one, e);
  noted = λ i j l m some. absurd (some (none (128 * i + j)));
}
  where
    one : length next ≡ 1
    one = ap (λ (xs : List ℕ). length xs) n

    none : (i : ℕ) → get_or heads i 0 ≡ 0
    none i = subst (λ (xs : List ℕ). get_or xs i 0 ≡ 0) (sym h) (zeros keys i)

one_more : (next : List ℕ) (from to : ℕ) → Reaches next (get_or next from 0) to → Reaches next from to
one_more next from to r = record { steps = suc r.steps; there = r.there }

-- a link is taken out that follows another
module _ (heads next filled : List ℕ) (before link : ℕ) (c : AreChains heads next filled) (some : 0 < link) (above : link < before) (inside : before < length next) (follows : get_or next before 0 ≡ link) where
  abbrev short : List ℕ
  short = set next before (get_or next link 0)

  skips : get_or short before 0 ≡ get_or next link 0
  skips = get_or-set_same next before (get_or next link 0) 0 inside

  keeps : (l : ℕ) → l ≢ before → get_or short l 0 ≡ get_or next l 0
  keeps l ne = get_or-set_other next before l (get_or next link 0) 0 ne

  passed : (from to steps : ℕ) → to ≢ link → follow next from steps ≡ to → Reaches short from to
  passed from to zero other there = record { steps = zero; there = there }
  passed from to (suc zero) other there = elim (cases_eq from before) [
    | inl e ↦ absurd (other (sym there ∙ ap (λ (l : ℕ). get_or next l 0) e ∙ follows))
    | inr ne ↦ record { steps = suc zero; there = keeps from ne ∙ there }
  ]
  passed from to (suc (suc steps)) other there = elim (cases_eq from before) [
    | inl e ↦
        let on : get_or next (get_or next from 0) 0 ≡ get_or short from 0 =
        ap (λ (l : ℕ). get_or next l 0) (ap (λ (l : ℕ). get_or next l 0) e ∙ follows) ∙ sym skips ∙ ap (λ (l : ℕ). get_or short l 0) (sym e) in
        one_more short from to (subst (λ (l : ℕ). Reaches short l to) on (passed (get_or next (get_or next from 0) 0) to steps other there))
    | inr ne ↦ one_more short from to (subst (λ (l : ℕ). Reaches short l to) (sym (keeps from ne)) (passed (get_or next from 0) to (suc steps) other there))
  ]

  pub KeepsBut-passed : (room : ℕ) → KeepsBut (record { heads = heads; next = next; room = room }) (record { heads = heads; next = short; room = room }) link
  KeepsBut-passed room = record { each = λ key row other r. passed (get_or heads key 0) (row + 1) r.steps other r.there }

  falls_still : (l : ℕ) → 0 < l → l < length short → get_or short l 0 < l
  falls_still l positive below = elim (cases_eq l before) [
    | inl e ↦ subst (λ (i : ℕ). get_or short i 0 < i) (sym e) (let d = c.falls link some (omega (arith, above, inside)) in omega (arith, skips, d, above))
    | inr ne ↦ let d = c.falls l positive (omega (arith, below, length-set next before (get_or next link 0))) in omega (arith, keeps l ne, d)
  ]

  pub AreChains-passed : AreChains heads short filled
  AreChains-passed = record {
    count = c.count;
    sets = c.sets;
    begun = let b = c.begun in omega (arith, length-set next before (get_or next link 0), b);
    ends = keeps 0 (λ e. omega (arith, e, above)) ∙ c.ends;
    falls = falls_still;
    within = λ key. let w = c.within key in omega (arith, length-set next before (get_or next link 0), w);
    noted = c.noted;
  }

-- a link is taken out that is the first of a chain
module _ (heads next filled : List ℕ) (key link : ℕ) (c : AreChains heads next filled) (some : 0 < link) (inside : link < length next) (low : key ≤ 16384) (first : get_or heads key 0 ≡ link) where
  abbrev rest : List ℕ
  rest = set heads key (get_or next link 0)

  begins : get_or rest key 0 ≡ get_or next link 0
  begins = get_or-set_same heads key (get_or next link 0) 0 (let n = c.count in omega (arith, n, low))

  others : (k : ℕ) → k ≢ key → get_or rest k 0 ≡ get_or heads k 0
  others k ne = get_or-set_other heads key k (get_or next link 0) 0 ne

  pub KeepsBut-first : (room : ℕ) → KeepsBut (record { heads = heads; next = next; room = room }) (record { heads = rest; next = next; room = room }) link
  KeepsBut-first room = record {
    each = λ k row other r. elim (cases_eq k key) [
      | inl e ↦
          let at : get_or heads k 0 ≡ link = ap (λ (i : ℕ). get_or heads i 0) e ∙ first in
          let on : get_or next (get_or heads k 0) 0 ≡ get_or rest k 0 = ap (λ (l : ℕ). get_or next l 0) at ∙ sym begins ∙ ap (λ (i : ℕ). get_or rest i 0) (sym e) in
          elim (reach_cases next (get_or heads k 0) (row + 1) r) [
            | inl is ↦ absurd (other (sym is ∙ at))
            | inr more ↦ subst (λ (l : ℕ). Reaches next l (row + 1)) on more
          ]
      | inr ne ↦ subst (λ (l : ℕ). Reaches next l (row + 1)) (sym (others k ne)) r
    ];
  }

  -- the chains are noted by the same or by other marks
  by_marks : (marks : List ℕ) → length marks ≡ 129 → ((i j : ℕ) → i < 128 → j < 128 → get_or rest (128 * i + j) 0 ≢ 0 → bit_at (get_or filled i 0) j ≡ 1 → bit_at (get_or marks i 0) j ≡ 1) →
      AreChains rest next marks
  by_marks marks sets stays = record {
    count = length-set heads key (get_or next link 0) ∙ c.count;
    sets = sets;
    begun = c.begun;
    ends = c.ends;
    falls = c.falls;
    within = λ k. elim (cases_eq k key) [
      | inl e ↦ subst (λ (i : ℕ). get_or rest i 0 < length next) (sym e) (let d = c.falls link some inside in omega (arith, begins, d, inside))
      | inr ne ↦ let w = c.within k in omega (arith, others k ne, w)
    ];
    noted = λ i j l m not_end. stays i j l m not_end (c.noted i j l m (had i j not_end));
  }
    where
      had : (i j : ℕ) → get_or rest (128 * i + j) 0 ≢ 0 → get_or heads (128 * i + j) 0 ≢ 0
      had i j not_end none = elim (cases_eq (128 * i + j) key) [
        | inl e ↦ let is : get_or heads (128 * i + j) 0 ≡ link = ap (λ (k : ℕ). get_or heads k 0) e ∙ first in omega (arith, is, none, some)
        | inr ne ↦ not_end (others (128 * i + j) ne ∙ none)
      ]

  pub AreChains-first : AreChains rest next filled
  AreChains-first = by_marks filled c.sets (λ i j l m not_end bit. bit)

  pub AreChains-emptied : (place mark marks : ℕ) → get_or next link 0 ≡ 0 → place ≡ key / 128 → mark ≡ key % 128 →
      ((i : ℕ) → i < 128 → i ≢ mark → bit_at marks i ≡ bit_at (get_or filled place 0) i) → AreChains rest next (set filled place marks)
  AreChains-emptied place mark marks empty at is same = by_marks (set filled place marks) (length-set filled place marks ∙ c.sets) (λ i j l m not_end bit. elim (cases_eq i place) [
    | inl e ↦
        let other : j ≢ mark = λ f. not_end (ap (λ (k : ℕ). get_or rest k 0) (let whole : 128 * i + j ≡ key = omega (arith, e, f, at, is) in whole) ∙ begins ∙ empty) in
        let here : get_or (set filled place marks) i 0 ≡ marks =
        subst (λ (k : ℕ). get_or (set filled place marks) k 0 ≡ marks) (sym e) (get_or-set_same filled place marks 0 (let size = c.sets in omega (arith, size, e, l))) in
        subst (λ (n : ℕ). bit_at n j ≡ 1) (sym here) (same j m other ∙ subst (λ (k : ℕ). bit_at (get_or filled k 0) j ≡ 1) e bit)
    | inr ne ↦ subst (λ (n : ℕ). bit_at n j ≡ 1) (sym (get_or-set_other filled place i marks 0 ne)) bit
  ])
