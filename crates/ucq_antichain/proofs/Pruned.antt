-- Rows are pruned one after another, and then a new one is added.
use Rattle.std.proofs.Common.{◌≡◌, ℕ, ◌+◌, ◌<◌, ◌≤◌, ◌⊎◌, inl, inr, refl, sym, ap, ◌∙◌, List, [], ◌∷◌, ◌++◌, Bool, true, false, cond, length, get_or, arith, subst}
use Rattle.std.proofs.lemmas.Bool.{cases_eq}
use Rattle.std.proofs.Math.ListN.{set}
use Rattle.std.proofs.lemmas.List.{get_or_append_left, get_or_at, get_or_default, length-append, get_or-set_same, get_or-set_other, length-set, get_or_past}
use Rattle.std.proofs.lemmas.List.Sums.{sum_by-append, sum_by-set, count_by-le-length}
use Rattle.ucq_terms.specs.Syntax.{Query}
use Rattle.ucq_terms.specs.Homomorphism.{Covers}
use Rattle.ucq_antichain.specs.declared.Row.{Row}
use Rattle.ucq_antichain.specs.Rows.{no_row, row_at, query_at, IsLiveAt, IsAdded, SomeLiveCovers, live_count}
use Rattle.ucq_antichain.specs.Calls.{MayDie, IsPruned, AddsRow}
use Rattle.ucq_antichain.specs.inner.Walks.{NoneCovered, DiesAt, IsPrunedFrom}
use Rattle.ucq_antichain.proofs.Words.{cases_below}

-- what pruning keeps of a row and changes
pruned_query : (q : Query) (old : Row) (b : Bool) (now : Row) → MayDie q old b now → now.query ≡ old.query
pruned_query q old true now (live, covers, same) = ap (λ (r : Row). r.query) same
pruned_query q old false now (same, none) = ap (λ (r : Row). r.query) same

pruned_live : (q : Query) (old : Row) (b : Bool) (now : Row) → MayDie q old b now → old.live ≡ true →
    (Covers q old.query × ¬ (now.live ≡ true)) ⊎ ((¬ Covers q old.query) × (now.live ≡ true))
pruned_live q old true now (live, covers, same) alive = inl (covers, λ e. let d : now.live ≡ false = ap (λ (r : Row). r.live) same in cc)
pruned_live q old false now (same, none) alive = inr (none alive, ap (λ (r : Row). r.live) same ∙ alive)

pruned_dead : (q : Query) (old : Row) (b : Bool) (now : Row) → MayDie q old b now → ¬ (old.live ≡ true) → ¬ (now.live ≡ true)
pruned_dead q old true now (live, covers, same) dead e = dead live
pruned_dead q old false now (same, none) dead e = dead (sym (ap (λ (r : Row). r.live) same) ∙ e)

still_live : (q : Query) (old : Row) (b : Bool) (now : Row) → MayDie q old b now → now.live ≡ true → old.live ≡ true
still_live q old true now (live, covers, same) alive = live
still_live q old false now (same, none) alive = sym (ap (λ (r : Row). r.live) same) ∙ alive

-- a row that was looked at twice
may_twice : (q : Query) (old mid now : Row) (b c : Bool) → MayDie q old b mid → MayDie q mid c now → (d : Bool) × MayDie q old d now
may_twice q old mid now true true (live, covers, same) (alive, also, is) = absurd (let e : mid.live ≡ false = ap (λ (r : Row). r.live) same in let f : mid.live ≡ true = alive in cc)
may_twice q old mid now true false (live, covers, same) (is, unless) = (true, (live, covers, is ∙ same))
may_twice q old mid now false c (same, unless) may = (c, subst (λ (r : Row). MayDie q r c now) same may)

-- what a row counts for
abbrev one : Row → ℕ
one r = cond r.live 1 0

counted : (q : Query) (b : Bool) (before row : Row) → MayDie q before b row → one row + cond b 1 0 ≡ one before
counted q true before row (live, covers, same) =
    let was : one before ≡ 1 = ap (λ (l : Bool). cond l 1 0) live in
    let is : one row ≡ 0 = ap one same in
    omega arith
counted q false before row (same, unless) = let is : one row ≡ one before = ap one same in omega arith

-- a row that was read is written
pub dies_there : (q : Query) (rows : List Row) (place : ℕ) (read row : Row) (b : Bool) → place < length rows → read ≡ get_or rows place read → MayDie q read b row →
    DiesAt q rows (set rows place row) place b
dies_there q rows place read row b inside is may = record {
  count = length-set rows place row;
  here = subst (MayDie q (row_at rows place) b) (sym (get_or-set_same rows place row no_row inside)) at;
  others = λ other ne. get_or-set_other rows place other row no_row ne;
  fewer =
      let c : live_count (set rows place row) + one (row_at rows place) ≡ live_count rows + one row = sum_by-set one rows place row no_row inside in
      let d : one row + cond b 1 0 ≡ one (row_at rows place) = counted q b (row_at rows place) row at in
      omega (arith, c, d);
}
  where
    at : MayDie q (row_at rows place) b row
    at = subst (λ (r : Row). MayDie q r b row) (is ∙ get_or_default rows place read no_row inside) may

-- no row is at the place
pub dies_nowhere : (q : Query) (rows : List Row) (place : ℕ) → length rows ≤ place → DiesAt q rows rows place false
dies_nowhere q rows place past = record {
  count = refl;
  here = (refl, λ live. let e : false ≡ true = subst (λ (r : Row). r.live ≡ true) (get_or_past rows place no_row past) live in absurd (cc));
  others = λ other ne. refl;
  fewer = omega arith;
}

-- no row is looked at where the query covers none
pub none_die : (q : Query) (rows : List Row) (from to : ℕ) → NoneCovered rows q from to → IsPrunedFrom q rows rows from to 0
none_die q rows from to h = record { count = refl; between = λ row l m. (false, (refl, λ live covers. h.none row l m live covers)); outside = λ row o. refl; fewer = omega arith }

-- one row
pub one_dies : (q : Query) (before after : List Row) (row next : ℕ) (b : Bool) → next ≡ row + 1 → DiesAt q before after row b → IsPrunedFrom q before after row next (cond b 1 0)
one_dies q before after row next b is d = record {
  count = d.count;
  between = λ r l m. let e : row ≡ r = omega (arith, l, m, is) in (b, subst (λ (x : ℕ). MayDie q (row_at before x) b (row_at after x)) e d.here);
  outside = λ r o. d.others r (λ e. elim o [ inl l ↦ omega (arith, l, e) | inr l ↦ omega (arith, l, e, is) ]);
  fewer = d.fewer;
}

-- one row or word after another
pub none_pruned : (q : Query) (rows : List Row) (from : ℕ) → IsPrunedFrom q rows rows from from 0
none_pruned q rows from = record { count = refl; between = λ row l m. absurd (omega arith); outside = λ row o. refl; fewer = omega arith }

pub pruned_further : (q : Query) (before mid after : List Row) (from place to pruned more : ℕ) → from ≤ place → place ≤ to → IsPrunedFrom q before mid from place pruned →
    IsPrunedFrom q mid after place to more → IsPrunedFrom q before after from to (pruned + more)
pruned_further q before mid after from place to pruned more low high h d = record {
  count = d.count ∙ h.count;
  between = λ row l m. elim (cases_below row place) [
    | inl b ↦ let (c, may) = h.between row l b in (c, subst (MayDie q (row_at before row) c) (sym (d.outside row (inl b))) may)
    | inr a ↦ let (c, may) = d.between row a m in (c, subst (λ (r : Row). MayDie q r c (row_at after row)) (h.outside row (inr a)) may)
  ];
  outside = λ row o. elim o [
    | inl l ↦ d.outside row (inl (omega (arith, l, low))) ∙ h.outside row (inl l)
    | inr l ↦ d.outside row (inr l) ∙ h.outside row (inr (omega (arith, l, high)))
  ];
  fewer = let f = d.fewer in let g = h.fewer in omega (arith, f, g);
}

-- some rows, and then none
pub pruned_on : (q : Query) (before mid after : List Row) (from place middle to pruned more : ℕ) → from ≤ place → place ≤ middle → middle ≤ to → IsPrunedFrom q before mid from place pruned →
    IsPrunedFrom q mid after place middle more → NoneCovered after q middle to → IsPrunedFrom q before after from to (pruned + more)
pruned_on q before mid after from place middle to pruned more low high far h d none =
    let sum : pruned + more + 0 ≡ pruned + more = omega arith in
    subst (IsPrunedFrom q before after from to) sum
    (pruned_further q before after after from middle to (pruned + more) 0 (omega (arith, low, high)) far (pruned_further q before mid after from place middle pruned more low high h d) (none_die q after middle to none))

-- so many rows can't die as there are
pub few_pruned : (before now : List Row) (pruned n : ℕ) → live_count now + pruned ≡ live_count before → length before ≤ n → pruned ≤ n
few_pruned before now pruned n e l = let c = count_by-le-length (λ (r : Row). r.live) before in omega (arith, e, l, c)

-- queries stay
pub queries_stay : (q : Query) (before now : List Row) (from to pruned row : ℕ) → IsPrunedFrom q before now from to pruned → query_at now row ≡ query_at before row
queries_stay q before now from to pruned row h = elim (cases_below row from) [
  | inl b ↦ ap (λ (r : Row). r.query) (h.outside row (inl b))
  | inr a ↦ elim (cases_below row to) [
    | inl b ↦ let (c, may) = h.between row a b in pruned_query q (row_at before row) c (row_at now row) may
    | inr past ↦ ap (λ (r : Row). r.query) (h.outside row (inr past))
  ]
]

-- what is live was live
pub was_live : (q : Query) (before now : List Row) (from to pruned row : ℕ) → IsPrunedFrom q before now from to pruned → IsLiveAt now row → IsLiveAt before row
was_live q before now from to pruned row h alive = elim (cases_below row from) [
  | inl b ↦ sym (ap (λ (r : Row). r.live) (h.outside row (inl b))) ∙ alive
  | inr a ↦ elim (cases_below row to) [
    | inl b ↦ let (c, may) = h.between row a b in still_live q (row_at before row) c (row_at now row) may alive
    | inr past ↦ sym (ap (λ (r : Row). r.live) (h.outside row (inr past))) ∙ alive
  ]
]

-- so what covers no live row still covers none
pub none_still : (q : Query) (before now : List Row) (from to pruned low high : ℕ) → IsPrunedFrom q before now from to pruned → NoneCovered before q low high → NoneCovered now q low high
none_still q before now from to pruned low high h n = record {
  none = λ row l m alive covers.
      n.none row l m (was_live q before now from to pruned row h alive) (subst (Covers q) (queries_stay q before now from to pruned row h) covers);
}

pub query_stays : (q : Query) (before now : List Row) (place row : ℕ) (b : Bool) → DiesAt q before now place b → query_at now row ≡ query_at before row
query_stays q before now place row b d = elim (cases_eq row place) [
  | inl e ↦ subst (λ (r : ℕ). query_at now r ≡ query_at before r) (sym e) (pruned_query q (row_at before place) b (row_at now place) d.here)
  | inr ne ↦ ap (λ (r : Row). r.query) (d.others row ne)
]

pub all_pruned : (q : Query) (before now : List Row) (to pruned : ℕ) → IsPrunedFrom q before now 0 to pruned → length before ≤ to → IsPruned q before now pruned
all_pruned q before now to pruned h enough = record {
  count = h.count;
  query = λ row l. queries_stay q before now 0 to pruned row h;
  live = λ row l alive. let (b, may) = h.between row (omega arith) (omega (arith, l, enough)) in pruned_live q (row_at before row) b (row_at now row) may alive;
  dead = λ row l dead. let (b, may) = h.between row (omega arith) (omega (arith, l, enough)) in pruned_dead q (row_at before row) b (row_at now row) may dead;
  fewer = h.fewer;
}

-- the rows and a live one after them
abbrev pub with_last : List Row → Query → List Row
with_last rows q = rows ++ record { query = q; live = true } ∷ []

count-last : (rows : List Row) (q : Query) → live_count (with_last rows q) ≡ live_count rows + 1
count-last rows q = sum_by-append (λ (r : Row). cond r.live 1 0) rows (record { query = q; live = true } ∷ [])

module _ (q : Query) (before mid : List Row) (pruned : ℕ) (p : IsPruned q before mid pruned) where
  last_row : row_at (with_last mid q) (length before) ≡ record { query = q; live = true }
  last_row = get_or_at mid (record { query = q; live = true }) [] no_row (length before) p.count

  old_row : (row : ℕ) → row < length before → row_at (with_last mid q) row ≡ row_at mid row
  old_row row l = get_or_append_left mid (record { query = q; live = true } ∷ []) no_row row (subst (λ (n : ℕ). row < n) (sym p.count) l)

  pruned_then_pushed : IsAdded q before (with_last mid q)
  pruned_then_pushed = record {
    one_more = length-append mid (record { query = q; live = true } ∷ []) ∙ ap (λ (n : ℕ). n + 1) p.count;
    last_query = ap (λ (r : Row). r.query) last_row;
    last_live = ap (λ (r : Row). r.live) last_row;
    earlier_query = λ row l. ap (λ (r : Row). r.query) (old_row row l) ∙ p.query row l;
    earlier_live = λ row l live.
        subst (λ (r : Row). (Covers q (query_at before row) × ¬ (r.live ≡ true)) ⊎ ((¬ Covers q (query_at before row)) × (r.live ≡ true)))
        (sym (old_row row l)) (p.live row l live);
    earlier_dead = λ row l dead. subst (λ (r : Row). ¬ (r.live ≡ true)) (sym (old_row row l)) (p.dead row l dead);
  }

  pub adds_row : (budget row : ℕ) → ¬ SomeLiveCovers before q → row ≡ length before → row < budget →
      AddsRow (record { budget = budget; rows = before }) q row pruned (record { budget = budget; rows = with_last mid q })
  adds_row budget row fresh at room = record {
    uncovered = fresh;
    last = at;
    room = room;
    budget = refl;
    added = pruned_then_pushed;
    fewer = omega (arith, count-last mid q, p.fewer);
  }
