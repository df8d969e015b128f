-- A split and a join keep the rule.
use Rattle.std.proofs.Common.{◌≡◌, ◌≤◌, ℕ, min, Bool, true, false, ◌||◌, List, [], ◌∷◌, ◌++◌, set, arith, refl, sym, ap, ◌∙◌, subst, ⊎_elim}
use Rattle.std.proofs.lemmas.List.Elements.{Contains-append_cases}
use mathlib.Core.Option.{some}
use lib.ListN.{get_elem?}
use Rattle.atomic_table.specs.Table.{Splits, Joins}
use Rattle.atomic_table.proofs.Lists.{at_set, at_snoc, set_else}
use Rattle.ucq_board.specs.declared.rule.View.{View}
use Rattle.ucq_board.specs.declared.rule.Key.{Key}
use Rattle.ucq_board.specs.Lists.{times}
use Rattle.ucq_board.specs.Rule.{total, seats_of, ended_seats_of, calls_of, spent_view, FitsView, Keeps}
use Rattle.ucq_board.specs.Steps.{left_of, right_of, both_of}
use Rattle.ucq_board.proofs.Times.{times_append}
use Rattle.ucq_board.proofs.Totals.{total_set, total_snoc, part_le}
use Rattle.ucq_board.proofs.Sums.{halves_seats, halves_ended, both_seats, both_ended, both_calls}

left_fits : (k : Key) (words : List ℕ) (v : View) → v.spent ≡ false → FitsView k words v → FitsView k words (left_of v)
left_fits k words v unspent f = record {
  fixed = f.fixed;
  finished = f.finished;
  seen = f.seen;
  called = f.called;
  knows = f.knows;
  ended = f.ended;
  spent = λ e. absurd (let u = unspent in cc);
}

right_fits : (k : Key) (words : List ℕ) (v : View) → v.spent ≡ false → FitsView k words v → FitsView k words (right_of v)
right_fits k words v unspent f = record {
  fixed = f.fixed;
  finished = λ row. omega arith;
  seen = f.seen;
  called = λ e. absurd (cc);
  knows = f.knows;
  ended = f.ended;
  spent = λ e. absurd (let u = unspent in cc);
}

pub splits : (k : Key) (id : ℕ) (v : View) → v.spent ≡ false → 1 ≤ v.spare → Splits (Keeps k) id v (left_of v) (right_of v)
splits k id v unspent enough s h at =
    let f = h.each id v at in
    let mid = set s.views id (left_of v) in
    record {
      drawn = λ x. let t = total_set (λ u. times x u.drawn) s.views id v (left_of v) at in let n = total_snoc (λ u. times x u.drawn) mid (right_of v) in let b = h.drawn x in omega arith;
      done = λ row l. let t = total_set (λ u. times row u.finished) s.views id v (left_of v) at in let n = total_snoc (λ u. times row u.finished) mid (right_of v) in let b = h.done row l in omega arith;
      stop = let t = total_set calls_of s.views id v (left_of v) at in let n = total_snoc calls_of mid (right_of v) in let e : total calls_of s.views ≡ total calls_of (mid ++ right_of v ∷ []) = omega arith in h.stop ∙ ap (min 1) e;
      seats = let t = total_set seats_of s.views id v (left_of v) at in let n = total_snoc seats_of mid (right_of v) in let b = h.seats in let w = halves_seats v unspent enough in omega arith;
      cursor = let t = total_set ended_seats_of s.views id v (left_of v) at in let n = total_snoc ended_seats_of mid (right_of v) in let b = h.cursor in let w = halves_ended v unspent enough in omega arith;
      each = λ j u e.
          ⊎_elim
          (λ old. ⊎_elim (λ p. subst (FitsView k s.words) p.1 (left_fits k s.words v unspent f)) (λ p. h.each j u p.1) (at_set s.views id j (left_of v) u old))
          (λ new. subst (FitsView k s.words) new (right_fits k s.words v unspent f))
          (at_snoc mid (right_of v) u j e);
      length = h.length;
      small = h.small;
    }

either_true : (p q : Bool) (P : Type 0) → (p ≡ true → P) → (q ≡ true → P) → (p || q) ≡ true → P
either_true true q P f g e = f refl
either_true false q P f g e = g e

or_left : (p q : Bool) → p ≡ true → (p || q) ≡ true
or_left p q e = ap (λ (b : Bool). b || q) e

or_right : (p q : Bool) → q ≡ true → (p || q) ≡ true
or_right true q e = refl
or_right false q e = e

both_fits : (k : Key) (words : List ℕ) (v w : View) → v.spent ≡ false → FitsView k words v → FitsView k words w → FitsView k words (both_of v w)
both_fits k words v w unspent f g = record {
  fixed = f.fixed;
  finished = λ row. let a = f.finished row in let b = g.finished row in let c = times_append row v.drawn w.drawn in let d = times_append row v.finished w.finished in omega arith;
  seen = λ row c. ⊎_elim (f.seen row) (g.seen row) (Contains-append_cases v.seen w.seen row c);
  called = either_true v.called w.called _ (λ e. or_left v.knows w.knows (f.called e)) (λ e. or_right v.knows w.knows (g.called e));
  knows = either_true v.knows w.knows _ f.knows g.knows;
  ended = either_true v.ended w.ended _ f.ended g.ended;
  spent = λ e. absurd (let u = unspent in cc);
}

spent_fits : (k : Key) (words : List ℕ) → FitsView k words spent_view
spent_fits k words = record {
  fixed = λ e. absurd (cc);
  finished = λ row. omega arith;
  seen = λ row c. let l = c.1 in absurd (omega arith);
  called = λ e. absurd (cc);
  knows = λ e. absurd (cc);
  ended = λ e. absurd (cc);
  spent = λ e. refl;
}

pub joins : (k : Key) (id : ℕ) (v : View) (other : ℕ) (w : View) → v.spent ≡ false → w.spent ≡ false → Joins (Keeps k) id v other w (both_of v w) spent_view
joins k id v other w a b s h at apart there =
    let mid = set s.views id (both_of v w) in
    let f = h.each id v at in
    let there_before : get_elem? s.views other ≡ some w = sym (set_else s.views id other (both_of v w) apart) ∙ there in
    let g = h.each other w there_before in
    record {
      drawn = λ x. let t = total_set (λ u. times x u.drawn) s.views id v (both_of v w) at in let n = total_set (λ u. times x u.drawn) mid other w spent_view there in let d = h.drawn x in let c = times_append x v.drawn w.drawn in omega arith;
      done = λ row l. let t = total_set (λ u. times row u.finished) s.views id v (both_of v w) at in let n = total_set (λ u. times row u.finished) mid other w spent_view there in let d = h.done row l in let c = times_append row v.finished w.finished in omega arith;
      stop = let t = total_set calls_of s.views id v (both_of v w) at in let n = total_set calls_of mid other w spent_view there in let c = both_calls v w in let d = h.stop in let without = total_set calls_of s.views id v spent_view at in let rest = part_le calls_of (set s.views id spent_view) other w (set_else s.views id other spent_view apart ∙ there_before) in omega arith;
      seats = let t = total_set seats_of s.views id v (both_of v w) at in let n = total_set seats_of mid other w spent_view there in let d = h.seats in let c = both_seats v w a b in omega arith;
      cursor = let t = total_set ended_seats_of s.views id v (both_of v w) at in let n = total_set ended_seats_of mid other w spent_view there in let d = h.cursor in let c = both_ended v w a b in omega arith;
      each = λ j u e.
          ⊎_elim (λ p. subst (FitsView k s.words) p.1 (spent_fits k s.words))
          (λ p. ⊎_elim (λ q. subst (FitsView k s.words) q.1 (both_fits k s.words v w a f g)) (λ q. h.each j u q.1) (at_set s.views id j (both_of v w) u p.1))
          (at_set mid other j spent_view u e);
      length = h.length;
      small = h.small;
    }
