-- Marks of which none before a row is open, and of which each before a row is settled.
use Rattle.std.proofs.Common.{◌≡◌, ◌≢◌, ℕ, ◌≤◌, sym, List, [], ◌∷◌, ◌++◌, length, slice_set, arith, subst}
use Rattle.std.proofs.lemmas.List.{get_or-set_other, get_or_append_left, length-set, length-append}
use Rattle.ucq_store.specs.declared.Mark.{Mark}
use Rattle.ucq_store.specs.declared.RowState.{RowState}
use Rattle.ucq_store.specs.declared.RowState.TheVariants.{Waiting, Open, Claimed, Done, Skipped}
use Rattle.ucq_store.specs.Store.{mark_at}
use Rattle.ucq_store.specs.inner.Marks.{NoneOpenBelow, IsSettled, AreSettledBelow}

-- what a read past the marks gives
abbrev no_mark : Mark
no_mark = record { depth = 0; state = Waiting }

abbrev IsShut : Mark → Type 0
IsShut m = m.state ≢ Open

-- a mark is written at a place that isn't before the row
pub none_below_written : (marks : List Mark) (from row least : ℕ) (m : Mark) → least ≤ from → least ≤ row →
    NoneOpenBelow marks from → NoneOpenBelow (slice_set marks row m) least
none_below_written marks from row least m low before none = record {
  each = λ k l.
      let differs : ¬ (k ≡ row) = λ e. omega arith in
      subst IsShut (sym (get_or-set_other marks row k m no_mark differs)) (none.each k (omega arith));
}

pub settled_below_written : (marks : List Mark) (from row least : ℕ) (m : Mark) → least ≤ from → least ≤ row →
    AreSettledBelow marks from → AreSettledBelow (slice_set marks row m) least
settled_below_written marks from row least m low before settled = record {
  within = omega (arith, length-set marks row m, settled.within);
  each = λ k l.
      let differs : ¬ (k ≡ row) = λ e. omega arith in
      subst (λ (x : Mark). IsSettled x.state) (sym (get_or-set_other marks row k m no_mark differs)) (settled.each k (omega arith));
}

-- a mark is added at the end
pub none_below_added : (marks : List Mark) (from least : ℕ) (m : Mark) → least ≤ from → least ≤ length marks →
    NoneOpenBelow marks from → NoneOpenBelow (marks ++ m ∷ []) least
none_below_added marks from least m low within none = record {
  each = λ k l. subst IsShut (sym (get_or_append_left marks (m ∷ []) no_mark k (omega arith))) (none.each k (omega arith));
}

pub settled_below_added : (marks : List Mark) (from least : ℕ) (m : Mark) → least ≤ from → least ≤ length marks →
    AreSettledBelow marks from → AreSettledBelow (marks ++ m ∷ []) least
settled_below_added marks from least m low within settled = record {
  within = omega (arith, length-append marks (m ∷ []));
  each = λ k l.
      subst (λ (x : Mark). IsSettled x.state) (sym (get_or_append_left marks (m ∷ []) no_mark k (omega arith))) (settled.each k (omega arith));
}

settled_is_shut : (state : RowState) → IsSettled state → state ≢ Open
settled_is_shut Waiting s = absurd s
settled_is_shut Open s = absurd s
settled_is_shut (Claimed number) s = absurd s
settled_is_shut Done s = λ e. cc
settled_is_shut Skipped s = λ e. cc

pub none_below_settled : (marks : List Mark) (from : ℕ) → AreSettledBelow marks from → NoneOpenBelow marks from
none_below_settled marks from settled = record { each = λ k l. settled_is_shut (mark_at marks k).state (settled.each k l) }
