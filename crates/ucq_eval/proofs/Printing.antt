-- Tuples beside their texts, one more at a time.
use Rattle.std.proofs.Common.{◌≡◌, ◌∙◌, ap, refl, sym, subst, append_assoc, List, [], ◌∷◌, ◌++◌, ℕ, map, Contains, inl, inr, append-nil}
use Rattle.std.specs.Prelude.{IfOk, MatchResult, Result, Ok, Err}
use Rattle.std.specs.List.{AllZip}
use Rattle.std.specs.Global.{Vec}
use Rattle.std.proofs.lemmas.List.{map-append}
use Rattle.std.proofs.lemmas.List.Elements.{All-append, All-cons, All-nil}
use Rattle.ucq_terms.proofs.Lists.{All-from_contains, Contains-cons_cases, Contains-empty}
use Rattle.ucq_eval.specs.declared.order.Printed.{Printed}
use Rattle.ucq_eval.specs.Tuples.{tuple_text}
use Rattle.ucq_eval.specs.Order.{ArePrinted, ArePrintedBut, IsPrinted}

pub one_more_printed : (names : List (List ℕ)) (found rest : List (Vec ℕ)) (all : List Printed) (p : Printed) → ArePrintedBut names found (p.names ∷ rest) all → p.text.items ≡ tuple_text names p.names.items → ArePrintedBut names found rest (all ++ p ∷ [])
one_more_printed names found rest all p h text = record {
  done = h.done ++ p.names ∷ [];
  split = h.split ∙ sym (append_assoc h.done (p.names ∷ []) rest);
  printed = record {
    names_are =
        map-append (λ (p : Printed). p.names.items) all (p ∷ [])
        ∙ ap (λ (xs : List (List ℕ)). xs ++ p.names.items ∷ []) h.printed.names_are
        ∙ sym (map-append (λ (t : Vec ℕ). t.items) h.done (p.names ∷ []));
    texts_are = All-append (λ (p : Printed). p.text.items ≡ tuple_text names p.names.items) all (p ∷ []) h.printed.texts_are (All-from_contains (λ (p : Printed). p.text.items ≡ tuple_text names p.names.items) (p ∷ []) only);
  };
}
  where
    only : (x : Printed) → Contains (p ∷ []) x → x.text.items ≡ tuple_text names x.names.items
    only x c = elim (Contains-cons_cases p [] x c) [
      | inl e ↦ subst (λ (y : Printed). y.text.items ≡ tuple_text names y.names.items) e text
      | inr i ↦ absurd (Contains-empty x i)
    ]

-- all are printed where no tuple is left
pub all_printed : (names : List (List ℕ)) (found : List (Vec ℕ)) (all : List Printed) → ArePrintedBut names found [] all → ArePrinted names (map (λ (t : Vec ℕ). t.items) found) all
all_printed names found all h =
    subst (λ (ts : List (Vec ℕ)). ArePrinted names (map (λ (t : Vec ℕ). t.items) ts) all) (sym (h.split ∙ append-nil h.done)) h.printed

-- a list of results that are all there is made of what they hold
AllZip-held : {X Y : Type 0} (E : Type 0) (R : X → Y → Type 0) (xs : List X) (ys : List Y) → AllZip (λ x (r : Result Y E). IfOk r (R x)) xs (map Ok ys) → AllZip R xs ys
AllZip-held E R [] [] h = tt
AllZip-held E R [] (y ∷ ys) h = absurd h
AllZip-held E R (x ∷ xs) [] h = absurd h
AllZip-held E R (x ∷ xs) (y ∷ ys) h = (h.0, AllZip-held E R xs ys h.1)

-- tuples that are printed place by place
pub printed_by_place : (names : List (List ℕ)) (tuples : List (Vec ℕ)) (all : List Printed) → AllZip (IsPrinted names) tuples all → ArePrinted names (map (λ (t : Vec ℕ). t.items) tuples) all
printed_by_place names [] [] h = record { names_are = refl; texts_are = All-nil (λ (p : Printed). p.text.items ≡ tuple_text names p.names.items) }
printed_by_place names [] (p ∷ ps) h = absurd h
printed_by_place names (t ∷ ts) [] h = absurd h
printed_by_place names (t ∷ ts) (p ∷ ps) h =
    let rest = printed_by_place names ts ps h.1 in
    record {
      names_are = λ i. (h.0.names_are i).items ∷ rest.names_are i;
      texts_are = All-cons (λ (p : Printed). p.text.items ≡ tuple_text names p.names.items) p ps h.0.text_is rest.texts_are;
    }

-- the same where threads were lent the names, and memory sufficed for all
pub printed_where_asked :
    {E : Type 0} (lent_names names : List (List ℕ)) (tuples keys : List (Vec ℕ)) (asked : List (Result Printed E)) (result : Result (Vec Printed) E) →
    tuples ≡ keys →
    AllZip (λ t (r : Result Printed E). IfOk r (IsPrinted lent_names t)) tuples asked →
    MatchResult result (λ all. (ps : List Printed) × (asked ≡ map Ok ps) × (all.items ≡ ps)) (λ e. Contains asked (Err e)) →
    lent_names ≡ names →
    IfOk result (λ all. ArePrinted names (map (λ (t : Vec ℕ). t.items) keys) all.items)
printed_where_asked lent_names names tuples keys asked (Err e) same zipped held lent = tt
printed_where_asked {E} lent_names names tuples keys asked (Ok all) same zipped (ps, made, items) lent =
    let of_all = subst (λ (rs : List (Result Printed E)). AllZip (λ t (r : Result Printed E). IfOk r (IsPrinted lent_names t)) tuples rs) made zipped in
    let each = subst (λ (ns : List (List ℕ)). AllZip (IsPrinted ns) tuples ps) lent (AllZip-held E (IsPrinted lent_names) tuples ps of_all) in
    let whole = printed_by_place names tuples ps each in
    subst (λ (ts : List (Vec ℕ)). ArePrinted names (map (λ (t : Vec ℕ). t.items) ts) all.items) same
    (subst (λ (xs : List Printed). ArePrinted names (map (λ (t : Vec ℕ). t.items) tuples) xs) (sym items) whole)
