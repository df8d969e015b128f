-- How the lists of rules by names grow, and that they miss no rule.
use Rattle.std.proofs.Common.{◌≡◌, ◌≢◌, ℕ, ◌+◌, ◌<◌, ◌≤◌, ◌⊎◌, inl, inr, refl, sym, ap, ◌∙◌, subst, Bool, nat_eq, List, [], ◌∷◌, ◌++◌, length, if◌then◌else◌, Contains, get_or, ⊎_elim, nat_cmp, eqb, arith}
use Rattle.std.specs.Global.{Vec}
use Rattle.std.specs.List.{dedup}
use Rattle.std.specs.List.Sorted.{IsPermutation, IsSorted, IsStrictlyIncreasing}
use Rattle.std.proofs.lemmas.List.Elements.{Contains-append_left, Contains-append_right, Contains-append_cases}
use Rattle.std.proofs.lemmas.List.Sorted.{Contains-permutation, IsPermutation-sym}
use Rattle.std.proofs.lemmas.List.Kept.{Contains-dedup_nat, Contains-from_dedup}
use Rattle.std.proofs.lemmas.Map.Keys.{IsStrictlyIncreasing-dedup}
use Rattle.std.proofs.lemmas.Bool.{cases_order}
use Rattle.std.proofs.lemmas.List.{get_or_read}
use Rattle.std.proofs.lemmas.Bool.Decides.{eqb_tells}
use Rattle.indexmap.specs.IndexMap.{IndexMap}
use Rattle.ucq_terms.specs.Syntax.{Atom, Rule, Query}
use Rattle.ucq_terms.specs.Unifier.{atom_at}
use Rattle.ucq_terms.specs.Rewriting.{rule_at}
use Rattle.ucq_terms.proofs.Lists.{Contains-first, Contains-cons_cases, Contains-empty}
use Rattle.ucq_pool.specs.inner.ByHead.{list_of, IsListed, AreListedBefore, AreListedBelow, AreRelevant}

-- either the one list grew or it stayed as it was
lists_after : (before after : List ℕ) (name other number : ℕ) → after ≡ (if nat_eq name other then before ++ number ∷ [] else before) →
    ((name ≡ other) × (after ≡ before ++ number ∷ [])) ⊎ ((name ≢ other) × (after ≡ before))
lists_after before after name other number e =
    ⊎_elim
    (λ same. inl (same.1, e ∙ ap (λ (b : Bool). if b then before ++ number ∷ [] else before) same.0))
    (λ differ. inr (differ.1, e ∙ ap (λ (b : Bool). if b then before ++ number ∷ [] else before) differ.0))
    (eqb_tells name other)

module _ {S : Type 0} where
  pub none_before : (heads : List Atom) (number : ℕ) (lists : IndexMap ℕ (Vec ℕ) S) → AreListedBefore heads 0 number lists lists
  none_before heads number lists = record { kept = λ name other i. i; new = λ name other i. inl i; listed = λ k l. absurd (omega arith) }

  listed_keeps : (before after : IndexMap ℕ (Vec ℕ) S) (name number : ℕ) → IsListed before name number after → (other n : ℕ) → Contains (list_of before other) n →
      Contains (list_of after other) n
  listed_keeps before after name number h other n i =
      ⊎_elim
      (λ same. subst (λ (xs : List ℕ). Contains xs n) (sym same.1) (Contains-append_left (list_of before other) (number ∷ []) n i))
      (λ differ. subst (λ (xs : List ℕ). Contains xs n) (sym differ.1) i)
      (lists_after (list_of before other) (list_of after other) name other number (h.lists other))

  listed_new : (before after : IndexMap ℕ (Vec ℕ) S) (name number : ℕ) → IsListed before name number after → (other n : ℕ) → Contains (list_of after other) n →
      Contains (list_of before other) n ⊎ (n ≡ number)
  listed_new before after name number h other n i =
      ⊎_elim
      (λ same.
      ⊎_elim (λ was. inl was) (λ new. ⊎_elim (λ e. inr (sym e)) (λ none. absurd (Contains-empty n none)) (Contains-cons_cases number [] n new))
      (Contains-append_cases (list_of before other) (number ∷ []) n (subst (λ (xs : List ℕ). Contains xs n) same.1 i)))
      (λ differ. inl (subst (λ (xs : List ℕ). Contains xs n) differ.1 i))
      (lists_after (list_of before other) (list_of after other) name other number (h.lists other))

  listed_here : (before after : IndexMap ℕ (Vec ℕ) S) (name number : ℕ) → IsListed before name number after → Contains (list_of after name) number
  listed_here before after name number h =
      ⊎_elim
      (λ same. subst (λ (xs : List ℕ). Contains xs number) (sym same.1) (Contains-append_right (list_of before name) (number ∷ []) number (Contains-first number [])))
      (λ differ. absurd (differ.0 refl))
      (lists_after (list_of before name) (list_of after name) name name number (h.lists name))

  -- one more atom of a head
  pub one_before : (heads : List Atom) (place number : ℕ) (before now after : IndexMap ℕ (Vec ℕ) S) → AreListedBefore heads place number before now →
      IsListed now (atom_at heads place).name number after → AreListedBefore heads (place + 1) number before after
  one_before heads place number before now after was h = record {
    kept = λ name other i. listed_keeps now after (atom_at heads place).name number h name other (was.kept name other i);
    new = λ name other i. ⊎_elim (λ here. was.new name other here) (λ e. inr e) (listed_new now after (atom_at heads place).name number h name other i);
    listed = λ k l. ⊎_elim
        (λ same. subst (λ (p : ℕ). Contains (list_of after (atom_at heads p).name) number) (sym same) (listed_here now after (atom_at heads place).name number h))
        (λ differ. ⊎_elim
        (λ below. listed_keeps now after (atom_at heads place).name number h (atom_at heads k).name number (was.listed k below))
        (λ above. absurd (omega arith))
        differ)
        (cases_order k place);
  }

  -- one more rule
  pub one_below : (rules : List Rule) (count : ℕ) (lists after : IndexMap ℕ (Vec ℕ) S) → AreListedBelow rules count lists →
      AreListedBefore (rule_at rules count).heads (length (rule_at rules count).heads) count lists after → AreListedBelow rules (count + 1) after
  one_below rules count lists after was h = record {
    within = λ name number i. ⊎_elim
        (λ old. let less : number < count = was.within name number old in omega arith)
        (λ e. let same : number ≡ count = e in omega arith)
        (h.new name number i);
    listed = λ number k l m. ⊎_elim
        (λ same. subst (λ (n : ℕ). k < length (rule_at rules n).heads → Contains (list_of after (atom_at (rule_at rules n).heads k).name) n) (sym same) (h.listed k) m)
        (λ differ. ⊎_elim
        (λ below. h.kept (atom_at (rule_at rules number).heads k).name number (was.listed number k below m))
        (λ above. absurd (omega arith))
        differ)
        (cases_order number count);
  }

-- the atom that is read at a place is the one at that place
pub atom_read : (atoms read : List Atom) (place : ℕ) (atom : Atom) → read ≡ atoms → place < length read → atom ≡ get_or read place atom → atom_at atoms place ≡ atom
atom_read atoms read place atom same within is =
    subst (λ (xs : List Atom). atom_at xs place ≡ atom) same (sym (get_or_read read place atom within is (record { name = 0; terms = [] })))

-- the same of a rule
pub rule_read : (rules : List Rule) (number : ℕ) (rule : Rule) → number < length rules → rule ≡ get_or rules number rule → rule_at rules number ≡ rule
rule_read rules number rule within is = sym (get_or_read rules number rule within is (record { heads = []; body = [] }))

-- the numbers listed for the names of the query's atoms before a place are found
pub record AreFoundBefore {S : Type 0} (lists : IndexMap ℕ (Vec ℕ) S) (q : Query) (place : ℕ) (found : List ℕ) : Type 0 where
  pub all : (k number : ℕ) → k < place → Contains (list_of lists (atom_at q.atoms k).name) number → Contains found number

-- one more atom of the query
pub found_one : {S : Type 0} (lists : IndexMap ℕ (Vec ℕ) S) (q : Query) (place : ℕ) (found after : List ℕ) → AreFoundBefore lists q place found →
    after ≡ found ++ list_of lists (atom_at q.atoms place).name → AreFoundBefore lists q (place + 1) after
found_one lists q place found after was is = record {
  all = λ k number l i. subst (λ (xs : List ℕ). Contains xs number) (sym is)
      (⊎_elim
      (λ same. Contains-append_right found (list_of lists (atom_at q.atoms place).name) number (subst (λ (p : ℕ). Contains (list_of lists (atom_at q.atoms p).name) number) same i))
      (λ differ. ⊎_elim
      (λ below. Contains-append_left found (list_of lists (atom_at q.atoms place).name) number (was.all k number below i))
      (λ above. absurd (omega arith))
      differ)
      (cases_order k place));
}

-- what is found stays within the rules
pub within_one : {S : Type 0} (rules : List Rule) (lists : IndexMap ℕ (Vec ℕ) S) (name : ℕ) (found after : List ℕ) → AreListedBelow rules (length rules) lists →
    ((number : ℕ) → Contains found number → number < length rules) → after ≡ found ++ list_of lists name → (number : ℕ) → Contains after number → number < length rules
within_one rules lists name found after listed was is number i =
    ⊎_elim (was number) (listed.within name number)
    (Contains-append_cases found (list_of lists name) number (subst (λ (xs : List ℕ). Contains xs number) is i))

-- The numbers found for all atoms of a query, sorted and each once, are those of its relevant rules.
pub are_relevant : {S : Type 0} (rules : List Rule) (q : Query) (lists : IndexMap ℕ (Vec ℕ) S) (place : ℕ) (found sorted once : List ℕ) →
    AreListedBelow rules (length rules) lists → IsPermutation found sorted → IsSorted nat_cmp sorted → once ≡ dedup eqb sorted →
    ((number : ℕ) → Contains found number → number < length rules) → length q.atoms ≤ place → AreFoundBefore lists q place found → AreRelevant rules q once
are_relevant rules q lists place found sorted once listed order rising is within end all = record {
  rising = subst IsStrictlyIncreasing (sym is) (IsStrictlyIncreasing-dedup sorted rising);
  within = λ number i.
      within number (Contains-permutation sorted found number (IsPermutation-sym found sorted order) (Contains-from_dedup eqb sorted number (subst (λ (xs : List ℕ). Contains xs number) is i)));
  all = λ number pair l keeps.
      let name : (atom_at (rule_at rules number).heads pair.1).name ≡ (atom_at q.atoms pair.0).name = sym keeps.name in
      let before : pair.0 < place = let here : pair.0 < length q.atoms = keeps.in_query in omega arith in
      subst (λ (xs : List ℕ). Contains xs number) (sym is)
      (Contains-dedup_nat sorted number
      (Contains-permutation found sorted number order
      (all.all pair.0 number before (subst (λ (n : ℕ). Contains (list_of lists n) number) name (listed.listed number pair.1 l keeps.in_head)))));
}
