-- What keeps an exact union: other numbers for variables, and an equivalent query.
use Rattle.std.proofs.Common.{◌≡◌, ℕ, ◌<◌, List, map, length, Contains, get_or, nat_eq, sym, ap, ◌∙◌, subst, inl, inr, arith}
use Rattle.std.specs.List.{position_or_len}
use Rattle.std.proofs.lemmas.List.{length-map, get_or-map}
use Rattle.std.proofs.lemmas.List.Elements.{Contains-get_or}
use Rattle.std.proofs.lemmas.List.Sums.{passes_at_first}
use Rattle.ucq_terms.specs.declared.Term.{Term}
use Rattle.ucq_terms.specs.declared.Term.TheVariants.{Variable}
use Rattle.ucq_terms.specs.Syntax.{Atom, Rule, Query, Problem, IsSubset, IsVariableOf, terms_image, atom_image, atoms_image}
use Rattle.ucq_terms.specs.Homomorphism.{IsHomomorphism, MapsInto, Covers, IsCore, IsIsomorphism}
use Rattle.ucq_terms.specs.Chase.{IsChaseAnswer}
use Rattle.ucq_terms.specs.Numbering.{query_order, numbered_query}
use Rattle.ucq_terms.specs.Union.{IsExact}
use Rattle.ucq_terms.proofs.Equality.{IsEquality-nat_eq, eq_same}
use Rattle.ucq_terms.proofs.Images.{composite, terms_image-same, terms_image-composite, terms_image-agree, atom_image-same, atom_image-composite, atom_image-agree, Contains-from_image, IsSubset-image, IsSubset-from_image}
use Rattle.ucq_terms.proofs.Lists.{Any-from_contains}
use Rattle.ucq_terms.proofs.Maps.{MapsInto-trans, Covers-trans}
use Rattle.ucq_terms.proofs.Normal.{numbering, Contains-query_order, IsIsomorphism-numbered}
use Rattle.ucq_terms.proofs.Numbering.{position_below, any_from_contains}
use Rattle.ucq_terms.proofs.Subsets.{IsSubset-contains, IsSubset-from_contains, IsSubset-refl, OccursIn-from_atom}
use Rattle.ucq_chase.specs.Laws.{NumberingKeepsExact, EquivalentKeepsExact}
use Rattle.ucq_chase.proofs.Replay.{sound_is_carried}

-- A homomorphism and one back, which undo each other on the atoms.
record AreInverse (h g : ℕ → Term) (a b : Query) : Type 0 where
  forth : IsHomomorphism h a b.atoms b.answers
  back : IsHomomorphism g b a.atoms a.answers
  home : (x : Atom) → Contains a.atoms x → atom_image g (atom_image h x) ≡ x
  there : (y : Atom) → Contains b.atoms y → atom_image h (atom_image g y) ≡ y

record AreRenamed (a b : Query) : Type 0 where
  to : ℕ → Term
  from : ℕ → Term
  inverse : AreInverse to from a b

renamed_back : (a b : Query) → AreRenamed a b → AreRenamed b a
renamed_back a b r = record {
  to = r.from;
  from = r.to;
  inverse = record { forth = r.inverse.back; back = r.inverse.forth; home = r.inverse.there; there = r.inverse.home };
}

covers_renamed : (a b : Query) → AreRenamed a b → Covers a b
covers_renamed a b r = record { mapping = r.to; homomorphism = r.inverse.forth }

-- so the one is a core where the other is
core_renamed : (a b : Query) → AreRenamed a b → IsCore a → IsCore b
core_renamed a b r core = record { no_proper_part = λ part within m. whole part within m }
  where
    whole : (part : List Atom) → IsSubset part b.atoms → MapsInto b part b.answers → IsSubset b.atoms part
    whole part within m =
        let of_part : Query = record { answers = b.answers; atoms = part } in
        let returned : IsSubset (atoms_image r.from part) a.atoms =
        IsSubset-from_image r.from part a.atoms (λ z i. IsSubset-image r.from b.atoms a.atoms r.inverse.back.atoms z (IsSubset-contains part b.atoms z within i)) in
        let onward : MapsInto of_part (atoms_image r.from part) a.answers = record {
          mapping = r.from;
          homomorphism = record { atoms = IsSubset-refl (atoms_image r.from part); answers = r.inverse.back.answers };
        } in
        let into : MapsInto a (atoms_image r.from part) a.answers =
        MapsInto-trans a of_part (atoms_image r.from part) a.answers (MapsInto-trans a b part b.answers (covers_renamed a b r) m) onward in
        let all : IsSubset a.atoms (atoms_image r.from part) = core.no_proper_part (atoms_image r.from part) returned into in
        IsSubset-from_contains b.atoms part (λ y i.
        let j = IsSubset-contains a.atoms (atoms_image r.from part) (atom_image r.from y) all (IsSubset-image r.from b.atoms a.atoms r.inverse.back.atoms y i) in
        let (z, k, e) = Contains-from_image r.from part (atom_image r.from y) j in
        let same : z ≡ y = sym (r.inverse.there z (IsSubset-contains part b.atoms z within k)) ∙ (ap (atom_image r.to) e ∙ r.inverse.there y i) in
        subst (λ (x : Atom). Contains part x) same k)

-- ---- a query and the one that is numbered

variable_at : List ℕ → ℕ → Term
variable_at order place = Variable (get_or order place 0)

back_to_variable : (order : List ℕ) (v : ℕ) → Contains order v → composite (variable_at order) (numbering order) v ≡ Variable v
unfolding variable_at
back_to_variable order v i =
    let place = position_or_len (nat_eq v) order in
    let below : place < length order = position_below nat_eq order v (any_from_contains nat_eq IsEquality-nat_eq order v i) in
    ap Variable (sym (eq_same nat_eq IsEquality-nat_eq v (get_or order place 0) (passes_at_first (nat_eq v) order 0 below)))

module _ (q : Query) where
  abbrev order : List ℕ
  order = query_order q

  abbrev number : ℕ → Term
  number = numbering order

  abbrev return : ℕ → Term
  return = variable_at order

  isomorphism : IsIsomorphism number q (numbered_query q)
  isomorphism = IsIsomorphism-numbered q

  variable_home : (v : ℕ) → IsVariableOf q v → composite return number v ≡ Variable v
  variable_home v i = back_to_variable order v (Contains-query_order q v i)

  atom_home : (x : Atom) → Contains q.atoms x → atom_image return (atom_image number x) ≡ x
  atom_home x i =
      atom_image-composite return number x ∙
      (atom_image-agree (composite return number) Variable x (λ v j. variable_home v (inl (OccursIn-from_atom q.atoms (Variable v) x i j))) ∙ atom_image-same x)

  -- each atom of the numbered query is the image of one
  source : (y : Atom) → Contains (numbered_query q).atoms y → (x : Atom) × Contains q.atoms x × (atom_image number x ≡ y)
  source y i = Contains-from_image number q.atoms y (IsSubset-contains (numbered_query q).atoms (atoms_image number q.atoms) y isomorphism.atoms.1 i)

  numbered_renames : AreRenamed q (numbered_query q)
  numbered_renames = record {
    to = number;
    from = return;
    inverse = record {
      forth = record { atoms = isomorphism.atoms.0; answers = isomorphism.answers };
      back = record {
        atoms = IsSubset-from_image return (numbered_query q).atoms q.atoms (λ y i.
            let (x, j, e) = source y i in
            subst (λ (z : Atom). Contains q.atoms z) (sym (atom_home x j) ∙ ap (atom_image return) e) j);
        answers =
            ap (terms_image return) (sym isomorphism.answers) ∙
            (terms_image-composite return number q.answers ∙
            (terms_image-agree (composite return number) Variable q.answers (λ v j. variable_home v (inr j)) ∙ terms_image-same q.answers));
      };
      home = atom_home;
      there = λ y i.
          let (x, j, e) = source y i in
          ap (atom_image number) (ap (atom_image return) (sym e) ∙ atom_home x j) ∙ e;
    };
  }

-- ---- unions

-- the lists have queries at the same places that are renamed
record AreAllRenamed (xs ys : List Query) : Type 0 where
  long : length xs ≡ length ys
  each : (i : ℕ) (d e : Query) → i < length xs → AreRenamed (get_or xs i d) (get_or ys i e)

module _ (problem : Problem) (xs ys : List Query) (all : AreAllRenamed xs ys) (exact : IsExact problem xs) where
  before : (i : ℕ) → i < length ys → i < length xs
  before i l = omega (arith, all.long)

  covers_forth : (i : ℕ) (d : Query) → i < length ys → Covers (get_or xs i d) (get_or ys i d)
  covers_forth i d l = covers_renamed (get_or xs i d) (get_or ys i d) (all.each i d d (before i l))

  covers_back : (i : ℕ) (d : Query) → i < length ys → Covers (get_or ys i d) (get_or xs i d)
  covers_back i d l = covers_renamed (get_or ys i d) (get_or xs i d) (renamed_back (get_or xs i d) (get_or ys i d) (all.each i d d (before i l)))

  kept_exact : IsExact problem ys
  kept_exact = record {
    sound = λ i d l. sound_is_carried problem (get_or xs i d) (get_or ys i d).atoms (get_or ys i d).answers (exact.sound i d (before i l)) (covers_forth i d l);
    complete = record {
      finds = λ facts tuple answer.
          let (i, x, l, e, m) = exact.complete.finds facts tuple answer in
          let l' : i < length ys = omega (arith, all.long) in
          let same : get_or xs i x ≡ x = e in
          let m' : MapsInto (get_or xs i x) facts tuple = subst (λ (q : Query). MapsInto q facts tuple) (sym same) m in
          Any-from_contains (λ q. MapsInto q facts tuple) ys (get_or ys i x) (Contains-get_or ys i x l')
          (MapsInto-trans (get_or ys i x) (get_or xs i x) facts tuple (covers_back i x l') m');
    };
    minimal = λ i j d lt l.
        let k : i < length ys = omega arith in
        let apart = exact.minimal i j d lt (before j l) in
        record {
          not_forth = λ c. apart.not_forth (around i j d k l c);
          not_back = λ c. apart.not_back (around j i d l k c);
        };
    cores = λ i d l. core_renamed (get_or xs i d) (get_or ys i d) (all.each i d d (before i l)) (exact.cores i d (before i l));
  }
    where
      around : (i j : ℕ) (d : Query) → i < length ys → j < length ys → Covers (get_or ys i d) (get_or ys j d) → Covers (get_or xs i d) (get_or xs j d)
      around i j d k l c =
          Covers-trans (get_or xs i d) (get_or ys i d) (get_or xs j d) (covers_forth i d k)
          (Covers-trans (get_or ys i d) (get_or ys j d) (get_or xs j d) c (covers_back j d l))

all_numbered : (xs : List Query) → AreAllRenamed xs (map numbered_query xs)
all_numbered xs = record {
  long = sym (length-map xs numbered_query);
  each = λ i d e l. subst (λ (y : Query). AreRenamed (get_or xs i d) y) (sym (get_or-map numbered_query xs i d e l)) (numbered_renames (get_or xs i d));
}

all_back : (xs ys : List Query) → AreAllRenamed xs ys → AreAllRenamed ys xs
all_back xs ys all = record {
  long = sym all.long;
  each = λ i d e l. renamed_back (get_or xs i e) (get_or ys i d) (all.each i e d (omega (arith, all.long)));
}

pub numbering_keeps_exact : NumberingKeepsExact
numbering_keeps_exact problem xs ys same exact =
    let numbered : IsExact problem (map numbered_query xs) = kept_exact problem xs (map numbered_query xs) (all_numbered xs) exact in
    kept_exact problem (map numbered_query ys) ys (all_back ys (map numbered_query ys) (all_numbered ys)) (subst (IsExact problem) same numbered)

-- ---- an equivalent query

answers_of_covering : (rules : List Rule) (p q : Query) (facts : List Atom) (tuple : List Term) → Covers q p →
    IsChaseAnswer (record { rules = rules; query = p }) facts tuple → IsChaseAnswer (record { rules = rules; query = q }) facts tuple
answers_of_covering rules p q facts tuple covers answer = record {
  known = answer.known;
  steps = answer.steps;
  last = answer.last;
  chase = answer.chase;
  maps = MapsInto-trans q p answer.last tuple covers answer.maps;
}

pub equivalent_keeps_exact : EquivalentKeepsExact
equivalent_keeps_exact rules p q union same exact = record {
  sound = λ i d l. answers_of_covering rules p q (get_or union i d).atoms (get_or union i d).answers same.back (exact.sound i d l);
  complete = record { finds = λ facts tuple answer. exact.complete.finds facts tuple (answers_of_covering rules q p facts tuple same.forth answer) };
  minimal = exact.minimal;
  cores = exact.cores;
}
