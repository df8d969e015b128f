-- The conflicts are the images of live rows of which no other one is a part.
use Rattle.std.proofs.Common.{◌≡◌, ℕ, nat_eq, ◌<◌, ◌≤◌, Bool, true, false, List, [], ◌∷◌, length, filter, Contains, All, slice_get, Option, Some, None, refl, sym, ap, ◌∙◌, subst, inl, inr, arith, zero, suc}
use Rattle.std.specs.Prelude.{◌⊎◌, ◌↔◌, Any}
use Rattle.std.specs.List.{list_any, cons_option}
use Rattle.std.specs.Option.{option_map_or}
use Rattle.std.specs.Ordering.{nat_cmp}
use Rattle.std.specs.declared.cmp.Ordering.TheVariants.{Less}
use Rattle.std.proofs.lemmas.Cmp.{nat_cmp_total}
use Rattle.std.proofs.lemmas.List.Elements.{All-contains, All-cons, All-head, All-tail}
use Rattle.std.proofs.lemmas.List.Kept.{IsStrictlySortedBy-filter}
use Rattle.std.proofs.lemmas.Map.Keys.{sorted_tail}
use Rattle.std.proofs.lemmas.Option.{slice_get_within}
use Rattle.ucq_terms.specs.declared.Term.{Term}
use Rattle.ucq_terms.specs.Syntax.{Atom, HasEachOnce, atom_image, atoms_image}
use Rattle.ucq_terms.specs.Numbering.{atom_eq}
use Rattle.ucq_terms.proofs.Equality.{IsEquality-atom_eq, IsEquality-nat_eq}
use Rattle.ucq_terms.proofs.Numbering.{Contains-from_any, any_from_contains}
use Rattle.ucq_terms.proofs.Images.{Contains-image, Contains-from_image, IsSubset-from_image, IsSubset-image}
use Rattle.ucq_terms.proofs.Lists.{All-from_contains, Any-contains, Any-from_contains, Contains-first, Contains-rest, Contains-cons_cases, Contains-empty, Contains-filter, Contains-from_filter}
use Rattle.ucq_chase.specs.Laws.{SoundIsCarried}
use Rattle.ucq_store.specs.Store.{Store, query_of, IsFinished}
use Rattle.ucq_store.specs.Lawful.{IsLawful}
use Rattle.ucq_store.specs.Laws.{FinishedIsExact}
use Rattle.ucq_store.proofs.Live.{live_is_row}
use Rattle.ucq_bans.specs.Conflicts.{Violates, IsRising, IsFactSet, IsConflict, AreConflicts, facts_at}
use Rattle.ucq_bans.specs.inner.Images.{MapsAtoms, IsImageOf, IsLiveImage, AreImages}
use Rattle.ucq_bans.specs.inner.Parts.{AreMinimal, AreSortedFrom, IsSubsequence, SomePart}
use Rattle.ucq_bans.proofs.Sorted.{irreflexive, below, one_sorted_list}
use Rattle.ucq_bans.proofs.Targets.{Contains-at, at_place, one_place}
use Rattle.ucq_bans.proofs.Violated.{mapped_violates, violated_is_mapped, row_maps, atoms_map}

-- ---- subsequences of rising lists

pub shorter : (xs ys : List ℕ) → IsSubsequence xs ys → length xs ≤ length ys
shorter [] ys h = omega arith
shorter (x ∷ xs) [] h = absurd h
shorter (x ∷ xs) (y ∷ ys) (inl (e, h)) = let l = shorter xs ys h in omega (arith, l)
shorter (x ∷ xs) (y ∷ ys) (inr h) = let l = shorter (x ∷ xs) ys h in omega (arith, l)

pub among_of : (xs ys : List ℕ) → IsSubsequence xs ys → (x : ℕ) → Contains xs x → Contains ys x
among_of [] ys h x i = absurd (Contains-empty x i)
among_of (w ∷ xs) [] h x i = absurd h
among_of (w ∷ xs) (y ∷ ys) (inl (e, h)) x i = elim (Contains-cons_cases w xs x i) [
  | inl here ↦ subst (λ (z : ℕ). Contains (y ∷ ys) z) (sym e ∙ here) (Contains-first y ys)
  | inr j ↦ Contains-rest y ys x (among_of xs ys h x j)
]
among_of (w ∷ xs) (y ∷ ys) (inr h) x i = Contains-rest y ys x (among_of (w ∷ xs) ys h x i)

-- a rising list of some elements of another is a subsequence of it
pub subsequence_of : (xs ys : List ℕ) → IsRising xs → IsRising ys → ((x : ℕ) → Contains xs x → Contains ys x) → IsSubsequence xs ys
subsequence_of [] ys r s f = tt
subsequence_of (x ∷ xs) [] r s f = Contains-empty x (f x (Contains-first x xs))
subsequence_of (x ∷ xs) (y ∷ ys) r s f = elim (Contains-cons_cases y ys x (f x (Contains-first x xs))) [
  | inl e ↦ inl (
    sym e,
    subsequence_of xs ys (sorted_tail nat_cmp x xs r) (sorted_tail nat_cmp y ys s) (λ z i.
        elim (Contains-cons_cases y ys z (f z (Contains-rest x xs z i))) [
          | inl here ↦ absurd (irreflexive nat_cmp_total x (subst (λ (w : ℕ). nat_cmp x w ≡ Less) (sym here ∙ e) (below nat_cmp x xs r z i)))
          | inr j ↦ j
        ]),
  )
  | inr later ↦ inr (subsequence_of (x ∷ xs) ys r (sorted_tail nat_cmp y ys s) (λ z i.
      elim (Contains-cons_cases y ys z (f z i)) [
        | inl here ↦ absurd (elim (Contains-cons_cases x xs z i) [
          | inl first ↦ irreflexive nat_cmp_total y (subst (λ (w : ℕ). nat_cmp y w ≡ Less) (first ∙ sym here) (below nat_cmp y ys s x later))
          | inr j ↦ irreflexive nat_cmp_total y (nat_cmp_total.trans y x y (below nat_cmp y ys s x later) (subst (λ (w : ℕ). nat_cmp x w ≡ Less) (sym here) (below nat_cmp x xs r z j)))
        ])
        | inr j ↦ j
      ]))
]

-- a rising list of some elements of another, and not of all, is shorter
pub fewer : (xs ys : List ℕ) → IsRising xs → IsRising ys → ((x : ℕ) → Contains xs x → Contains ys x) → ¬ All (Contains xs) ys → length xs < length ys
fewer xs ys r s f proper = go xs ys (subsequence_of xs ys r s f) (λ g. proper (All-from_contains (Contains xs) ys g))
  where
    go : (xs ys : List ℕ) → IsSubsequence xs ys → (((x : ℕ) → Contains ys x → Contains xs x) → ⊥) → length xs < length ys
    go [] [] h never = absurd (never (λ x i. i))
    go [] (y ∷ ys) h never = omega arith
    go (x ∷ xs) [] h never = absurd h
    go (x ∷ xs) (y ∷ ys) (inl (e, h)) never =
        let l = go xs ys h (λ g. never (λ z i. elim (Contains-cons_cases y ys z i) [
          | inl here ↦ subst (λ (w : ℕ). Contains (x ∷ xs) w) (e ∙ here) (Contains-first x xs)
          | inr j ↦ Contains-rest x xs z (g z j)
        ])) in
        omega (arith, l)
    go (x ∷ xs) (y ∷ ys) (inr h) never = let l = shorter (x ∷ xs) ys h in omega (arith, l)

-- ---- facts at places

pub Contains-facts_at : (facts : List Atom) (places : List ℕ) (place : ℕ) (a : Atom) → Contains places place → slice_get facts place ≡ Some a → Contains (facts_at facts places) a
Contains-facts_at facts [] place a i e = absurd (Contains-empty place i)
Contains-facts_at facts (p ∷ places) place a i e = elim (Contains-cons_cases p places place i) [
  | inl here ↦
      let at : slice_get facts p ≡ Some a = ap (slice_get facts) here ∙ e in
      subst (λ (o : Option Atom). Contains (cons_option o (facts_at facts places)) a) (sym at) (Contains-first a (facts_at facts places))
  | inr j ↦ go (slice_get facts p) (Contains-facts_at facts places place a j e)
]
  where
    go : (o : Option Atom) → Contains (facts_at facts places) a → Contains (cons_option o (facts_at facts places)) a
    go None i = i
    go (Some x) i = Contains-rest x (facts_at facts places) a i

-- the fact stands at one of the places
pub record IsFactAt (facts : List Atom) (places : List ℕ) (a : Atom) : Type 0 where
  pub place : ℕ
  pub among : Contains places place
  pub fact : slice_get facts place ≡ Some a

pub Contains-from_facts_at : (facts : List Atom) (places : List ℕ) (a : Atom) → Contains (facts_at facts places) a → IsFactAt facts places a
Contains-from_facts_at facts [] a i = absurd (Contains-empty a i)
Contains-from_facts_at facts (p ∷ places) a i = go (slice_get facts p) refl i (Contains-from_facts_at facts places a)
  where
    later : IsFactAt facts places a → IsFactAt facts (p ∷ places) a
    later f = record { place = f.place; among = Contains-rest p places f.place f.among; fact = f.fact }

    go : (o : Option Atom) → slice_get facts p ≡ o → Contains (cons_option o (facts_at facts places)) a → (Contains (facts_at facts places) a → IsFactAt facts places a) →
        IsFactAt facts (p ∷ places) a
    go None e i rest = later (rest i)
    go (Some x) e i rest = elim (Contains-cons_cases x (facts_at facts places) a i) [
      | inl here ↦ record { place = p; among = Contains-first p places; fact = e ∙ ap Some here }
      | inr j ↦ later (rest j)
    ]

-- ---- images

-- whether the fact is the image of one of the atoms
abbrev pub is_image : (ℕ → Term) → List Atom → Option Atom → Bool
is_image h atoms fact = option_map_or (λ (a : Atom). list_any (atom_eq a) (atoms_image h atoms)) fact false

image_from_test : (h : ℕ → Term) (atoms : List Atom) (o : Option Atom) → is_image h atoms o ≡ true → (a : Atom) × Contains atoms a × (o ≡ Some (atom_image h a))
image_from_test h atoms None e = absurd cc
image_from_test h atoms (Some x) e =
    let (a, i, f) = Contains-from_image h atoms x (Contains-from_any atom_eq IsEquality-atom_eq (atoms_image h atoms) x e) in
    (a, i, ap Some (sym f))

test_from_image : (h : ℕ → Term) (atoms : List Atom) (o : Option Atom) (a : Atom) → Contains atoms a → o ≡ Some (atom_image h a) → is_image h atoms o ≡ true
test_from_image h atoms o a i e =
    ap (is_image h atoms) e ∙ any_from_contains atom_eq IsEquality-atom_eq (atoms_image h atoms) (atom_image h a) (Contains-image h atoms a i)

-- atoms that map into some of the facts have an image among these
pub record HasImageWithin (atoms facts : List Atom) (places : List ℕ) : Type 0 where
  pub set : List ℕ
  pub image : IsImageOf atoms facts set
  pub within : (place : ℕ) → Contains set place → Contains places place

pub image_within : (atoms facts : List Atom) (places : List ℕ) → HasEachOnce facts → IsRising places → MapsAtoms atoms (facts_at facts places) → HasImageWithin atoms facts places
image_within atoms facts places once rising m = record { set = filter test places; image = of; within = λ place i. (Contains-from_filter test places place i).0 }
  where
    h : ℕ → Term
    h = m.mapping

    test : ℕ → Bool
    test place = is_image h atoms (slice_get facts place)

    fact_of : (a : Atom) → Contains atoms a → IsFactAt facts places (atom_image h a)
    fact_of a i = Contains-from_facts_at facts places (atom_image h a) (IsSubset-image h atoms (facts_at facts places) m.sent a i)

    of : IsImageOf atoms facts (filter test places)
    of = record {
      mapping = h;
      sent = IsSubset-from_image h atoms facts (λ a i. let f = fact_of a i in Contains-at facts f.place (atom_image h a) f.fact);
      rising = IsStrictlySortedBy-filter nat_cmp test places rising;
      each = λ place. (
        λ i.
            let (a, j, e) = image_from_test h atoms (slice_get facts place) (Contains-from_filter test places place i).1 in
            record { atom = a; among = j; fact = e },
        λ at.
            let f = fact_of at.atom at.among in
            let here : f.place ≡ place = one_place facts f.place place (atom_image h at.atom) once f.fact at.fact in
            Contains-filter test places place (subst (λ (p : ℕ). Contains places p) here f.among) (test_from_image h atoms (slice_get facts place) at.atom at.among at.fact),
      );
    }

-- atoms map into each set that holds an image of theirs
pub maps_over : (atoms facts : List Atom) (set places : List ℕ) → IsImageOf atoms facts set → ((place : ℕ) → Contains set place → Contains places place) →
    MapsAtoms atoms (facts_at facts places)
maps_over atoms facts set places image f = record {
  mapping = image.mapping;
  sent = IsSubset-from_image image.mapping atoms (facts_at facts places) (λ a i.
      let (place, at) = at_place facts (atom_image image.mapping a) (IsSubset-image image.mapping atoms facts image.sent a i) in
      let here : Contains set place = (image.each place).1 (record { atom = a; among = i; fact = at }) in
      Contains-facts_at facts places place (atom_image image.mapping a) (f place here) at);
}

-- ---- conflicts

held_or_not : (xs : List ℕ) (x : ℕ) → Contains xs x ⊎ ¬ Contains xs x
held_or_not xs x = go (list_any (nat_eq x) xs) refl
  where
    go : (b : Bool) → list_any (nat_eq x) xs ≡ b → Contains xs x ⊎ ¬ Contains xs x
    go true e = inl (Contains-from_any nat_eq IsEquality-nat_eq xs x e)
    go false e = inr (λ i. let yes = any_from_contains nat_eq IsEquality-nat_eq xs x i in cc)

all_or_not : (places xs : List ℕ) → All (Contains places) xs ⊎ ¬ All (Contains places) xs
all_or_not places [] = inl (All-from_contains (Contains places) [] (λ x i. absurd (Contains-empty x i)))
all_or_not places (x ∷ xs) = elim (held_or_not places x) [
  | inl here ↦ elim (all_or_not places xs) [
    | inl rest ↦ inl (All-cons (Contains places) x xs here rest)
    | inr lacks ↦ inr (λ all. lacks (All-tail (Contains places) x xs all))
  ]
  | inr lacks ↦ inr (λ all. lacks (All-head (Contains places) x xs all))
]

module _ (carried : SoundIsCarried) (exact : FinishedIsExact) (s : Store) (facts : List Atom) (lawful : IsLawful s) (finished : IsFinished s)
    (boolean : s.problem.query.answers ≡ []) (once : HasEachOnce facts) where
  -- each set that holds an image of a live row violates
  image_violates : (set places : List ℕ) → IsLiveImage s (length s.rows) facts set → ((place : ℕ) → Contains set place → Contains places place) →
      Violates s.problem (facts_at facts places)
  image_violates set places image f =
      let here = live_is_row s.rows image.row image.live in
      mapped_violates carried s (facts_at facts places) image.row lawful boolean here
      (row_maps s lawful boolean image.row (facts_at facts places) here (maps_over (query_of s image.row).atoms facts set places image.image f))

  -- and each that violates holds one
  record HasLiveImage (places : List ℕ) : Type 0 where
    set : List ℕ
    image : IsLiveImage s (length s.rows) facts set
    within : (place : ℕ) → Contains set place → Contains places place

  violating_has_image : (places : List ℕ) → IsRising places → Violates s.problem (facts_at facts places) → HasLiveImage places
  violating_has_image places rising v =
      let m = violated_is_mapped exact s (facts_at facts places) lawful finished v in
      let i = image_within (query_of s m.row).atoms facts places once rising (atoms_map s m.row (facts_at facts places) m.maps) in
      record {
        set = i.set;
        image = record { row = m.row; before = live_is_row s.rows m.row m.live; live = m.live; image = i.image };
        within = i.within;
      }

  set_of_image : (set : List ℕ) → IsLiveImage s (length s.rows) facts set → IsFactSet facts set
  set_of_image set image = record {
    rising = image.image.rising;
    within = All-from_contains (λ (place : ℕ). place < length facts) set (λ place i. let at = (image.image.each place).0 i in slice_get_within facts place _ at.fact);
  }

  conflict_is_image : (set : List ℕ) → IsConflict s.problem facts set → IsLiveImage s (length s.rows) facts set
  conflict_is_image set c =
      let i = violating_has_image set c.set.rising c.violates in
      let back : (place : ℕ) → Contains set place → Contains i.set place = λ place j. elim (held_or_not i.set place) [
        | inl k ↦ k
        | inr lacks ↦ absurd (c.minimal i.set (set_of_image i.set i.image)
            (record { among = All-from_contains (Contains set) i.set i.within; proper = λ all. lacks (All-contains (Contains i.set) set place all j) })
            (image_violates i.set i.set i.image (λ p k. k)))
      ] in
      let same : i.set ≡ set = one_sorted_list nat_cmp_total i.set set i.image.image.rising c.set.rising i.within back in
      subst (λ (xs : List ℕ). IsLiveImage s (length s.rows) facts xs) same i.image

  module _ (sets : List (List ℕ)) (images : AreImages s facts sets) where
    minimal_is_conflict : (set : List ℕ) → IsLiveImage s (length s.rows) facts set → ¬ SomePart 0 set (length set) sets → IsConflict s.problem facts set
    minimal_is_conflict set image none = record {
      set = set_of_image set image;
      violates = image_violates set set image (λ place i. i);
      minimal = λ part of proper v.
          let i = violating_has_image part of.rising v in
          let inside : (place : ℕ) → Contains i.set place → Contains set place = λ place j. All-contains (Contains set) part place proper.among (i.within place j) in
          let short : length i.set ≤ length part = shorter i.set part (subsequence_of i.set part i.image.image.rising of.rising i.within) in
          let less : length part < length set = fewer part set of.rising image.image.rising (λ place j. All-contains (Contains set) part place proper.among j) proper.proper in
          none (record {
            part = i.set;
            among = (images.each i.set).1 i.image;
            smaller = omega (arith, short, less);
            left = subsequence_of i.set set i.image.image.rising image.image.rising inside;
          });
    }

    conflict_is_minimal : (set : List ℕ) → IsConflict s.problem facts set → ¬ SomePart 0 set (length set) sets
    conflict_is_minimal set c p =
        let image = (images.each p.part).0 p.among in
        c.minimal p.part (set_of_image p.part image)
        (record {
          among = All-from_contains (Contains set) p.part (among_of p.part set p.left);
          proper = λ all.
              let l = shorter set p.part (subsequence_of set p.part c.set.rising image.image.rising (λ place i. All-contains (Contains p.part) set place all i)) in
              let m = p.smaller in
              omega (arith, l, m);
        })
        (image_violates p.part p.part image (λ place i. i))

    -- the images of which no other one is a part, in order, are the conflicts
    pub minimal_are_conflicts : (sorted minimal : List (List ℕ)) → AreSortedFrom sets sorted → AreMinimal sorted minimal → AreConflicts s.problem facts minimal
    minimal_are_conflicts sorted minimal from m = record {
      each = λ set. (
        λ i.
            let (j, none) = (m.each set).0 i in
            minimal_is_conflict set ((images.each set).0 ((from.each set).0 j))
            (λ p. none (record { part = p.part; among = (from.each p.part).1 p.among; smaller = p.smaller; left = p.left })),
        λ c. (m.each set).1 (
          (from.each set).1 ((images.each set).1 (conflict_is_image set c)),
          λ p. conflict_is_minimal set c (record { part = p.part; among = (from.each p.part).0 p.among; smaller = p.smaller; left = p.left }),
        ),
      );
      order = m.sorted;
    }

    -- and each is rising
    pub sorted_are_rising : (sorted : List (List ℕ)) → AreSortedFrom sets sorted → All IsRising sorted
    sorted_are_rising sorted from = All-from_contains IsRising sorted (λ set i. ((images.each set).0 ((from.each set).0 i)).image.rising)

-- ---- what conflicts tell of violation

module _ (carried : SoundIsCarried) (exact : FinishedIsExact) (s : Store) (facts : List Atom) (lawful : IsLawful s) (finished : IsFinished s)
    (boolean : s.problem.query.answers ≡ []) (once : HasEachOnce facts) (conflicts : List (List ℕ)) (are : AreConflicts s.problem facts conflicts) where
  -- where no conflict stands in a set, no image does
  no_image : (places : List ℕ) → ((conflict : List ℕ) → Contains conflicts conflict → All (Contains places) conflict → ⊥) → (n : ℕ) (set : List ℕ) → length set ≤ n →
      IsLiveImage s (length s.rows) facts set → All (Contains places) set → ⊥
  no_image places none zero set short image inside = none set ((are.each set).1 (record {
    set = set_of_image carried exact s facts lawful finished boolean once set image;
    violates = image_violates carried exact s facts lawful finished boolean once set set image (λ place i. i);
    minimal = λ part of proper v. let l = fewer part set of.rising image.image.rising (λ place j. All-contains (Contains set) part place proper.among j) proper.proper in omega (arith, l, short);
  })) inside
  no_image places none (suc n) set short image inside = none set ((are.each set).1 (record {
    set = set_of_image carried exact s facts lawful finished boolean once set image;
    violates = image_violates carried exact s facts lawful finished boolean once set set image (λ place i. i);
    minimal = λ part of proper v.
        let i = violating_has_image carried exact s facts lawful finished boolean once part of.rising v in
        let short_image : length i.set ≤ length part = shorter i.set part (subsequence_of i.set part i.image.image.rising of.rising i.within) in
        let less : length part < length set = fewer part set of.rising image.image.rising (λ place j. All-contains (Contains set) part place proper.among j) proper.proper in
        no_image places none n i.set (omega (arith, short, short_image, less)) i.image
        (All-from_contains (Contains places) i.set (λ place j. All-contains (Contains places) set place inside (All-contains (Contains set) part place proper.among (i.within place j))));
  })) inside

  -- whether a set holds a conflict is told by their list
  holds_or_not : (places : List ℕ) (list : List (List ℕ)) → ((conflict : List ℕ) × Contains list conflict × All (Contains places) conflict) ⊎ ((conflict : List ℕ) → Contains list conflict → All (Contains places) conflict → ⊥)
  holds_or_not places [] = inr (λ conflict i a. Contains-empty conflict i)
  holds_or_not places (x ∷ xs) = elim (all_or_not places x) [
    | inl a ↦ inl (x, Contains-first x xs, a)
    | inr lacks ↦ elim (holds_or_not places xs) [
      | inl h ↦ inl (h.0, Contains-rest x xs h.0 h.1, h.2)
      | inr none ↦ inr (λ conflict i a. elim (Contains-cons_cases x xs conflict i) [
        | inl e ↦ lacks (subst (λ (ys : List ℕ). All (Contains places) ys) (sym e) a)
        | inr j ↦ none conflict j a
      ])
    ]
  ]

  pub violates_where_held : (places : List ℕ) → IsFactSet facts places → Violates s.problem (facts_at facts places) ↔ Any (λ conflict. All (Contains places) conflict) conflicts
  violates_where_held places of = (
    λ v. elim (holds_or_not places conflicts) [
      | inl h ↦ Any-from_contains (λ (conflict : List ℕ). All (Contains places) conflict) conflicts h.0 h.1 h.2
      | inr none ↦
          let i = violating_has_image carried exact s facts lawful finished boolean once places of.rising v in
          absurd (no_image places none (length i.set) i.set (omega arith) i.image (All-from_contains (Contains places) i.set i.within))
    ],
    λ some.
        let (conflict, i, inside) = Any-contains (λ (conflict : List ℕ). All (Contains places) conflict) conflicts some in
        image_violates carried exact s facts lawful finished boolean once conflict places
        (conflict_is_image carried exact s facts lawful finished boolean once conflict ((are.each conflict).0 i)) (λ place j. All-contains (Contains places) conflict place inside j),
  )
