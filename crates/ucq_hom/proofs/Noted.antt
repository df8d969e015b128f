-- Levels of variables, and sets of them.
use Rattle.std.proofs.Common.{◌≡◌, ◌≢◌, ℕ, ◌+◌, ◌<◌, List, [], ◌∷◌, ◌++◌, length, take, drop, set, get_or, Option, Some, None, Contains, refl, sym, ap, ◌∙◌, subst, inl, inr, arith}
use Rattle.std.specs.Option.{IsSome}
use Rattle.std.specs.Int.Bits.{bit_or}
use Rattle.std.proofs.lemmas.Bool.{cases_eq}
use Rattle.std.proofs.lemmas.Nat.Bits.{bit_at_or, bit_at-lt}
use Rattle.std.proofs.lemmas.List.{take_more, take-append-drop, get_or-set_same, get_or-set_other}
use Rattle.std.proofs.lemmas.List.Elements.{Contains-push_cases, Contains-append_left, Contains-append_right, Contains-push}
use Rattle.std.proofs.Math.Decide.{ℕ_discrete}
use Rattle.std.proofs.Math.Seq.{drop-append_seam}
use Rattle.ucq_terms.specs.declared.Term.{Term}
use Rattle.ucq_terms.specs.declared.Term.TheVariants.{Variable}
use Rattle.ucq_terms.specs.declared.TheConstants.{VARIABLES}
use Rattle.ucq_terms.specs.Syntax.{terms_image}
use Rattle.ucq_terms.proofs.Decide.{dec_contains}
use Rattle.ucq_terms.proofs.Images.{terms_image-agree}
use Rattle.ucq_terms.proofs.Lists.{Contains-empty}
use Rattle.ucq_hom.specs.Space.{image}
use Rattle.ucq_hom.specs.Bindings.{Bound, Extends, Grown, IsKept, IsMatched}
use Rattle.ucq_hom.specs.Levels.{Counts, ExtendsAt, IsLevelSubset, HasLevelsOf, IsNoted, KeepsLevels, level_of}
use Rattle.ucq_hom.proofs.Trail.{Grown-kept, image_below, image_none, some_or_none}
use Rattle.ucq_hom.proofs.Matched.{IsSome-grown, the_value}

-- Sets of levels.
pub IsLevelSubset-refl : (a : ℕ) → IsLevelSubset a a
IsLevelSubset-refl a = record { each = λ l c. c }

pub IsLevelSubset-left : (a b : ℕ) → IsLevelSubset a (bit_or a b)
IsLevelSubset-left a b = record {
  each = λ l c. elim c [
    | inl e ↦ inl e
    | inr e ↦ inr (let o = bit_at_or a b l in let p = bit_at-lt b l in omega arith)
  ];
}

pub IsLevelSubset-right : (a b : ℕ) → IsLevelSubset b (bit_or a b)
IsLevelSubset-right a b = record {
  each = λ l c. elim c [
    | inl e ↦ inl e
    | inr e ↦ inr (let o = bit_at_or a b l in let p = bit_at-lt a l in omega arith)
  ];
}

-- one term more
pub HasLevelsOf-more : (b : Bound) (levels : List ℕ) (set next : ℕ) (terms : List Term) (i : ℕ) (d : Term) → i < length terms → HasLevelsOf b levels set (take i terms) →
    ((v : ℕ) → get_or terms i d ≡ Variable v → IsSome (image b.images v) → Counts next (level_of levels v)) → IsLevelSubset set next →
    HasLevelsOf b levels next (take (i + 1) terms)
HasLevelsOf-more b levels set next terms i d l h f w = record {
  each = λ v c s. elim (Contains-push_cases (take i terms) (get_or terms i d) (Variable v) (subst (λ (x : List Term). Contains x (Variable v)) (take_more terms i d l) c)) [
    | inl j ↦ w.each (level_of levels v) (h.each v j s)
    | inr e ↦ f v e s
  ];
}

-- Variables are given a level, one after another.
pub IsNoted-none : (old : List ℕ) (level : ℕ) → IsNoted old old [] level
IsNoted-none old level = record { noted = λ v i. absurd (Contains-empty v i); others = λ v n. refl }

pub IsNoted-more : (old new variables : List ℕ) (level i : ℕ) → i < length variables → get_or variables i 0 < length new → IsNoted old new (take i variables) level →
    IsNoted old (set new (get_or variables i 0) level) (take (i + 1) variables) level
IsNoted-more old new variables level i l m n =
    let w = get_or variables i 0 in
    let more = take_more variables i 0 l in
    record {
      noted = λ v c. elim (cases_eq v w) [
        | inl e ↦ subst (λ (x : ℕ). get_or (set new w level) x 0 ≡ level) (sym e) (get_or-set_same new w level 0 m)
        | inr ne ↦
            get_or-set_other new w v level 0 ne ∙
            elim (Contains-push_cases (take i variables) w v (subst (λ (x : List ℕ). Contains x v) more c)) [ inl j ↦ n.noted v j | inr e ↦ absurd (ne (sym e)) ]
      ];
      others =
          λ v c.
          let ne : v ≢ w = λ e. c (subst (λ (x : List ℕ). Contains x v) (sym more) (subst (λ (x : ℕ). Contains (take i variables ++ w ∷ []) x) (sym e) (Contains-push (take i variables) w))) in
          get_or-set_other new w v level 0 ne ∙
          n.others v (λ j. c (subst (λ (x : List ℕ). Contains x v) (sym more) (Contains-append_left (take i variables) (w ∷ []) v j)));
    }

-- the variables of a part of the trail are low
pub variables_below : (b : Bound) (mark v : ℕ) → IsKept b → Contains (drop mark b.trail) v → v < VARIABLES
variables_below b mark v k c =
    let i : Contains b.trail v = subst (λ (x : List ℕ). Contains x v) (take-append-drop mark b.trail) (Contains-append_right (take mark b.trail) (drop mark b.trail) v c) in
    let l : v < length b.images = image_below b.images v (k.bound v i) in
    let size : length b.images ≡ VARIABLES = k.room in
    omega arith

-- every map agrees at no level but those that it agrees with
pub ExtendsAt-all : (h : ℕ → Term) (b : Bound) (levels : List ℕ) (set : ℕ) → Extends h b → ExtendsAt h b levels set
ExtendsAt-all h b levels set e = record { agrees = λ v t i c. e.agrees v t i }

pub ExtendsAt-less : (h : ℕ → Term) (b : Bound) (levels : List ℕ) (set whole : ℕ) → IsLevelSubset set whole → ExtendsAt h b levels whole → ExtendsAt h b levels set
ExtendsAt-less h b levels set whole w e = record { agrees = λ v t i c. e.agrees v t i (w.each (level_of levels v) c) }

pub HasLevelsOf-within : (b : Bound) (levels : List ℕ) (set whole : ℕ) (terms : List Term) → IsLevelSubset set whole → HasLevelsOf b levels set terms → HasLevelsOf b levels whole terms
HasLevelsOf-within b levels set whole terms w h = record { each = λ v i s. w.each (level_of levels v) (h.each v i s) }

-- A map, but for the variables that are bound.
abbrev pub or_else : Term → Option Term → Term
or_else t None = t
or_else t (Some s) = s

abbrev pub patched : Bound → (ℕ → Term) → ℕ → Term
patched b h v = or_else (h v) (image b.images v)

pub Extends-patched : (b : Bound) (h : ℕ → Term) → Extends (patched b h) b
Extends-patched b h = record { agrees = λ v t e. ap (or_else (h v)) e }

pub patched-free : (b : Bound) (h : ℕ → Term) (v : ℕ) → image b.images v ≡ None → patched b h v ≡ h v
patched-free b h v e = ap (or_else (h v)) e

-- it is the map itself on terms whose bound variables have levels at which the map agrees
pub patched-same : (b : Bound) (h : ℕ → Term) (levels : List ℕ) (set : ℕ) (terms : List Term) → ExtendsAt h b levels set → HasLevelsOf b levels set terms → (v : ℕ) →
    Contains terms (Variable v) → patched b h v ≡ h v
patched-same b h levels set terms e l v i = elim (some_or_none (image b.images v)) [
  | inr n ↦ patched-free b h v n
  | inl s ↦ let (t, q) = the_value s in ap (or_else (h v)) q ∙ sym (e.agrees v t q (l.each v i s))
]

-- The bindings have grown by variables that are given a level of their own.
pub record IsDeeper (b c : Bound) (old new : List ℕ) (level : ℕ) : Type 0 where
  pub kept : KeepsLevels b old new
  pub fresh : (v : ℕ) → IsSome (image c.images v) → image b.images v ≡ None → level_of new v ≡ level

pub IsDeeper-noted : (b c : Bound) (first old new : List ℕ) (level : ℕ) → Grown b c → KeepsLevels b first old → IsNoted old new (drop (length b.trail) c.trail) level →
    IsDeeper b c first new level
IsDeeper-noted b c first old new level g k n =
    let same : drop (length b.trail) c.trail ≡ g.added = ap (drop (length b.trail)) g.trail ∙ drop-append_seam b.trail g.added in
    record {
      kept = record {
        each = λ v s.
            let off : ¬ Contains (drop (length b.trail) c.trail) v = λ i. image_none (g.fresh v (subst (λ (x : List ℕ). Contains x v) same i)) s in
            n.others v off ∙ k.each v s;
      };
      fresh = λ v s e. elim (dec_contains ℕ_discrete (drop (length b.trail) c.trail) v) [
        | yes i ↦ n.noted v i
        | no off ↦ absurd (image_none (g.others v (λ i. off (subst (λ (x : List ℕ). Contains x v) (sym same) i)) ∙ e) s)
      ];
    }

-- a map that carries the atom's terms agrees deeper too
pub ExtendsAt-matched : (b c : Bound) (old new : List ℕ) (level set deeper : ℕ) (terms targets : List Term) (h : ℕ → Term) → IsDeeper b c old new level →
    IsMatched b c terms targets → HasLevelsOf b old set terms → IsLevelSubset deeper set → ExtendsAt h b old set → terms_image h terms ≡ targets → ExtendsAt h c new deeper
ExtendsAt-matched b c old new level set deeper terms targets h d m l w e q =
    let p : Extends (patched b h) c = m.forced (patched b h) (Extends-patched b h) (terms_image-agree (patched b h) h terms (patched-same b h old set terms e l) ∙ q) in
    record {
      agrees = λ v t i k. elim (some_or_none (image b.images v)) [
        | inr n ↦ sym (patched-free b h v n) ∙ p.agrees v t i
        | inl s ↦
            let (u, r) = the_value s in
            let same : u ≡ t = let both : Some u ≡ Some t = sym (Grown-kept b c v u m.grown r) ∙ i in cc in
            e.agrees v u r (w.each (level_of old v) (subst (Counts deeper) (d.kept.each v s) k)) ∙ same
      ];
    }

-- and so does any map that agrees, where the deeper levels leave out the atom's own
pub ExtendsAt-jump : (b c : Bound) (old new : List ℕ) (level deeper : ℕ) (h : ℕ → Term) → IsDeeper b c old new level → Grown b c →
    ¬ Counts deeper level → ExtendsAt h b old deeper → ExtendsAt h c new deeper
ExtendsAt-jump b c old new level deeper h d g n e = record {
  agrees = λ v t i k. elim (some_or_none (image b.images v)) [
    | inr free ↦
        absurd (n (subst (Counts deeper) (d.fresh v (subst (λ (x : Option Term). IsSome x) (sym i) refl) free) k))
    | inl s ↦
        let (u, r) = the_value s in
        let same : u ≡ t = let both : Some u ≡ Some t = sym (Grown-kept b c v u g r) ∙ i in cc in
        e.agrees v u r (subst (Counts deeper) (d.kept.each v s) k) ∙ same
  ];
}

-- levels that are kept deeper are kept
pub KeepsLevels-deeper : (b c : Bound) (old new last : List ℕ) (level : ℕ) → IsDeeper b c old new level → Grown b c → KeepsLevels c new last → KeepsLevels b old last
KeepsLevels-deeper b c old new last level d g k = record { each = λ v s. k.each v (IsSome-grown b c v g s) ∙ d.kept.each v s }
