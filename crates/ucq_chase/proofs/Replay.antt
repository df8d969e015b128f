-- A chase of some facts can be replayed from any facts into which they map, so answers are carried along.
use Rattle.std.proofs.Common.{◌≡◌, ℕ, inl, inr, refl, sym, ap, ◌∙◌, List, [], ◌∷◌, ◌++◌, Contains, subst, cond, eqb}
use Rattle.std.proofs.lemmas.Bool.{cases_eq, cond-true, cond-false, eq-eqb, ne_eqb}
use Rattle.std.proofs.lemmas.List.Elements.{All-contains, Contains-append_left, Contains-append_right, Contains-append_cases}
use Rattle.ucq_terms.specs.declared.Term.{Term}
use Rattle.ucq_terms.specs.declared.Term.TheVariants.{Constant, Variable}
use Rattle.ucq_terms.specs.Syntax.{Atom, Rule, Problem, OccursIn, IsSubset, term_image, terms_image, atom_image, atoms_image}
use Rattle.ucq_terms.specs.Homomorphism.{IsHomomorphism}
use Rattle.ucq_terms.specs.Chase.{IsChaseStep, IsChaseSequence, IsKnownIn, IsChaseAnswer}
use Rattle.ucq_chase.specs.Laws.{SoundIsCarried, CoreOfSoundIsSound}
use Rattle.ucq_terms.proofs.Decide.{dec_occurs}
use Rattle.ucq_terms.proofs.Images.{composite, terms_image-composite, atom_image-composite, term_image-agree, terms_image-agree}
use Rattle.ucq_terms.proofs.Images.{atom_image-agree, Contains-image, Contains-from_image, IsSubset-from_image, IsSubset-image, IsSubset-composite}
use Rattle.ucq_terms.proofs.Lists.{Contains-first, Contains-rest, Contains-cons_cases, Contains-empty, Contains-from_map, All-from_contains}
use Rattle.ucq_terms.proofs.Subsets.{IsSubset-contains, OccursIn-from_atom, OccursIn-subset}
use Rattle.ucq_chase.proofs.Firing.{fire}
use Rattle.ucq_chase.proofs.Steps.{step_grows, OccursIn-known, OccursIn-trigger, IsKnownIn-image}
use Rattle.ucq_terms.proofs.Occurrences.{existentials, Contains-existentials, Contains-from_existentials}

-- The map is given anew where some variables are placed.
pub record Extends (vs : List ℕ) (placed target old new : ℕ → Term) : Type 0 where
  pub on : (v u : ℕ) → Contains vs v → placed v ≡ Variable u → new u ≡ target v
  pub off : (u : ℕ) → ((v : ℕ) → Contains vs v → placed v ≡ Variable u → ⊥) → new u ≡ old u

-- a map can be given anew where the placed variables differ
pub extend : (vs : List ℕ) (placed target old : ℕ → Term) → ((v w : ℕ) → Contains vs v → Contains vs w → placed v ≡ placed w → v ≡ w) →
    (new : ℕ → Term) × Extends vs placed target old new
extend [] placed target old one = (old, record { on = λ v u i p. absurd (Contains-empty v i); off = λ u f. refl })
extend (v ∷ vs) placed target old one =
    let (rest, e) = extend vs placed target old (λ a b i j. one a b (Contains-rest v vs a i) (Contains-rest v vs b j)) in
    go rest e (placed v) refl
  where
    go : (rest : ℕ → Term) → Extends vs placed target old rest → (t : Term) → placed v ≡ t → (new : ℕ → Term) × Extends (v ∷ vs) placed target old new
    go rest e (Constant c) p = (
      rest,
      record {
        on = λ w u i q. elim (Contains-cons_cases v vs w i) [
          | inl d ↦ let bad : Constant c ≡ Variable u = sym p ∙ ap placed d ∙ q in cc
          | inr j ↦ e.on w u j q
        ];
        off = λ u f. e.off u (λ w j q. f w (Contains-rest v vs w j) q);
      },
    )
    go rest e (Variable x) p = (
      λ u. cond (eqb u x) (target v) (rest u),
      record {
        on = λ w u i q. elim (Contains-cons_cases v vs w i) [
          | inl d ↦ let same : Variable x ≡ Variable u = sym p ∙ ap placed d ∙ q in
              let ux : u ≡ x = cc in
              cond-true (eqb u x) (target v) (rest u) (eq-eqb u x ux) ∙ ap target d
          | inr j ↦ elim (cases_eq u x) [
            | inl ux ↦ let pw : placed v ≡ placed w = cc in
                cond-true (eqb u x) (target v) (rest u) (eq-eqb u x ux) ∙ ap target (one v w (Contains-first v vs) i pw)
            | inr ne ↦ cond-false (eqb u x) (target v) (rest u) (ne_eqb u x ne) ∙ e.on w u j q
          ]
        ];
        off =
            λ u f. cond-false (eqb u x) (target v) (rest u) (ne_eqb u x (λ ux. f v (Contains-first v vs) (p ∙ ap Variable (sym ux)))) ∙
            e.off u (λ w j q. f w (Contains-rest v vs w j) q);
      },
    )

-- The map carries the one instance into the other, and is as the old map on what the first facts have.
pub record Carries (first : List Atom) (old new : ℕ → Term) (from to : List Atom) : Type 0 where
  pub into : IsSubset (atoms_image new from) to
  pub agrees : (v : ℕ) → OccursIn first (Variable v) → new v ≡ old v

-- what a chase step adds goes where the other step has it
pub replay_head : (rule : Rule) (before next : List Atom) (s : IsChaseStep rule before next) (other old new : ℕ → Term) →
    Extends (existentials rule) s.placed other old new → ((v : ℕ) → OccursIn before (Variable v) → new v ≡ old v) →
    ((v : ℕ) → OccursIn rule.body (Variable v) → other v ≡ term_image old (s.trigger v)) → (v : ℕ) → OccursIn rule.heads (Variable v) →
    term_image new (s.placed v) ≡ other v
replay_head rule before next s other old new e agrees moved v o =
    elim (dec_occurs rule.body (Variable v)) [
      | yes b ↦ ap (term_image new) (s.frontier v (o, b)) ∙
          term_image-agree new old (s.trigger v) (λ u p. agrees u (OccursIn-trigger rule.body before s.trigger v u s.applies b p)) ∙ sym (moved v b)
      | no n ↦
          let (u, p, out) = s.fresh v (o, n) in
          ap (term_image new) p ∙ e.on v u (Contains-existentials rule v (o, n)) p
    ]

-- a step can be made again from facts into which the instance maps
pub replay_step : (rule : Rule) (before next facts : List Atom) (old : ℕ → Term) → IsChaseStep rule before next →
    IsSubset (atoms_image old before) facts → (more : List Atom) × IsChaseStep rule facts more × ((new : ℕ → Term) × Carries before old new next more)
replay_step rule before next facts old s into =
    let (placed, f) = fire rule facts (composite old s.trigger) (IsSubset-composite old s.trigger rule.body before facts s.applies into) in
    let (new, e) =
    extend (existentials rule) s.placed placed old
    (λ v w i j p. s.apart v w (Contains-from_existentials rule v i) (Contains-from_existentials rule w j) p) in
    let agrees : (v : ℕ) → OccursIn before (Variable v) → new v ≡ old v = λ v o. e.off v (λ w i p.
    let (u, q, out) = s.fresh w (Contains-from_existentials rule w i) in
    let same : v ≡ u = cc in
    out (subst (λ (x : ℕ). OccursIn before (Variable x)) same o)) in
    let heads : (v : ℕ) → OccursIn rule.heads (Variable v) → term_image new (s.placed v) ≡ placed v =
    replay_head rule before next s placed old new e agrees f.frontier in
    let more : List Atom = facts ++ atoms_image placed rule.heads in (
      more,
      f.step,
      (
        new,
        record {
          into =
              IsSubset-from_image new next more
              (λ a i. elim (Contains-append_cases before (atoms_image s.placed rule.heads) a
              (IsSubset-contains next (before ++ atoms_image s.placed rule.heads) a s.adds.0 i)) [
                | inl j ↦ Contains-append_left facts (atoms_image placed rule.heads) (atom_image new a)
                    (subst (λ (b : Atom). Contains facts b)
                    (sym (atom_image-agree new old a (λ v k. agrees v (OccursIn-from_atom before (Variable v) a j k))))
                    (IsSubset-image old before facts into a j))
                | inr j ↦
                    let (d, k, p) = Contains-from_image s.placed rule.heads a j in
                    let q : atom_image placed d ≡ atom_image new a =
                    sym (atom_image-agree (composite new s.placed) placed d (λ v m. heads v (OccursIn-from_atom rule.heads (Variable v) d k m))) ∙
                    sym (atom_image-composite new s.placed d) ∙ ap (atom_image new) p in
                    Contains-append_right facts (atoms_image placed rule.heads) (atom_image new a)
                    (subst (λ (b : Atom). Contains (atoms_image placed rule.heads) b) q (Contains-image placed rule.heads d k))
              ]);
          agrees = agrees;
        },
      ),
    )

pub record Replayed (rules : List Rule) (first facts last : List Atom) (old : ℕ → Term) : Type 0 where
  pub steps : List (List Atom)
  pub end : List Atom
  pub chase : IsChaseSequence rules facts steps end
  pub new : ℕ → Term
  pub carries : Carries first old new last end

-- and so can a chase
replay : (rules : List Rule) (first : List Atom) (steps : List (List Atom)) (last facts : List Atom) (old : ℕ → Term) →
    IsChaseSequence rules first steps last → IsSubset (atoms_image old first) facts → Replayed rules first facts last old
replay rules first [] last facts old e into = record {
  steps = [];
  end = facts;
  chase = refl;
  new = old;
  carries = record { into = subst (λ (xs : List Atom). IsSubset (atoms_image old xs) facts) (sym e) into; agrees = λ v o. refl };
}
replay rules first (next ∷ rest) last facts old ((rule, i, s), later) into =
    let (more, t, (mid, c)) = replay_step rule first next facts old s into in
    let r : Replayed rules next more last mid = replay rules next rest last more mid later c.into in
    record {
      steps = more ∷ r.steps;
      end = r.end;
      chase = ((rule, i, t), r.chase);
      new = r.new;
      carries = record {
        into = r.carries.into;
        agrees = λ v o. r.carries.agrees v (OccursIn-subset first next (Variable v) (step_grows rule first next s) o) ∙ c.agrees v o;
      };
    }

-- The answers of one chase, carried to other facts.
pub carried : (problem : Problem) (first facts : List Atom) (tuple : List Term) (h : ℕ → Term) → IsChaseAnswer problem first tuple →
    IsSubset (atoms_image h first) facts → IsChaseAnswer problem facts (terms_image h tuple)
carried problem first facts tuple h answer into =
    let r : Replayed problem.rules first facts answer.last h = replay problem.rules first answer.steps answer.last facts h answer.chase into in
    let k : ℕ → Term = answer.maps.mapping in
    let m : IsHomomorphism k problem.query answer.last tuple = answer.maps.homomorphism in
    record {
      known = All-from_contains (IsKnownIn facts) (terms_image h tuple) (λ t i.
          let (u, j, p) = Contains-from_map (term_image h) tuple t i in
          subst (λ (w : Term). IsKnownIn facts w) p (IsKnownIn-image first facts h u into (All-contains (IsKnownIn first) tuple u answer.known j)));
      steps = r.steps;
      last = r.end;
      chase = r.chase;
      maps = record {
        mapping = composite r.new k;
        homomorphism = record {
          atoms = IsSubset-composite r.new k problem.query.atoms answer.last r.end m.atoms r.carries.into;
          answers =
              sym (terms_image-composite r.new k problem.query.answers) ∙ ap (terms_image r.new) m.answers ∙
              terms_image-agree r.new h tuple (λ v i. r.carries.agrees v (OccursIn-known first v tuple answer.known i));
        };
      };
    }

pub sound_is_carried : SoundIsCarried
sound_is_carried problem q facts tuple sound m =
    let over_image = carried problem q.atoms facts q.answers m.mapping sound m.homomorphism.atoms in
    subst (λ (ts : List Term). IsChaseAnswer problem facts ts) m.homomorphism.answers over_image

pub core_of_sound_is_sound : CoreOfSoundIsSound
core_of_sound_is_sound problem q core sound c = sound_is_carried problem q core.atoms core.answers sound c.equivalent.forth
