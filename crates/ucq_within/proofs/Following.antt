-- A rule follows from others exactly where its body's query is contained in its head's under them.
use Rattle.std.proofs.Common.{◌≡◌, ℕ, nat_eq, true, inl, inr, refl, sym, ap, ◌∙◌, List, [], ◌∷◌, ◌++◌, Contains, filter, map, subst}
use Rattle.std.specs.List.{filter_map}
use Rattle.std.proofs.lemmas.List.Elements.{Contains-append_cases}
use Rattle.ucq_terms.specs.declared.Term.{Term}
use Rattle.ucq_terms.specs.declared.Term.TheVariants.{Variable}
use Rattle.ucq_terms.specs.Syntax.{Atom, Rule, Query, OccursIn, IsSubset, term_image, terms_image, atom_image, atoms_image}
use Rattle.ucq_terms.specs.Homomorphism.{IsHomomorphism, Covers}
use Rattle.ucq_terms.specs.Chase.{IsFrontier, IsChaseStep, IsChaseSequence, IsKnownIn, IsChaseAnswer}
use Rattle.ucq_terms.specs.Numbering.{variable_of, terms_of}
use Rattle.ucq_terms.proofs.Decide.{chosen, chosen-yes, chosen-no, dec_occurs}
use Rattle.ucq_terms.proofs.Equality.{IsEquality-nat_eq}
use Rattle.ucq_terms.proofs.Idempotence.{AreIsomorphic-normal}
use Rattle.ucq_terms.proofs.Images.{composite, terms_image-composite, terms_image-agree, terms_image-same, atom_image-same, atom_image-agree, atom_image-composite}
use Rattle.ucq_terms.proofs.Images.{Contains-from_image, IsSubset-from_image, IsSubset-image, IsSubset-composite}
use Rattle.ucq_terms.proofs.Lists.{Contains-first, Contains-rest, Contains-cons_cases, Contains-empty, Contains-map, Contains-from_map, Contains-filter, Contains-from_filter, All-from_contains}
use Rattle.ucq_terms.proofs.Numbering.{Contains-from_any, any_from_contains, Contains-first_occurrences, Contains-from_first_occurrences}
use Rattle.ucq_terms.proofs.Occurrences.{existentials, Contains-from_existentials}
use Rattle.ucq_terms.proofs.Orders.{Contains-variables, Contains-from_variables, Contains-terms_of, OccursIn-terms_of}
use Rattle.ucq_terms.proofs.Subsets.{IsSubset-contains, IsSubset-refl, IsSubset-trans, IsSubset-append_right, OccursIn-from_atom, OccursIn-subset}
use Rattle.ucq_chase.proofs.Firing.{fire}
use Rattle.ucq_chase.proofs.Steps.{step_grows, IsChaseSequence-append, IsKnownIn-image, OccursIn-known}
use Rattle.ucq_chase.proofs.Replay.{extend, replay_head, replay_step, Replayed}
use Rattle.ucq_fold.proofs.Renamings.{Covers-forth, Covers-back}
use Rattle.ucq_within.specs.Containment.{asked_under, IsContained}
use Rattle.ucq_within.specs.Needless.{Follows, stands_in, frontier_of, asked_of, FollowsIsContainment}
use Rattle.ucq_within.proofs.Contained.{covered_is_contained, contained_trans}

-- ---- the frontier

pub stands_in-true : (atoms : List Atom) (v : ℕ) → OccursIn atoms (Variable v) → stands_in atoms v ≡ true
stands_in-true atoms v o =
    any_from_contains nat_eq IsEquality-nat_eq (filter_map variable_of (terms_of atoms)) v
    (Contains-variables (terms_of atoms) v (Contains-terms_of atoms (Variable v) o))

pub stands_in-occurs : (atoms : List Atom) (v : ℕ) → stands_in atoms v ≡ true → OccursIn atoms (Variable v)
stands_in-occurs atoms v e =
    OccursIn-terms_of atoms (Variable v)
    (Contains-from_variables (terms_of atoms) v (Contains-from_any nat_eq IsEquality-nat_eq (filter_map variable_of (terms_of atoms)) v e))

pub in_frontier : (rule : Rule) (v : ℕ) → IsFrontier rule v → Contains (frontier_of rule) v
in_frontier rule v (h, b) =
    let heads = filter_map variable_of (terms_of rule.heads) in
    Contains-first_occurrences nat_eq IsEquality-nat_eq (filter (stands_in rule.body) heads) v
    (Contains-filter (stands_in rule.body) heads v (Contains-variables (terms_of rule.heads) v (Contains-terms_of rule.heads (Variable v) h)) (stands_in-true rule.body v b))

pub frontier_is : (rule : Rule) (v : ℕ) → Contains (frontier_of rule) v → IsFrontier rule v
frontier_is rule v i =
    let heads = filter_map variable_of (terms_of rule.heads) in
    let (j, e) = Contains-from_filter (stands_in rule.body) heads v (Contains-from_first_occurrences nat_eq IsEquality-nat_eq (filter (stands_in rule.body) heads) v i) in
    (OccursIn-terms_of rule.heads (Variable v) (Contains-from_variables (terms_of rule.heads) v j), stands_in-occurs rule.body v e)

-- an answer variable of a rule's queries is one of its frontier
pub answer_is_frontier : (rule : Rule) (v : ℕ) → Contains (map Variable (frontier_of rule)) (Variable v) → IsFrontier rule v
answer_is_frontier rule v i =
    let (w, j, e) = Contains-from_map Variable (frontier_of rule) (Variable v) i in
    let same : w ≡ v = cc in
    subst (IsFrontier rule) same (frontier_is rule w j)

-- ---- instances

-- maps that make the same of a list make the same of each element
same_at : {X Y : Type 0} (f g : X → Y) (xs : List X) (x : X) → map f xs ≡ map g xs → Contains xs x → f x ≡ g x
same_at f g [] x e i = absurd (Contains-empty x i)
same_at f g (y ∷ ys) x e i = elim (Contains-cons_cases y ys x i) [
  | inl p ↦ let first : f y ≡ g y = cc in ap f (sym p) ∙ first ∙ ap g p
  | inr j ↦ let rest : map f ys ≡ map g ys = cc in same_at f g ys x rest j
]

sequence_grows : (rules : List Rule) (first : List Atom) (steps : List (List Atom)) (last : List Atom) → IsChaseSequence rules first steps last → IsSubset first last
sequence_grows rules first [] last e = subst (IsSubset first) (sym e) (IsSubset-refl first)
sequence_grows rules first (next ∷ rest) last ((rule, i, s), later) =
    IsSubset-trans first next last (step_grows rule first next s) (sequence_grows rules next rest last later)

-- a chase is one under more rules
more_rules : (rule : Rule) (others : List Rule) (first : List Atom) (steps : List (List Atom)) (last : List Atom) → IsChaseSequence others first steps last →
    IsChaseSequence (rule ∷ others) first steps last
more_rules rule others first [] last e = e
more_rules rule others first (next ∷ rest) last ((r, i, s), later) = ((r, Contains-rest rule others r i, s), more_rules rule others next rest last later)

-- the atoms, asked for the rule's frontier, before the query is made normal
abbrev pub plain : Rule → List Atom → Query
plain rule atoms = record { answers = map Variable (frontier_of rule); atoms = atoms }

-- ---- from containment

module _ (rule : Rule) (others : List Rule) (contained : IsContained others (plain rule rule.body) (plain rule rule.heads)) where
  -- where the rule applies, the others give what stands for its head
  stands_for : (before next facts : List Atom) (old : ℕ → Term) → IsChaseStep rule before next → IsSubset (atoms_image old before) facts → Replayed others before facts next old
  stands_for before next facts old s into =
      let moved : ℕ → Term = composite old s.trigger in
      let applies : IsSubset (atoms_image moved rule.body) facts = IsSubset-composite old s.trigger rule.body before facts s.applies into in
      let answers : List Term = map Variable (frontier_of rule) in
      let tuple : List Term = terms_image moved answers in
      let body : IsChaseAnswer (asked_under others (plain rule rule.body)) facts tuple = record {
        known = All-from_contains (IsKnownIn facts) tuple (λ t i.
            let (u, j, p) = Contains-from_map (term_image moved) answers t i in
            let (v, k, q) = Contains-from_map Variable (frontier_of rule) u j in
            subst (IsKnownIn facts) (ap (term_image moved) q ∙ p) (IsKnownIn-image rule.body facts moved (Variable v) applies (frontier_is rule v k).1));
        steps = [];
        last = facts;
        chase = refl;
        maps = record { mapping = moved; homomorphism = record { atoms = applies; answers = refl } };
      } in
      let head : IsChaseAnswer (asked_under others (plain rule rule.heads)) facts tuple = contained.answers facts tuple body in
      let placed : ℕ → Term = head.maps.mapping in
      let h : IsHomomorphism placed (plain rule rule.heads) head.last tuple = head.maps.homomorphism in
      let there : ℕ → Term = λ v. chosen (dec_occurs rule.body (Variable v)) (moved v) (placed v) in
      let on_body : (v : ℕ) → OccursIn rule.body (Variable v) → there v ≡ moved v = λ v o. chosen-yes (dec_occurs rule.body (Variable v)) (moved v) (placed v) o in
      let on_head : (v : ℕ) → OccursIn rule.heads (Variable v) → there v ≡ placed v = λ v o. elim (dec_occurs rule.body (Variable v)) [
        | yes b ↦ on_body v b ∙ sym (same_at (term_image placed) (term_image moved) answers (Variable v) h.answers (Contains-map Variable (frontier_of rule) v (in_frontier rule v (o, b))))
        | no n ↦ chosen-no (dec_occurs rule.body (Variable v)) (moved v) (placed v) n
      ] in
      let (new, e) =
      extend (existentials rule) s.placed there old
      (λ v w i j p. s.apart v w (Contains-from_existentials rule v i) (Contains-from_existentials rule w j) p) in
      let agrees : (v : ℕ) → OccursIn before (Variable v) → new v ≡ old v = λ v o. e.off v (λ w i p.
      let (u, q, out) = s.fresh w (Contains-from_existentials rule w i) in
      let same : v ≡ u = cc in
      out (subst (λ (x : ℕ). OccursIn before (Variable x)) same o)) in
      let heads : (v : ℕ) → OccursIn rule.heads (Variable v) → term_image new (s.placed v) ≡ there v =
      replay_head rule before next s there old new e agrees on_body in
      let wider : IsSubset facts head.last = sequence_grows others facts head.steps head.last head.chase in
      record {
        steps = head.steps;
        end = head.last;
        chase = head.chase;
        new = new;
        carries = record {
          into =
              IsSubset-from_image new next head.last
              (λ a i. elim (Contains-append_cases before (atoms_image s.placed rule.heads) a
              (IsSubset-contains next (before ++ atoms_image s.placed rule.heads) a s.adds.0 i)) [
                | inl j ↦ subst (λ (b : Atom). Contains head.last b)
                    (sym (atom_image-agree new old a (λ v k. agrees v (OccursIn-from_atom before (Variable v) a j k))))
                    (IsSubset-contains facts head.last (atom_image old a) wider (IsSubset-image old before facts into a j))
                | inr j ↦
                    let (d, k, p) = Contains-from_image s.placed rule.heads a j in
                    let q : atom_image placed d ≡ atom_image new a =
                    sym (atom_image-agree (composite new s.placed) placed d
                    (λ v m. let o = OccursIn-from_atom rule.heads (Variable v) d k m in heads v o ∙ on_head v o)) ∙
                    sym (atom_image-composite new s.placed d) ∙ ap (atom_image new) p in
                    subst (λ (b : Atom). Contains head.last b) q (IsSubset-image placed rule.heads head.last h.atoms d k)
              ]);
          agrees = agrees;
        };
      }

  -- a step of any of the rules
  one_step : (before next facts : List Atom) (old : ℕ → Term) (r : Rule) → Contains (rule ∷ others) r → IsChaseStep r before next →
      IsSubset (atoms_image old before) facts → Replayed others before facts next old
  one_step before next facts old r i s into = elim (Contains-cons_cases rule others r i) [
    | inl e ↦ stands_for before next facts old (subst (λ (x : Rule). IsChaseStep x before next) (sym e) s) into
    | inr j ↦
        let (more, t, (new, c)) = replay_step r before next facts old s into in
        record { steps = more ∷ []; end = more; chase = ((r, j, t), refl); new = new; carries = c }
  ]

  -- and so a chase by all of them
  without_it : (first : List Atom) (steps : List (List Atom)) (last facts : List Atom) (old : ℕ → Term) →
      IsChaseSequence (rule ∷ others) first steps last → IsSubset (atoms_image old first) facts → Replayed others first facts last old
  without_it first [] last facts old e into = record {
    steps = [];
    end = facts;
    chase = refl;
    new = old;
    carries = record { into = subst (λ (xs : List Atom). IsSubset (atoms_image old xs) facts) (sym e) into; agrees = λ v o. refl };
  }
  without_it first (next ∷ rest) last facts old ((r, i, s), later) into =
      let one : Replayed others first facts next old = one_step first next facts old r i s into in
      let more : Replayed others next one.end last one.new = without_it next rest last one.end one.new later one.carries.into in
      record {
        steps = one.steps ++ more.steps;
        end = more.end;
        chase = IsChaseSequence-append others facts one.end more.end one.steps more.steps one.chase more.chase;
        new = more.new;
        carries = record {
          into = more.carries.into;
          agrees = λ v o. more.carries.agrees v (occurs_later first next r s v o) ∙ one.carries.agrees v o;
        };
      }
    where
      occurs_later : (xs ys : List Atom) (x : Rule) → IsChaseStep x xs ys → (v : ℕ) → OccursIn xs (Variable v) → OccursIn ys (Variable v)
      occurs_later xs ys x t v o = OccursIn-subset xs ys (Variable v) (step_grows x xs ys t) o

  plain_follows : Follows rule others
  plain_follows = record {
    answers = λ q facts tuple x.
        let r : Replayed others facts facts x.last Variable = without_it facts x.steps x.last facts Variable x.chase
        (IsSubset-from_image Variable facts facts (λ a i. subst (λ (b : Atom). Contains facts b) (sym (atom_image-same a)) i)) in
        let k : ℕ → Term = x.maps.mapping in
        let m : IsHomomorphism k q x.last tuple = x.maps.homomorphism in
        record {
          known = x.known;
          steps = r.steps;
          last = r.end;
          chase = r.chase;
          maps = record {
            mapping = composite r.new k;
            homomorphism = record {
              atoms = IsSubset-composite r.new k q.atoms x.last r.end m.atoms r.carries.into;
              answers =
                  sym (terms_image-composite r.new k q.answers) ∙ ap (terms_image r.new) m.answers ∙
                  terms_image-agree r.new Variable tuple (λ v i. r.carries.agrees v (OccursIn-known facts v tuple x.known i)) ∙ terms_image-same tuple;
            };
          };
        };
  }

-- ---- from what follows

follows_plainly : (rule : Rule) (others : List Rule) → Follows rule others → IsContained others (plain rule rule.body) (plain rule rule.heads)
follows_plainly rule others follows = record {
  answers = λ facts tuple x.
      let k : ℕ → Term = x.maps.mapping in
      let m : IsHomomorphism k (plain rule rule.body) x.last tuple = x.maps.homomorphism in
      let (placed, f) = fire rule x.last k m.atoms in
      let next : List Atom = x.last ++ atoms_image placed rule.heads in
      follows.answers (plain rule rule.heads) facts tuple (record {
        known = x.known;
        steps = x.steps ++ next ∷ [];
        last = next;
        chase =
            IsChaseSequence-append (rule ∷ others) facts x.last next x.steps (next ∷ []) (more_rules rule others facts x.steps x.last x.chase)
            ((rule, Contains-first rule others, f.step), refl);
        maps = record {
          mapping = placed;
          homomorphism = record {
            atoms = IsSubset-append_right x.last (atoms_image placed rule.heads);
            answers =
                terms_image-agree placed k (map Variable (frontier_of rule)) (λ v i. f.frontier v (answer_is_frontier rule v i).1) ∙ m.answers;
          };
        };
      });
}

-- ---- normal queries

pub made_normal : (rule : Rule) (atoms : List Atom) → Covers (plain rule atoms) (asked_of rule atoms) × Covers (asked_of rule atoms) (plain rule atoms)
made_normal rule atoms =
    let i = AreIsomorphic-normal (plain rule atoms) in
    (Covers-forth (plain rule atoms) (asked_of rule atoms) i, Covers-back (plain rule atoms) (asked_of rule atoms) i)

pub follows_is_containment : FollowsIsContainment
follows_is_containment rule others =
    let b = made_normal rule rule.body in
    let h = made_normal rule rule.heads in (
      λ follows.
          contained_trans others (asked_of rule rule.body) (plain rule rule.body) (asked_of rule rule.heads)
          (covered_is_contained others (plain rule rule.body) (asked_of rule rule.body) b.0)
          (contained_trans others (plain rule rule.body) (plain rule rule.heads) (asked_of rule rule.heads) (follows_plainly rule others follows)
          (covered_is_contained others (asked_of rule rule.heads) (plain rule rule.heads) h.1)),
      λ contained.
          plain_follows rule others (contained_trans others (plain rule rule.body) (asked_of rule rule.body) (plain rule rule.heads)
          (covered_is_contained others (asked_of rule rule.body) (plain rule rule.body) b.1)
          (contained_trans others (asked_of rule rule.body) (asked_of rule rule.heads) (plain rule rule.heads) contained
          (covered_is_contained others (plain rule rule.heads) (asked_of rule rule.heads) h.0))),
    )
