-- Single pieces over disjoint atoms, all with one rule, and each with a label that says where its copy goes.
use Rattle.std.proofs.Common.{◌≡◌, ℕ, ◌<◌, List, [], map, length, All, AllPairs, Contains, get_or, refl, sym, ap, ◌∙◌, subst, arith}
use Rattle.std.specs.List.{enumerate_from}
use Rattle.std.proofs.lemmas.List.{length-map, get_or-map}
use Rattle.std.proofs.lemmas.List.Elements.{Contains-get_or}
use Rattle.ucq_terms.specs.declared.Term.{Term}
use Rattle.ucq_terms.specs.Syntax.{Atom, Rule, Query, IsSubset, terms_image, atom_image, atoms_image}
use Rattle.ucq_terms.specs.Homomorphism.{MapsInto}
use Rattle.ucq_terms.specs.Unifier.{atom_at, places, IsSinglePiece}
use Rattle.ucq_terms.specs.Rewriting.{Member, rule_at, all_pairs, AreApart, IsMember, UsesOnly, IsOneStepWith}
use Rattle.ucq_terms.proofs.Lists.{Contains-map, Contains-from_map, All-from_contains}
use Rattle.ucq_terms.proofs.Matched.{Fits}
use Rattle.ucq_terms.proofs.Pairwise.{AllPairs-map}
use Rattle.ucq_terms.proofs.Places.{Contains-from_unmatched}
use Rattle.ucq_terms.proofs.Zips.{Contains-from_enumerate}
use Rattle.ucq_terms.proofs.Members.{Contains-places_of_all}
use Rattle.ucq_chase.proofs.Rewritten.{IsSent, rewrite_maps}
use Rattle.ucq_terms.proofs.Split.{AreDisjoint}

-- a piece with its label
pub record Labelled : Type 0 where
  pub label : ℕ
  pub pairs : List (ℕ × ℕ)

-- The pieces cover what the target doesn't have of the query, and each one's copy is sent where its label says.
pub record IsLaidOut (q : Query) (rule : Rule) (h : ℕ → Term) (place : ℕ → ℕ → Term) (target : List Atom) (pieces : List Labelled) : Type 0 where
  pub single : (p : Labelled) → Contains pieces p → IsSinglePiece q rule p.pairs
  pub apart : AllPairs (λ (a b : Labelled). AreDisjoint a.pairs b.pairs) pieces
  pub fits : (p : Labelled) → Contains pieces p → (pair : ℕ × ℕ) → Contains p.pairs pair → Fits h (place p.label) q rule pair
  pub body : (p : Labelled) → Contains pieces p → IsSubset (atoms_image (place p.label) rule.body) target
  pub rest : (k : ℕ) → k < length q.atoms → ((p : Labelled) → Contains pieces p → ¬ Contains (places p.pairs) k) →
      Contains target (atom_image h (atom_at q.atoms k))

as_member : ℕ → Labelled → Member
as_member number p = record { rule = number; pairs = p.pairs }

label_at : List Labelled → ℕ → ℕ
label_at pieces i = (get_or pieces i (record { label = 0; pairs = [] })).label

module _ (rules : List Rule) (number : ℕ) (q : Query) (h : ℕ → Term) (place : ℕ → ℕ → Term) (target : List Atom) (pieces : List Labelled)
    (inside : number < length rules) (some : 0 < length pieces) (S : IsLaidOut q (rule_at rules number) h place target pieces) where
  -- each piece as a member of an aggregate
  members : List Member
  members = map (as_member number) pieces

  piece_of_member : (m : Member) → Contains members m → (p : Labelled) × Contains pieces p × (as_member number p ≡ m)
  unfolding members
  piece_of_member m c = Contains-from_map (as_member number) pieces m c

  uses : UsesOnly number members
  unfolding as_member
  uses = All-from_contains (λ (m : Member). m.rule ≡ number) members (λ m c. let r = piece_of_member m c in ap (λ (m : Member). m.rule) (sym r.2))

  each : All (IsMember q rules) members
  unfolding as_member
  each =
      All-from_contains (IsMember q rules) members
      (λ m c. let r = piece_of_member m c in subst (IsMember q rules) r.2 (record { rule = inside; single = S.single r.0 r.1 }))

  apart : AllPairs AreApart members
  unfolding members as_member
  apart = AllPairs-map AreApart (as_member number) pieces S.apart

  -- the piece at a place of the members
  at_place : (i : ℕ) (m : Member) → Contains (enumerate_from 0 members) (i, m) →
      (p : Labelled) × Contains pieces p × (p.label ≡ label_at pieces i) × (as_member number p ≡ m)
  unfolding members label_at
  at_place i m c =
      let e = Contains-from_enumerate members (i, m) c in
      let l : i < length pieces = omega (arith, e.0, length-map pieces (as_member number)) in (
        get_or pieces i (record { label = 0; pairs = [] }),
        Contains-get_or pieces i (record { label = 0; pairs = [] }) l,
        refl,
        sym (get_or-map (as_member number) pieces i (record { label = 0; pairs = [] }) m l) ∙ e.1,
      )

  sent_all : IsSent q rules members h (λ i. place (label_at pieces i)) target
  unfolding members as_member
  sent_all = record {
    nonempty = let e = length-map pieces (as_member number) in omega arith;
    each = each;
    apart = apart;
    fits = λ i m c pair d.
        let r = at_place i m c in
        subst (λ (m : Member). Fits h (place (label_at pieces i)) q (rule_at rules m.rule) pair) r.3
        (subst (λ l. Fits h (place l) q (rule_at rules number) pair) r.2 (S.fits r.0 r.1 pair (subst (λ (m : Member). Contains m.pairs pair) (sym r.3) d)));
    body = λ i m c.
        let r = at_place i m c in
        subst (λ (m : Member). IsSubset (atoms_image (place (label_at pieces i)) (rule_at rules m.rule).body) target) r.3
        (subst (λ l. IsSubset (atoms_image (place l) (rule_at rules number).body) target) r.2 (S.body r.0 r.1));
    rest = λ a c.
        let r = Contains-from_unmatched q (all_pairs members) a c in
        subst (λ (a : Atom). Contains target (atom_image h a)) r.2
        (S.rest r.0 r.1 (λ p i j. r.3 (Contains-places_of_all members (as_member number p) r.0 (Contains-map (as_member number) pieces p i) j)));
  }

  -- the pieces make a one-step rewriting that maps into the target
  pub laid_out_maps : (result : Query) × IsOneStepWith rules number q result × MapsInto result target (terms_image h q.answers)
  laid_out_maps =
      let r = rewrite_maps q rules members h (λ i. place (label_at pieces i)) target sent_all in
      (r.0, record { members = members; uses_only = uses; rewrites = r.1 }, r.2)
