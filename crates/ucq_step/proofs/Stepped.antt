-- Cores of the rewritings by all sets of pieces are the answer of a step.
use Rattle.std.proofs.Common.{◌≡◌, ◌<◌, ◌≤◌, ℕ, List, [], ◌∷◌, length, Contains, refl, sym, ap, subst, inl, inr, ⊎_elim, arith}
use Rattle.std.proofs.lemmas.List.{length-map}
use Rattle.ucq_terms.specs.declared.Term.TheVariants.{Variable}
use Rattle.ucq_terms.specs.declared.TheConstants.{ATOMS}
use Rattle.ucq_terms.specs.Syntax.{Atom, Rule, Query, atoms_image}
use Rattle.ucq_terms.specs.Homomorphism.{IsCoreOf, AreIsomorphic}
use Rattle.ucq_terms.specs.Numbering.{normal_query, each_once}
use Rattle.ucq_terms.specs.Rewriting.{Member, Rewrites, HasWidth, UsesOnly}
use Rattle.ucq_terms.proofs.Images.{terms_image-same, atom_image-same, Contains-image, IsSubset-from_image}
use Rattle.ucq_terms.proofs.Idempotence.{AreIsomorphic-normal}
use Rattle.ucq_terms.proofs.Lists.{Contains-empty, Contains-from_map, All-from_contains}
use Rattle.ucq_terms.proofs.Maps.{Covers-trans}
use Rattle.ucq_terms.proofs.Subsets.{IsSubset-from_contains}
use Rattle.ucq_fold.proofs.Renamings.{Covers-forth, Covers-back}
use Rattle.ucq_unify.specs.Pieces.{AreSinglePieces}
use Rattle.ucq_join.specs.Walk.{piece_member, members_at, IsJoin, ComesAfter, Walk, IsNext, IsLast}
use Rattle.ucq_step.specs.Steps.{IsRewriting, IsCoreOfStep, IsCoveredBy, IsNarrow, AreSteps, IsTooWide, IsRewrittenAt, IsCoreAt, HasCoreAt, AreCoresUpTo}
use Rattle.ucq_step.specs.Kept.{AreDifferent, HasAddedCore}
use Rattle.ucq_step.proofs.Chosen.{chosen_places, chosen_join, chosen_permuted}
use Rattle.ucq_step.proofs.Renamed.{AreIsomorphic-rewritten}
use Rattle.ucq_step.proofs.Widths.{width_same, HasWidth-each_once}

itself : (a : Query) → AreIsomorphic a a
itself a = record {
  renaming = Variable;
  isomorphism = record {
    renames = λ v o. (v, refl);
    apart = λ v w o u e. cc;
    answers = terms_image-same a.answers;
    atoms = (
      IsSubset-from_image Variable a.atoms a.atoms (λ x i. subst (λ (y : Atom). Contains a.atoms y) (sym (atom_image-same x)) i),
      IsSubset-from_contains a.atoms (atoms_image Variable a.atoms)
          (λ x i. subst (λ (y : Atom). Contains (atoms_image Variable a.atoms) y) (atom_image-same x) (Contains-image Variable a.atoms x i)),
    );
  };
}

UsesOnly-members_at : (pieces : List (List (ℕ × ℕ))) (places : List ℕ) → UsesOnly 0 (members_at pieces places)
UsesOnly-members_at pieces places =
    All-from_contains (λ (m : Member). m.rule ≡ 0) (members_at pieces places) (λ m c.
    let (p, i, e) = Contains-from_map (piece_member pieces) places m c in sym (ap (λ (m : Member). m.rule) e))

-- a rewriting by the pieces at places is a step
pub IsRewriting-rewrites : (q : Query) (rule : Rule) (pieces : List (List (ℕ × ℕ))) (places : List ℕ) (r : Query) →
    Rewrites q (rule ∷ []) (members_at pieces places) r → IsRewriting q rule r
IsRewriting-rewrites q rule pieces places r R = record { members = members_at pieces places; uses_only = UsesOnly-members_at pieces places; rewrites = R }

module _ (q : Query) (rule : Rule) (pieces : List (List (ℕ × ℕ))) (places : List ℕ) (b : Query) (R : Rewrites q (rule ∷ []) (members_at pieces places) b) where
  -- a rewriting with too many atoms tells a step that is too wide
  pub IsTooWide-rewritten : (count : ℕ) → count ≡ length (each_once b.atoms) → ATOMS < count → IsTooWide q rule count
  IsTooWide-rewritten count e above = record {
    rewriting = b;
    step = IsRewriting-rewrites q rule pieces places b R;
    width = subst (HasWidth b.atoms) (sym e) (HasWidth-each_once b.atoms);
    above = above;
  }

  -- and any other is what is stored
  pub IsRewrittenAt-stored : (stored : Query) → stored ≡ normal_query b → length (each_once b.atoms) ≤ ATOMS → IsRewrittenAt q rule pieces places stored
  IsRewrittenAt-stored stored e few =
      let i : AreIsomorphic b stored = subst (λ (s : Query). AreIsomorphic b s) (sym e) (AreIsomorphic-normal b) in
      record {
        rewriting = b;
        rewrites = R;
        equivalent = record { forth = Covers-forth b stored i; back = Covers-back b stored i };
        narrow = record { few = λ width h. let same = width_same b b width (length (each_once b.atoms)) (itself b) h (HasWidth-each_once b.atoms) in omega (arith, same) };
      }

-- the core of what is stored is the core of the rewriting
pub IsCoreAt-shrunk : (q : Query) (rule : Rule) (pieces : List (List (ℕ × ℕ))) (places : List ℕ) (stored core : Query) →
    IsRewrittenAt q rule pieces places stored → IsCoreOf stored core → IsCoreAt q rule pieces places core
IsCoreAt-shrunk q rule pieces places stored core W C = record {
  rewriting = W.rewriting;
  rewrites = W.rewrites;
  shrunk = record {
    core = C.core;
    equivalent = record {
      forth = Covers-trans W.rewriting stored core W.equivalent.forth C.equivalent.forth;
      back = Covers-trans core stored W.rewriting C.equivalent.back W.equivalent.back;
    };
  };
  narrow = W.narrow;
}

-- a core at some places is a core of a step
pub IsCoreOfStep-at : (q : Query) (rule : Rule) (pieces : List (List (ℕ × ℕ))) (places : List ℕ) (core : Query) → IsCoreAt q rule pieces places core →
    IsCoreOfStep q rule core
IsCoreOfStep-at q rule pieces places core C = record {
  rewriting = C.rewriting;
  step = IsRewriting-rewrites q rule pieces places C.rewriting C.rewrites;
  shrunk = C.shrunk;
}

-- Each step is like the rewritings by the pieces at some places.
module _ (q : Query) (rule : Rule) (pieces : List (List (ℕ × ℕ))) (S : AreSinglePieces q rule pieces) (r : Query) (step : IsRewriting q rule r) where
  abbrev own : Rewrites q (rule ∷ []) step.members r
  own = step.rewrites

  step_places : List ℕ
  step_places = chosen_places q rule pieces S step.members step.uses_only own.aggregate

  step_join : IsJoin q rule pieces step_places
  unfolding step_places
  step_join = chosen_join q rule pieces S step.members step.uses_only own.aggregate

  step_alike : (b : Query) → Rewrites q (rule ∷ []) (members_at pieces step_places) b → AreIsomorphic r b
  unfolding step_places
  step_alike b R =
      AreIsomorphic-rewritten q (rule ∷ []) _ _ step.members (members_at pieces step_places)
      (chosen_permuted q rule pieces S step.members step.uses_only own.aggregate) r b own R

  covered_at : (cores : List Query) (core : Query) → Contains cores core → IsCoreAt q rule pieces step_places core → IsCoveredBy cores r
  covered_at cores core c C =
      let i : AreIsomorphic r C.rewriting = step_alike C.rewriting C.rewrites in
      record {
        core = core;
        among = c;
        covers = Covers-trans core C.rewriting r C.shrunk.equivalent.back (Covers-back r C.rewriting i);
      }

  narrow_at : (core : Query) → IsCoreAt q rule pieces step_places core → IsNarrow r
  narrow_at core C =
      let i : AreIsomorphic r C.rewriting = step_alike C.rewriting C.rewrites in
      let wide : HasWidth C.rewriting.atoms (length (each_once C.rewriting.atoms)) = HasWidth-each_once C.rewriting.atoms in
      record {
        few = λ width h.
            let same : width ≡ length (each_once C.rewriting.atoms) = width_same r C.rewriting width (length (each_once C.rewriting.atoms)) i h wide in
            C.narrow.few width (subst (HasWidth C.rewriting.atoms) (sym same) wide);
      }

-- Before the first set there are no cores.
pub AreCoresUpTo-none : (q : Query) (rule : Rule) (pieces : List (List (ℕ × ℕ))) → AreCoresUpTo q rule pieces [] []
AreCoresUpTo-none q rule pieces = record {
  each = λ core c. absurd (Contains-empty core c);
  all = λ places J. inl (after_none places (subst (λ n. 0 < n) (length-map places (piece_member pieces)) J.aggregate.nonempty));
}
  where
    after_none : (places : List ℕ) → 0 < length places → ComesAfter [] places
    after_none [] h = absurd (omega arith)
    after_none (p ∷ ps) h = tt

-- With the core of the next set's rewriting they are those up to it.
pub AreCoresUpTo-more : (w : Walk) (next : List ℕ) (stored : Query) (before after : List Query) → IsNext w next → HasAddedCore before stored after →
    IsRewrittenAt w.query w.rule w.pieces next stored → AreCoresUpTo w.query w.rule w.pieces w.present before → AreCoresUpTo w.query w.rule w.pieces next after
AreCoresUpTo-more w next stored before after N K W U = record {
  each = λ other c. ⊎_elim (λ i. U.each other i)
      (λ C. IsCoreOfStep-at w.query w.rule w.pieces next other (IsCoreAt-shrunk w.query w.rule w.pieces next stored other W C)) (K.only other c);
  all = λ places J. ⊎_elim
      (λ later. ⊎_elim
      (λ e. inr (subst (λ (ps : List ℕ). HasCoreAt w.query w.rule w.pieces after ps) e
      (record { core = K.there.core; among = K.there.among; at = IsCoreAt-shrunk w.query w.rule w.pieces next stored K.there.core W K.there.shrunk })))
      (λ l. inl l) (N.least places J later))
      (λ (H : HasCoreAt w.query w.rule w.pieces before places). inr (record { core = H.core; among = K.kept H.core H.among; at = H.at })) (U.all places J);
}

-- After the last set they are the answer.
pub AreSteps-last : (w : Walk) (cores : List Query) → AreSinglePieces w.query w.rule w.pieces → IsLast w → AreDifferent cores →
    AreCoresUpTo w.query w.rule w.pieces w.present cores → AreSteps w.query w.rule cores
AreSteps-last w cores S L D U = record {
  each = U.each;
  all = λ r step. let H = core_for r step in covered_at w.query w.rule w.pieces S r step cores H.core H.among H.at;
  narrow = λ r step. let H = core_for r step in narrow_at w.query w.rule w.pieces S r step H.core H.at;
  once = D;
}
  where
    core_for : (r : Query) (step : IsRewriting w.query w.rule r) → HasCoreAt w.query w.rule w.pieces cores (step_places w.query w.rule w.pieces S r step)
    core_for r step =
        let J = step_join w.query w.rule w.pieces S r step in
        ⊎_elim (λ later. absurd (L.none (step_places w.query w.rule w.pieces S r step) J later)) (λ H. H) (U.all (step_places w.query w.rule w.pieces S r step) J)
