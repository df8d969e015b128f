-- What the tests on classes tell of the query and the rule.
use Rattle.std.proofs.Common.{◌≡◌, ◌≢◌, ◌<◌, ℕ, zero, suc, Bool, true, false, List, length, Option, None, inl, inr, get_or, arith}
use Rattle.ucq_terms.specs.Syntax.{Query, Rule}
use Rattle.ucq_terms.specs.declared.Term.TheVariants.{Variable}
use Rattle.ucq_terms.specs.Chase.{IsExistential}
use Rattle.ucq_terms.specs.Unifier.{Node, constant, of_query, of_copy, links, AreJoined, HasNoClash}
use Rattle.ucq_classes.specs.Numbers.{Numbers, width_of, IsNumbered}
use Rattle.ucq_classes.specs.Classes.{Labels, IsClassed}
use Rattle.ucq_classes.proofs.Numbers.{copy_within}
use Rattle.ucq_classes.proofs.Classed.{both_numbered}
use Rattle.ucq_unify.specs.inner.Growing.{pairs_of, head_at, Clashes, HasClash, IsCalledFor}
use Rattle.ucq_unify.specs.inner.Sides.{AreNumbered}
use Rattle.ucq_unify.specs.inner.Classes.{IsSpoilt, HasSpoilt, IsCalledAt}

-- The flags tell the existential variables.
module _ (q : Query) (rule : Rule) (flags : List Bool) (n : Numbers) (h : AreNumbered q rule flags n) where
  flagged_existential : (v : ℕ) → v < length flags → get_or flags v false ≡ true → IsExistential rule v
  flagged_existential v l f = let e = h.told.count in (h.told.tells v (omega arith)).0 f

  existential_below : (v : ℕ) → IsExistential rule v → v < length flags
  existential_below v e = let l : v < width_of n 0 = h.heads.each (Variable v) e.0 in let f = h.told.count in omega arith

  existential_flagged : (v : ℕ) → IsExistential rule v → get_or flags v false ≡ true
  existential_flagged v e = (h.told.tells v (h.heads.each (Variable v) e.0)).1 e

  -- what the test on them finds is a clash
  pub clash_found : (links : List (Node × Node)) → HasSpoilt q n flags links → HasClash q rule links
  clash_found links s = spoilt s.spoilt
    where
      existential : IsExistential rule s.variable
      existential = flagged_existential s.variable s.below s.flagged

      spoilt : IsSpoilt q n links s.variable → HasClash q rule links
      spoilt (inl m) = record { left = of_copy 0 s.variable; right = constant m.value; joined = m.joined; clashes = existential }
      spoilt (inr (inl m)) = record { left = of_copy 0 s.variable; right = of_query m.answer; joined = m.joined; clashes = (existential, m.held) }
      spoilt (inr (inr m)) = record { left = of_copy 0 s.variable; right = of_copy 0 m.other; joined = m.joined; clashes = (existential, m.differs) }

  -- The places that a choice calls for, by the flags and by the rule.
  pub called_from : (choice : List (Option ℕ)) (place : ℕ) → IsCalledAt flags (links q 0 rule (pairs_of choice)) q choice place → IsCalledFor q rule choice place
  called_from choice place c =
      let p = c.calls.private_variable in
      record {
        variable = c.calls.variable;
        private_variable = record { variable = p.variable; existential = flagged_existential p.variable p.below p.flagged; joined = p.joined };
        there = c.calls.there;
      }

  pub called_at : (choice : List (Option ℕ)) (place : ℕ) → place < length q.atoms → head_at choice place ≡ None → IsCalledFor q rule choice place →
      IsCalledAt flags (links q 0 rule (pairs_of choice)) q choice place
  called_at choice place l f c =
      let p = c.private_variable in
      record {
        within = l;
        free = f;
        calls = record {
          variable = c.variable;
          there = c.there;
          private_variable = record {
            variable = p.variable;
            below = existential_below p.variable p.existential;
            flagged = existential_flagged p.variable p.existential;
            joined = p.joined;
          };
        };
      }

-- where the tests find nothing, no two joined terms clash
module _ (q : Query) (rule : Rule) (flags : List Bool) (c : Labels) (links : List (Node × Node)) (h : AreNumbered q rule flags c.numbers)
    (classed : IsClassed links c) (no_clash : HasNoClash links) (none : HasSpoilt q c.numbers flags links → ⊥) where
  -- a term that is joined to another is numbered
  end_numbered : (x y : Node) → AreJoined links x y → x ≢ y → IsNumbered c.numbers y
  end_numbered x y j n = elim (both_numbered c links classed j) [ inl e ↦ absurd (n e) | inr (a, b) ↦ b ]

  spoils : (v : ℕ) → IsExistential rule v → IsSpoilt q c.numbers links v → ⊥
  spoils v e s = none (record {
    variable = v;
    below = existential_below q rule flags c.numbers h v e;
    flagged = existential_flagged q rule flags c.numbers h v e;
    spoilt = s;
  })

  copies : (v n w : ℕ) → IsExistential rule v → v ≢ w → AreJoined links (of_copy 0 v) (of_copy n w) → IsNumbered c.numbers (of_copy n w) → ⊥
  copies v zero w e d j i = spoils v e (inr (inr (record { other = w; below = i; differs = d; joined = j })))
  copies v (suc n) w e d j i = let l = copy_within c.numbers (suc n) w i in let one = h.one_copy in omega arith

  pub clash_none : (x y : Node) → AreJoined links x y → Clashes q rule x y → ⊥
  clash_none (constant a) (constant d) j k = k (no_clash a d j)
  clash_none (constant a) (of_query u) j k = k
  clash_none (constant a) (of_copy n w) j k = k
  clash_none (of_query u) y j k = k
  clash_none (of_copy zero v) (constant d) j k =
      spoils v k (inl (record { value = d; held = end_numbered (of_copy 0 v) (constant d) j (λ e. cc); joined = j }))
  clash_none (of_copy zero v) (of_query u) j k = spoils v k.0 (inr (inl (record { answer = u; held = k.1; joined = j })))
  clash_none (of_copy zero v) (of_copy n w) j k =
      copies v n w k.0 k.1 j (end_numbered (of_copy 0 v) (of_copy n w) j (λ e. let f : v ≡ w = cc in k.1 f))
  clash_none (of_copy (suc m) v) y j k = k
