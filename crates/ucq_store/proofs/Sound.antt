-- Which rows are sound.
use Rattle.std.proofs.Common.{refl, sym, [], All, Contains, subst}
use Rattle.ucq_terms.specs.declared.Term.{Term}
use Rattle.ucq_terms.specs.declared.Term.TheVariants.{Constant, Variable}
use Rattle.ucq_terms.specs.Syntax.{Query, Problem, IsSafe}
use Rattle.ucq_terms.specs.Homomorphism.{Covers}
use Rattle.ucq_terms.specs.Chase.{IsKnownIn}
use Rattle.ucq_terms.specs.Union.{IsSound}
use Rattle.ucq_terms.proofs.Lists.{All-from_contains}
use Rattle.ucq_terms.proofs.Maps.{Covers-refl}
use Rattle.ucq_chase.proofs.Replay.{core_of_sound_is_sound}
use Rattle.ucq_chase.proofs.Soundness.{one_step_is_sound}
use Rattle.ucq_store.specs.Store.{query_of}
use Rattle.ucq_store.proofs.Keeping.{CoreOfQueryIsSound, DerivedIsSound, EvidenceCovers}
use Rattle.ucq_store.proofs.Live.{live_covers_on}

-- the answers of a safe query are known in its atoms
answers_known : (q : Query) → IsSafe q → All (IsKnownIn q.atoms) q.answers
answers_known q safe = All-from_contains (IsKnownIn q.atoms) q.answers known
  where
    known : (t : Term) → Contains q.answers t → IsKnownIn q.atoms t
    known (Constant c) i = tt
    known (Variable v) i = safe.answers v i

-- a safe query is sound, by the chase that makes no step
safe_is_sound : (problem : Problem) → IsSafe problem.query → IsSound problem problem.query
safe_is_sound problem safe = record {
  known = answers_known problem.query safe;
  steps = [];
  last = problem.query.atoms;
  chase = refl;
  maps = Covers-refl problem.query;
}

pub core_of_query_is_sound : CoreOfQueryIsSound
core_of_query_is_sound problem core safe core_of = core_of_sound_is_sound problem problem.query core (safe_is_sound problem safe) core_of

pub derived_is_sound : DerivedIsSound
derived_is_sound problem q core sound derived =
    let with_rule = derived.step.step in
    core_of_sound_is_sound problem derived.result core
    (one_step_is_sound problem q derived.result with_rule.members sound with_rule.rewrites) derived.core_of

pub evidence_covers : EvidenceCovers
evidence_covers s row by core law l same covers =
    live_covers_on s.rows (query_of s row) core (law.rows_are_covered row l) (subst (λ (q : Query). Covers q core) (sym same) covers)
