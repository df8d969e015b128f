-- What rewriting a query with one rule after another finds.
use Rattle.std.specs.Prelude.{◌≡◌, ℕ, ◌+◌, ◌<◌, ◌++◌, false, List, All, Any, Result, Ok, Err, slice_index}
use Rattle.ucq_terms.specs.Syntax.{Rule, Query, Problem}
use Rattle.ucq_terms.specs.Homomorphism.{Covers}
use Rattle.ucq_terms.specs.Rewriting.{IsOneStepWith}
use Rattle.std.specs.Global.{Vec}
use Rattle.ucq_store.specs.Candidates.{Candidate, HoldCores}
use Rattle.ucq_store.specs.Lawful.{HasWideStep, IsCoreOfOneStep}
use Rattle.ucq_store.specs.Reports.{Report, AreFound}
use Rattle.ucq_pool.specs.declared.rewritings.Fault.{Fault}
use Rattle.ucq_pool.specs.declared.rewritings.Fault.TheVariants.{Wide, Memory}

-- Candidates that no store has taken, with evidence or without. Their cores are cores of one-step rewritings of the query,
-- and cover all of these with the rules whose numbers stand before that place.
pub record AreFoundBefore (rules : List Rule) (numbers : List ℕ) (place : ℕ) (q : Query) (candidates : List Candidate) : Type 0 where
  pub cores : List Query
  pub fresh : HoldCores candidates cores
  pub derived : All (IsCoreOfOneStep rules q) cores
  pub covered : (k : ℕ) (result : Query) → k < place → IsOneStepWith rules (slice_index numbers k) q result → Any (λ core. Covers core result) cores

-- candidates that hold these cores, with evidence or without, stand after those that were there
pub record AreProposed (before : List Candidate) (cores : List Query) (after : List Candidate) : Type 0 where
  pub more : List Candidate
  pub are : after ≡ before ++ more
  pub hold : HoldCores more cores

-- all candidates, or a rule with which a rewriting is too wide
abbrev pub DoesRewrite : List Rule → Query → Result (Vec Candidate) Fault → Type 0
DoesRewrite rules q (Ok candidates) = AreFound rules q candidates.items
DoesRewrite rules q (Err (Wide rule count)) = HasWideStep rules q rule count
DoesRewrite rules q (Err Memory) = Unit {0}

-- the candidates with one more rule, or a rewriting with it that is too wide
abbrev pub DoesRewriteWith : List Rule → List ℕ → ℕ → Query → Result (Unit {0}) Fault → List Candidate → Type 0
DoesRewriteWith rules numbers place q (Ok done) candidates = AreFoundBefore rules numbers (place + 1) q candidates
DoesRewriteWith rules numbers place q (Err (Wide rule count)) candidates = HasWideStep rules q rule count
DoesRewriteWith rules numbers place q (Err Memory) candidates = Unit {0}

-- no store has taken the report, and it is on the query, under the problem
pub record IsUnspentOn (problem : Problem) (q : Query) (report : Report) : Type 0 where
  pub problem_of : report.problem ≡ problem
  pub query_of : report.query ≡ q
  pub unspent : report.spent ≡ false
