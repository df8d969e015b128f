-- What is asked, and why nothing is.
use Rattle.std.specs.Prelude.{◌≡◌, ◌≢◌, ◌<◌, ◌≤◌, ◌+◌, ℕ, List, length, All, Result, Ok, Err}
use Rattle.ucq_terms.specs.declared.TheConstants.{QUERIES, ROWS, RULES}
use Rattle.ucq_terms.specs.Syntax.{Atom, Problem, Query, Rule}
use Rattle.ucq_chase.specs.Names.{AreHeldAtoms, IsHeldQuery, IsHeldRule}
use Rattle.ucq_reader.specs.declared.input.Asked.{Asked}
use Rattle.ucq_reader.specs.Input.{InputValue}
use Rattle.ucq_words.specs.declared.values.Mode.{Mode}
use Rattle.ucq_words.specs.declared.values.Mode.TheVariants.{Plain, Within}
use Rattle.ucq_words.specs.Settings.{SettingsValue}
use Rattle.ucq_run.specs.declared.request.Request.{Request}
use Rattle.ucq_run.specs.declared.request.Shared.{Shared}
use Rattle.ucq_run.specs.declared.form.Form.TheVariants.{Queries}
use Rattle.ucq_run.specs.declared.outcome.Outcome.{Outcome}
use Rattle.ucq_run.specs.declared.outcome.Outcome.TheVariants.{Finished, Cut}
use Rattle.ucq_run.specs.Inputs.{Call, IsAsked}
use Rattle.ucq_run.specs.Causes.{IsCause}
use Rattle.ucq_run.specs.Finished.{AreFactsOf, Question}
use Rattle.ucq_run.specs.Parts.{Part, section, compared, parts_in, parts_of}
use Rattle.ucq_run.specs.Printed.{IsEarly}

-- a problem about these facts, as a question
abbrev pub question_in : Shared → Problem → List Atom → Question
question_in s problem facts = record { form = s.form; names = s.names; problem = problem; facts = facts; budget = s.budget }

-- the problem of the rules and one of the queries
abbrev pub problem_with : List Rule → Query → Problem
problem_with rules query = record { rules = rules; query = query }

-- a query under these rules about these facts, as a question
abbrev pub question_for : Shared → List Rule → List Atom → Query → Question
question_for s rules facts query = question_in s (problem_with rules query) facts

-- what is asked with these rules and queries about these facts, as parts
abbrev pub parts_for : Shared → List Rule → List Asked → List Atom → List Part
parts_for s rules all facts = parts_in s.mode all rules (question_for s rules facts) s.names s.budget

abbrev pub parts_asked : Request → List Atom → List Part
parts_asked r facts = parts_for r.shared r.rules.items r.queries.items facts

-- the section of the query of a number, in a mode
abbrev pub section_with : Mode → List ℕ → Question → ℕ → List Asked → Part
section_with Plain header q number all = section header q
section_with Within header q number all = compared header q number all

-- the rules come back, where the run goes on
abbrev pub BringsBack : Outcome → List Rule → List Rule → Type 0
BringsBack Finished rules back = back ≡ rules
BringsBack Cut rules back = back ≡ rules
BringsBack _ rules back = Unit {0}

-- how many parts there are
abbrev pub part_count : Mode → List Asked → List Rule → ℕ
part_count Plain queries rules = length queries
part_count Within queries rules = length queries + length rules

-- These are the facts that are asked about: where answers are asked for, the index has just these, and each predicate and
-- constant of them has a name.
pub record AsksAbout (s : Shared) (facts : List Atom) : Type 0 where
  pub indexed : s.form ≢ Queries → AreFactsOf facts s.facts
  pub held : AreHeldAtoms (length s.names) facts

-- 1 to 65,536 rows, and 1 to 64 workers
pub record IsWithinLimits (s : Shared) : Type 0 where
  pub some : 0 < s.budget
  pub small : s.budget ≤ ROWS
  pub one : 0 < s.workers
  pub few : s.workers ≤ 64

-- at most 4,096 rules and 64 queries, each predicate and constant of which has a name
pub record AreHeldIn (count : ℕ) (all_rules : List Rule) (all_queries : List Asked) : Type 0 where
  pub few_rules : length all_rules ≤ RULES
  pub few_queries : length all_queries ≤ QUERIES
  pub rules : All (IsHeldRule count) all_rules
  pub queries : All (λ (asked : Asked). IsHeldQuery count asked.query) all_queries

pub record AreWithinLimits (r : Request) : Type 0 where
  pub shared : IsWithinLimits r.shared
  pub held : AreHeldIn (length r.shared.names) r.rules.items r.queries.items

-- The words stand for settings whose job has an input, and this is what they ask of it.
pub record Asks (call : Call) (r : Request) : Type 0 where
  pub settings : SettingsValue
  pub input : InputValue
  pub asked : IsAsked call settings input
  pub parts : parts_asked r input.facts ≡ parts_of settings input
  pub about : AsksAbout r.shared input.facts
  pub within : AreWithinLimits r

-- what is asked, or the outcome, which has its cause and comes before anything is printed
abbrev pub IsPrepared : Call → Result Request Outcome → Type 0
IsPrepared call (Ok r) = Asks call r
IsPrepared call (Err outcome) = IsCause call outcome × IsEarly outcome
