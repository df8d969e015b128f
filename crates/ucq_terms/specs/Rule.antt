-- What every rule keeps.
use Rattle.std.specs.Prelude.{◌≡◌, ℕ, ◌<◌, ◌≤◌, length}
use Rattle.ucq_terms.specs.declared.Term.TheVariants.{Variable}
use Rattle.ucq_terms.specs.Syntax.{Rule, OccursIn}
use Rattle.ucq_terms.specs.Numbering.{rule_order, numbered_rule}

-- a head and a body of 1 to 32 atoms, and variables below 1,024
pub record IsKeptRule (r : Rule) : Type 0 where
  pub some_heads : 0 < length r.heads
  pub few_heads : length r.heads ≤ 32
  pub some_body : 0 < length r.body
  pub few_body : length r.body ≤ 32
  pub head_variables : (v : ℕ) → OccursIn r.heads (Variable v) → v < 1024
  pub body_variables : (v : ℕ) → OccursIn r.body (Variable v) → v < 1024

-- the second rule is the first one with its variables numbered, of which there are not too many
pub record IsNumberedRule (r numbered : Rule) : Type 0 where
  pub same : numbered ≡ numbered_rule r
  pub few : length (rule_order r) ≤ 1024
