-- The statuses of outcomes, and their lines on the error stream.
use Rattle.std.specs.Prelude.{ℕ, List, [], ◌++◌, codes, decimal}
use Rattle.ucq_print.specs.Refusals.{refusal_line}
use Rattle.ucq_run.specs.declared.outcome.Outcome.{Outcome}
use Rattle.ucq_run.specs.declared.outcome.Outcome.TheVariants as outcomes

-- the line of an outcome: nothing where the run is finished or cut
abbrev pub outcome_line : Outcome → List ℕ
outcome_line outcomes.Finished = []
outcome_line outcomes.Cut = []
outcome_line outcomes.NoMemory = codes "ucq: out of memory\n"
outcome_line outcomes.BadWords = codes "ucq: usage: ucq [--workers N] [--budget N] [--answers] [MODE] FILE... or ucq [--workers N] [--budget N] --make N\n"
outcome_line (outcomes.ReadFault file at) = codes "ucq: read fault in file " ++ decimal file ++ codes " at byte " ++ decimal at ++ codes "\n"
outcome_line (outcomes.TooLong file) = codes "ucq: files too long at file " ++ decimal file ++ codes "\n"
outcome_line (outcomes.Refused fault) = refusal_line fault
outcome_line outcomes.WriteFault = codes "ucq: write fault\n"

abbrev pub status_of : Outcome → ℕ
status_of outcomes.Finished = 0
status_of outcomes.NoMemory = 1
status_of outcomes.BadWords = 2
status_of (outcomes.ReadFault file at) = 3
status_of (outcomes.TooLong file) = 4
status_of (outcomes.Refused fault) = 4
status_of outcomes.Cut = 5
status_of outcomes.WriteFault = 6
