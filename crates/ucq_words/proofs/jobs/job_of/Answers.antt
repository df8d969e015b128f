use Rattle.std.proofs.Common.{rules, ◌≡◌, map, subst, Some, codes, List, Option}
use Rattle.clap.specs.Walk.{Text, first_of, rows_of}
use Rattle.clap.specs.Matches.{found_of}
use Rattle.ucq_words.specs.Command.{files_in}
use Rattle.ucq_words.specs.Settings.{AnswersJob}
use Rattle.ucq_words.proofs.jobs.job_of.Goals as goal

pub returns-in-Some : goal.returns-in-Some
returns-in-Some c =
    let rows = rows_of (found_of c.args.found.now) in
    let value : Some c.in-Some.digits.now ≡ first_of (codes "make") rows = c.in-Some.ensures in
    let names : map (λ name. name.now) c.unwrap_or-names.result.now ≡ files_in rows = search rules in
    subst (λ (given : List Text). AnswersJob (first_of (codes "make") rows) given c.args.more c.making.result) names
    (subst (λ (v : Option Text). AnswersJob v (map (λ name. name.now) c.unwrap_or-names.result.now) c.args.more c.making.result) value c.making.ensures)
