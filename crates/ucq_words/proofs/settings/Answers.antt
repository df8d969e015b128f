use Rattle.std.proofs.Common.{rules, ◌≡◌, ◌||◌, ap, ap₂, ◌∙◌, sym, map, subst, Bool, List, codes, Err, Result, string_bytes}
use Rattle.clap.specs.Walk.{Row, first_of, rows_of}
use Rattle.clap.specs.Takes.{is_given}
use Rattle.clap.specs.Matches.{found_of}
use Rattle.ucq_words.specs.Settings.{AnswersWords, IsJob, asks_more, job_value, mode_by, settings_value}
use Rattle.ucq_words.specs.Command.{files_in}
use Rattle.ucq_words.specs.declared.values.Settings.{Settings}
use Rattle.ucq_words.specs.declared.WordsFault.{WordsFault}
use Rattle.ucq_words.proofs.Standing.{stand, no_job, number_read}
use Rattle.ucq_words.proofs.settings.Goals as goal

-- answers or a mode are asked for, by what clap's matches say
more : (b answers within : Bool) (rows : List Row) → b ≡ (answers || within) → answers ≡ is_given (codes "answers") rows → within ≡ is_given (codes "within") rows → b ≡ asks_more rows
more b answers within rows e f g = e ∙ ap₂ (λ (x y : Bool). x || y) f g

pub returns-in_err-job : goal.returns-in_err-job
returns-in_err-job c =
    let rows = rows_of (found_of c.in_ok-found.found) in
    let none = no_job (map (λ w. string_bytes w) c.args.words.now) rows c.either.result c.in_err-job.field-0.0 c.in_ok-found.ensures (more c.either.result c.is_given-answers.result c.is_given-within.result rows c.either.ensures c.is_given-answers.ensures c.is_given-within.ensures) c.in_err-job.ensures in
    let is : c.from_residual-in_err-job.result ≡ Err c.in_err-job.field-0.0 = search rules in
    subst (λ (r : Result Settings WordsFault). AnswersWords (map (λ w. string_bytes w) c.args.words.now) r) (sym is) none

pub returns : goal.returns
returns c =
    let rows = rows_of (found_of c.in_ok-found.found) in
    stand (map (λ w. string_bytes w) c.args.words.now) rows (settings_value (record { workers = c.in-Some-Some.workers; budget = c.in-Some-Some.budget; answers = c.is_given-answers.result; mode = c.mode_by.result; job = c.in_ok-job.job })) c.in_ok-found.ensures (record {
      workers = number_read _ 1 64 1 _ _ c.number_or-workers.result c.in-Some-Some.workers c.number_or-workers.ensures c.in-Some-Some.is-0 c.value_of.ensures;
      budget = number_read _ 1 65536 4096 _ _ c.number_or-budget.result c.in-Some-Some.budget c.number_or-budget.ensures c.in-Some-Some.is-1 c.value_of-2.ensures;
      answers = c.is_given-answers.ensures;
      mode = c.mode_by.ensures ∙ ap mode_by c.is_given-within.ensures;
      job = subst (λ (b : Bool). IsJob (first_of (codes "make") rows) (files_in rows) b (job_value c.in_ok-job.job))
          (more c.either.result c.is_given-answers.result c.is_given-within.result rows c.either.ensures c.is_given-answers.ensures c.is_given-within.ensures) c.in_ok-job.ensures;
    })
