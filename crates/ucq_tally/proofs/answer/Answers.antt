use Rattle.ucq_words.specs.Settings.{settings_value}
use Rattle.ucq_tally.proofs.Asked.{job_within}
use Rattle.ucq_tally.proofs.answer.Goals as goal

pub input_of-requires : goal.input_of-requires
input_of-requires c = job_within _ (settings_value c.in_ok-settings.settings) c.in_ok-settings.ensures
