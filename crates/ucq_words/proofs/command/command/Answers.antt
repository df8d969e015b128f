use Rattle.std.proofs.Common.{ap₂, ◌∙◌}
use Rattle.std.proofs.lemmas.Result.{IfOk-weaker}
use Rattle.clap.specs.Simple.{with_rule}
use Rattle.ucq_words.proofs.command.command.Goals as goal

pub returns : goal.returns
returns c = IfOk-weaker c.arg-6.result _ _ (λ r h. h.shape c.files_arg.ensures.local
    ∙ ap₂ with_rule (c.in_ok-arg-5.ensures.shape c.flag_arg-2.ensures.local
    ∙ ap₂ with_rule (c.in_ok-arg-4.ensures.shape c.flag_arg.ensures.local
    ∙ ap₂ with_rule (c.in_ok-arg-3.ensures.shape c.option_arg-3.ensures.local
    ∙ ap₂ with_rule (c.in_ok-arg-2.ensures.shape c.option_arg-2.ensures.local
    ∙ ap₂ with_rule (c.in_ok-arg.ensures.shape c.option_arg.ensures.local
    ∙ ap₂ with_rule c.bare_command.ensures c.option_arg.ensures.rule) c.option_arg-2.ensures.rule) c.option_arg-3.ensures.rule) c.flag_arg.ensures.rule) c.flag_arg-2.ensures.rule) c.files_arg.ensures.rule) c.arg-6.ensures
