use Rattle.std.proofs.Common.{◌≡◌, ◌∙◌, Some}
use Rattle.clap.specs.Matches.{found_of, matched_of}
use Rattle.clap.specs.declared.parser.matches.ValueSource.TheVariants.{DefaultValue}
use Rattle.ucq_words.proofs.Given.{is_given-used, default-unused, other-used}
use Rattle.ucq_words.proofs.command.is_given.Goals as goal
use Rattle.ucq_words.proofs.command.is_given.Goals.{in_default-via-in-Some+in_default, in_default-via-in_default}

pub returns-in-Some-DefaultValue : goal.returns-in-Some-DefaultValue
returns-in-Some-DefaultValue c =
    default-unused (matched_of (found_of c.args.found.now) c.args.name.now) (cc)
    ∙ is_given-used (found_of c.args.found.now) c.args.name.now

pub returns-in_default : goal.returns-in_default
returns-in_default c =
    c.contains_id.ensures
    ∙ other-used (matched_of (found_of c.args.found.now) c.args.name.now) (λ e.
    let default : c.value_source.result ≡ Some DefaultValue = c.value_source.ensures ∙ e in
    elim c.in_default.branch [
      | in_default-via-in-Some+in_default w ↦
          let source = w.in_default.ensures in
          let is = w.in_default.is in
          cc
      | in_default-via-in_default w ↦
          let is = w.in_default.is in
          cc
    ])
    ∙ is_given-used (found_of c.args.found.now) c.args.name.now
