use Rattle.ucq_run.proofs.parts.print_section.Goals as goal

pub returns-in-Plain-clause-prints : goal.returns-in-Plain-clause-prints
returns-in-Plain-clause-prints g c = λ facts about. rw (c.in-Plain.is) (c.print_plain.ensures.prints facts about)

pub returns-in-Within-clause-prints : goal.returns-in-Within-clause-prints
returns-in-Within-clause-prints g c = λ facts about. rw (c.in-Within.is) (c.print_compared.ensures.prints facts about)
