use Rattle.std.proofs.Common.{◌≡◌, List, map, ap, ◌∙◌, subst}
use Rattle.ucq_terms.specs.Syntax.{Atom}
use Rattle.ucq_terms.specs.Query.{IsQueryFault}
use Rattle.ucq_terms.specs.Unifier.{atom_at}
use Rattle.ucq_fold.proofs.Forms.{AreIsomorphic-made, not_loose-made, not_wide-made}
use Rattle.ucq_fold.proofs.normal.normal_form.Goals as goal

pub unreachable-requires : goal.unreachable-requires
unreachable-requires c =
    let q = c.args.query.now in
    let order = c.arrange.new.order in
    let same : c.in_ok-atoms.atoms.items ≡ map (atom_at q.atoms) order =
    c.in_ok-atoms.ensures ∙ ap (λ (xs : List Atom). map (atom_at xs) order) c.atoms-2.ensures.atoms in
    not_wide-made q c.atoms.ensures.stored order c.arrange.ensures.order c.arrange.ensures.length c.in_ok-answers.answers.items c.in_ok-atoms.atoms.items
    (c.in_ok-answers.ensures.items ∙ c.answers.ensures.answers) same c.in-Err-TooManyAtoms.field-0-0
    (subst (IsQueryFault (record { answers = c.in_ok-answers.answers.items; atoms = c.in_ok-atoms.atoms.items })) c.in-Err-TooManyAtoms.field-0-is
    c.in-Err-TooManyAtoms.ensures.fault)

pub unreachable-requires-in-Err-Unsafe : goal.unreachable-requires-in-Err-Unsafe
unreachable-requires-in-Err-Unsafe c =
    let q = c.args.query.now in
    let order = c.arrange.new.order in
    let same : c.in_ok-atoms.atoms.items ≡ map (atom_at q.atoms) order =
    c.in_ok-atoms.ensures ∙ ap (λ (xs : List Atom). map (atom_at xs) order) c.atoms-2.ensures.atoms in
    not_loose-made q c.atoms.ensures.stored order c.arrange.ensures.order c.arrange.ensures.length c.in_ok-answers.answers.items c.in_ok-atoms.atoms.items
    (c.in_ok-answers.ensures.items ∙ c.answers.ensures.answers) same c.in-Err-Unsafe.field-0-0
    (subst (IsQueryFault (record { answers = c.in_ok-answers.answers.items; atoms = c.in_ok-atoms.atoms.items })) c.in-Err-Unsafe.field-0-is
    c.in-Err-Unsafe.ensures.fault)

pub returns-in-Ok : goal.returns-in-Ok
returns-in-Ok c =
    let q = c.args.query.now in
    let order = c.arrange.new.order in
    let same : c.in_ok-atoms.atoms.items ≡ map (atom_at q.atoms) order =
    c.in_ok-atoms.ensures ∙ ap (λ (xs : List Atom). map (atom_at xs) order) c.atoms-2.ensures.atoms in
    AreIsomorphic-made q c.atoms.ensures.stored order c.arrange.ensures.order c.arrange.ensures.length c.in_ok-answers.answers.items c.in_ok-atoms.atoms.items
    (c.in_ok-answers.ensures.items ∙ c.answers.ensures.answers) same c.in-Ok.form c.in-Ok.ensures.query
