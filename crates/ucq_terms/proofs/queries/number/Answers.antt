-- The answers are numbered first, and then the atoms, by one order.
use Rattle.std.proofs.Common.{◌≡◌, ap, ◌∙◌, arith, length, []}
use Rattle.ucq_terms.specs.Numbering.{order_with}
use Rattle.ucq_terms.proofs.Normal.{IsNumberedFrom-made}
use Rattle.ucq_terms.proofs.queries.number.Goals as goal

pub returns : goal.returns
returns c =
    let empty : c.in_ok-order.order.keys ≡ [] = c.in_ok-order.ensures.empty in
    let none : length c.in_ok-order.order.keys ≡ 0 = ap length empty in
    let terms_done = c.in_ok-number_terms.ensures in
    let atoms_done = c.in_ok-number_atoms.ensures in
    IsNumberedFrom-made (record { answers = c.args.answers.now; atoms = c.args.atoms.now }) c.number_terms.new.order.keys c.number_atoms.new.order.keys
    c.number_terms.new.terms c.number_atoms.new.atoms
    (record {
      first_is = terms_done.order ∙ ap (λ o. order_with o c.args.answers.now) empty;
      last_is = atoms_done.order;
      answers_are = terms_done.terms;
      atoms_are = atoms_done.atoms;
      few_first = omega (arith, terms_done.few, none);
      few_last = omega (arith, atoms_done.few);
    })
    c.requires.few_answers c.requires.few_atoms
