-- The head is numbered first, and then the body, by one order.
use Rattle.std.proofs.Common.{◌≡◌, ap, ◌∙◌, arith, length, []}
use Rattle.ucq_terms.specs.Numbering.{order_with, terms_of}
use Rattle.ucq_terms.proofs.NumberedRules.{IsNumberedRule-made}
use Rattle.ucq_terms.proofs.rules.number.Goals as goal

pub returns : goal.returns
returns c =
    let empty : c.in_ok-order.order.keys ≡ [] = c.in_ok-order.ensures.empty in
    let none : length c.in_ok-order.order.keys ≡ 0 = ap length empty in
    let heads_done = c.in_ok-number_atoms.ensures in
    let body_done = c.in_ok-number_atoms-2.ensures in
    IsNumberedRule-made (record { heads = c.args.heads.now; body = c.args.body.now }) c.number_atoms.new.order.keys c.number_atoms-2.new.order.keys
    c.number_atoms.new.atoms c.number_atoms-2.new.atoms
    (record {
      first_is = heads_done.order ∙ ap (λ o. order_with o (terms_of c.args.heads.now)) empty;
      last_is = body_done.order;
      heads_are = heads_done.atoms;
      body_are = body_done.atoms;
      few_first = omega (arith, heads_done.few, none);
      few_last = omega (arith, body_done.few);
    })
    c.requires.few_heads c.requires.few_body
