-- The statement has no variables, so no unknown values come.
use Rattle.std.proofs.Common.{refl, ◌∙◌}
use Rattle.ucq_reader.proofs.Making.{pair_added}
use Rattle.ucq_reader.proofs.made.Parts.push_pair.Goals as goal

pub returns : goal.returns
returns c =
    let added =
    pair_added c.args.i c.self.inside.names c.binary.new.names c.unary.new.names c.as_slice.result.now c.as_bytes.result.now c.as_bytes-2.result.now c.as_bytes-3.result.now c.as_bytes-4.result.now
    c.in_ok-pair.pair c.in_ok-class.class c.self.inside.facts.items c.push.new.self.items c.push-2.new.self.items c.as_slice.ensures (c.as_bytes.ensures.value ∙ c.in_ok-u.ensures)
    (c.as_bytes-2.ensures.value ∙ c.in_ok-v.ensures) (c.as_bytes-3.ensures.value ∙ c.in_ok-c.ensures) (c.as_bytes-4.ensures.value ∙ c.in_ok-v.ensures) c.in_ok-pair.ensures.names
    c.in_ok-pair.ensures.atom c.in_ok-class.ensures.names c.in_ok-class.ensures.atom c.in_ok-push.ensures.items c.in_ok-push-2.ensures.items in
    rw (← c.self.view_is) (record { names = added.names; rules = refl; facts = added.facts; unknowns = refl; queries = refl; asked = refl })
