-- The numbered places are those of all atoms.
use Rattle.std.proofs.Common.{◌≡◌, length, ap, rules}
use Rattle.std.proofs.lemmas.Result.{on_ok_weaker}
use Rattle.ucq_hom.specs.Search.{IsOrder}
use Rattle.ucq_hom.proofs.Ordered.{IsOrder-numbered}
use Rattle.ucq_eval.proofs.Given.{AreReached-order}
use Rattle.ucq_eval.proofs.Branches.{IsCollected-found}
use Rattle.ucq_eval.proofs.join.collect.Goals as goal

pub explore-requires-clause-reached : goal.explore-requires-clause-reached
explore-requires-clause-reached c =
    let q = c.args.query.now in
    let size : length c.number.new.places ≡ length q.atoms = let e = ap length c.atoms.ensures.atoms in let k = c.number.auto.places in search rules in
    AreReached-order c.clear.new.self q c.number.new.places c.atoms.ensures.stored (IsOrder-numbered q.atoms c.number.new.places size c.number.ensures)

pub returns : goal.returns
returns c =
    let q = c.args.query.now in
    let size : length c.number.new.places ≡ length q.atoms = let e = ap length c.atoms.ensures.atoms in let k = c.number.auto.places in search rules in
    let order : IsOrder q.atoms c.number.new.places = IsOrder-numbered q.atoms c.number.new.places size c.number.ensures in
    on_ok_weaker c.explore.result (λ f. IsCollected-found c.clear.new.self q c.number.new.places c.args.facts.now _ _ c.clear.ensures order f) c.explore.ensures.found
