use Rattle.std.proofs.Common.{◌≡◌, Option, Some, Ok, subst}
use Rattle.ucq_join.specs.Names.{Named}
use Rattle.ucq_join.specs.Walk.{Walk, Advances, MovesTo}
use Rattle.ucq_step.proofs.Walking.{ArePieces-single, AreCoresUpTo-next}
use Rattle.ucq_step.proofs.add_next.Goals as goal

-- the walk goes on where a step gives a set
goes_on : (before after : Walk) (given : Option Named) (j : Named) → given ≡ Some j → Advances before after (Ok given) → MovesTo before after j
goes_on before after given j e s = subst (λ (o : Option Named). Advances before after (Ok o)) e s

pub rewrite-requires-clause-pieces : goal.rewrite-requires-clause-pieces
rewrite-requires-clause-pieces c = ArePieces-single c.args.query.now c.args.rule.now c.args.pieces.now c.requires.single

pub returns-clause-so_far : goal.returns-clause-so_far
returns-clause-so_far c =
    let before = c.args.joins.now in
    let after = c.next.new.self in
    let j = c.in-Some.joined in
    record {
      have = c.in_ok-add_core.ensures.have;
      up_to =
          AreCoresUpTo-next before after j c.args.query.now c.args.rule.now c.args.pieces.now c.requires.walks
          (goes_on before after c.in_ok-joined.field-0 j c.in-Some.is c.in_ok-joined.ensures) c.in_ok-rewriting.rewriting c.args.found.now.cores c.add_core.new.cores
          c.in_ok-rewriting.ensures c.in_ok-add_core.ensures.added c.requires.so_far.up_to;
    }
