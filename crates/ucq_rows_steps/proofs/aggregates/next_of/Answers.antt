use Rattle.std.proofs.Common.{◌≡◌, subst, sym, Option, Ok, Some}
use Rattle.ucq_terms.specs.declared.Term.TheVariants.{Variable}
use Rattle.ucq_terms.specs.Syntax.{Query, Rule, OccursIn}
use Rattle.ucq_join.specs.Names.{Named}
use Rattle.ucq_join.specs.Walk.{Walk, Advances, MovesTo}
use Rattle.ucq_rows_steps.proofs.aggregates.next_of.Goals as goal

-- the walk goes on where a step gives a set
goes_on : (before after : Walk) (given : Option Named) (j : Named) → given ≡ Some j → Advances before after (Ok given) → MovesTo before after j
goes_on before after given j e s = subst (λ (o : Option Named). Advances before after (Ok o)) e s

pub names_of-requires-clause-query : goal.names_of-requires-clause-query
names_of-requires-clause-query c =
    let G : MovesTo c.args.joins.now c.next.new.self c.in-Some.joined =
    goes_on c.args.joins.now c.next.new.self c.in_ok-joined.field-0 c.in-Some.joined c.in-Some.is c.in_ok-joined.ensures in
    λ v o. G.names.of_query v (subst (λ (q : Query). OccursIn q.atoms (Variable v)) (sym c.requires.query) o)

pub names_of-requires-clause-heads : goal.names_of-requires-clause-heads
names_of-requires-clause-heads c =
    let G : MovesTo c.args.joins.now c.next.new.self c.in-Some.joined =
    goes_on c.args.joins.now c.next.new.self c.in_ok-joined.field-0 c.in-Some.joined c.in-Some.is c.in_ok-joined.ensures in
    λ v o. G.names.of_heads v (subst (λ (r : Rule). OccursIn r.heads (Variable v)) (sym c.requires.rule) o)
