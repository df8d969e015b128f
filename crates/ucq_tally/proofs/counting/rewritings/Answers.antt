use Rattle.std.proofs.Common.{◌≡◌, ℕ, List, [], refl, sym, ap, ◌∙◌, subst, inl, inr, true, false, Option, Ok, Some, None}
use Rattle.std.specs.Option.{is_some}
use Rattle.ucq_terms.specs.Syntax.{Query, Rule}
use Rattle.ucq_unify.specs.Pieces.{AreSinglePieces}
use Rattle.ucq_join.specs.Names.{Named}
use Rattle.ucq_join.specs.Walk.{Walk, Advances, IsLast, MovesTo}
use Rattle.ucq_step.proofs.Walking.{ArePieces-single, WalksIn-next, stands-next, left_of-less}
use Rattle.ucq_tally.proofs.Walked.{HasCounted-start, HasCounted-next, HasRewritings-end}
use Rattle.ucq_tally.proofs.counting.rewritings.Goals as goal

-- the walk goes on where a step gives a set
goes_on : (before after : Walk) (given : Option Named) → is_some given ≡ true → Advances before after (Ok given) → (j : Named) × MovesTo before after j
goes_on before after None e s = absurd (cc)
goes_on before after (Some j) e s = (j, s)

-- and it is at its end where a step gives none
ended : (before after : Walk) (given : Option Named) → is_some given ≡ false → Advances before after (Ok given) → IsLast before
ended before after None e s = s.0
ended before after (Some j) e s = absurd (cc)

-- the pieces of the walk
single : (q : Query) (rule : Rule) (items slice walked : List (List (ℕ × ℕ))) → AreSinglePieces q rule items → slice ≡ items → walked ≡ slice → AreSinglePieces q rule walked
single q rule items slice walked S e f = subst (AreSinglePieces q rule) (sym (f ∙ e)) S

pub new-requires : goal.new-requires
new-requires c =
    ArePieces-single c.args.query.now c.args.rule.now c.as_slice.result.now
    (single c.args.query.now c.args.rule.now c.in_ok-pieces.pieces.items c.as_slice.result.now c.as_slice.result.now c.in_ok-pieces.ensures
    c.as_slice.ensures.value refl)

pub loop-joins-init : goal.loop-joins-init
loop-joins-init c =
    let w = c.in_ok-joins.joins in
    let start : w.present ≡ [] = ap (λ (w : Walk). w.present) c.in_ok-joins.ensures in
    record {
      walks = record {
        same_query = ap (λ (w : Walk). w.query) c.in_ok-joins.ensures;
        same_rule = ap (λ (w : Walk). w.rule) c.in_ok-joins.ensures;
        same_pieces = refl;
      };
      here = inl start;
      counted = HasCounted-start w start;
    }

pub loop-joins-smaller : goal.loop-joins-smaller
loop-joins-smaller c =
    let w = c.in_ok-joins.joins in
    let G = goes_on c.loop-joins.joins c.next.new.self c.in_ok-next.field-0 (sym c.is_some.ensures ∙ c.if-is_some.true) c.in_ok-next.ensures in
    left_of-less c.loop-joins.joins c.next.new.self G.0 c.args.query.now c.args.rule.now w.pieces c.loop-joins.invariant.walks G.1
    (single c.args.query.now c.args.rule.now c.in_ok-pieces.pieces.items c.as_slice.result.now w.pieces c.in_ok-pieces.ensures c.as_slice.ensures.value
    (ap (λ (w : Walk). w.pieces) c.in_ok-joins.ensures))
    c.loop-joins.invariant.here

pub loop-joins-preserved : goal.loop-joins-preserved
loop-joins-preserved c =
    let w = c.in_ok-joins.joins in
    let q = c.args.query.now in
    let r = c.args.rule.now in
    let before = c.loop-joins.joins in
    let after = c.next.new.self in
    let G = goes_on before after c.in_ok-next.field-0 (sym c.is_some.ensures ∙ c.if-is_some.true) c.in_ok-next.ensures in
    record {
      walks = WalksIn-next before after G.0 q r w.pieces c.loop-joins.invariant.walks G.1;
      here = inr (stands-next before after G.0 q r w.pieces c.loop-joins.invariant.walks G.1);
      counted = HasCounted-next before after G.0 c.loop-joins.count c.saturating_add-count.result G.1 c.saturating_add-count.ensures c.loop-joins.invariant.counted;
    }

pub returns : goal.returns
returns c =
    let w = c.in_ok-joins.joins in
    let S =
    single c.args.query.now c.args.rule.now c.in_ok-pieces.pieces.items c.as_slice.result.now w.pieces c.in_ok-pieces.ensures c.as_slice.ensures.value
    (ap (λ (w : Walk). w.pieces) c.in_ok-joins.ensures) in
    let L = ended c.loop-joins.joins c.next.new.self c.in_ok-next.field-0 (sym c.is_some.ensures ∙ c.if-is_some.false) c.in_ok-next.ensures in
    HasRewritings-end c.loop-joins.joins c.args.query.now c.args.rule.now w.pieces c.loop-joins.count c.loop-joins.invariant.walks S L c.loop-joins.invariant.counted
