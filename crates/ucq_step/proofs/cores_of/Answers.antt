use Rattle.std.proofs.Common.{◌≡◌, ℕ, Bool, true, false, List, [], Contains, Ok, sym, ap, subst, inl, inr}
use Rattle.ucq_terms.specs.Syntax.{Query, Rule}
use Rattle.ucq_join.specs.Names.{Named}
use Rattle.ucq_join.specs.Walk.{Walk, MovesTo, IsLast}
use Rattle.ucq_step.specs.Steps.{AreCoresUpTo}
use Rattle.ucq_step.specs.inner.Walked.{AreFoundTo, DoesAddNext}
use Rattle.ucq_terms.proofs.Lists.{Contains-empty}
use Rattle.ucq_step.proofs.Cores.{HaveCores-none}
use Rattle.ucq_step.proofs.Stepped.{AreCoresUpTo-none}
use Rattle.ucq_step.proofs.Walking.{WalksIn-next, stands-next, left_of-less, AreSteps-end}
use Rattle.ucq_step.proofs.cores_of.Goals as goal

-- where there was a next set, the walk went on to it
went_on : (before after : Walk) (q : Query) (rule : Rule) (more : Bool) → more ≡ true → DoesAddNext before after q rule (Ok more) → (j : Named) × MovesTo before after j
went_on before after q rule more e D = subst (λ (more : Bool). DoesAddNext before after q rule (Ok more)) e D

-- where there was none, it is at its end
ended : (before after : Walk) (q : Query) (rule : Rule) (more : Bool) → more ≡ false → DoesAddNext before after q rule (Ok more) → IsLast before × (after ≡ before)
ended before after q rule more e D = subst (λ (more : Bool). DoesAddNext before after q rule (Ok more)) e D

pub loop-found-init : goal.loop-found-init
loop-found-init c =
    let w = c.in_ok-joins.joins in
    let start : w.present ≡ [] = ap (λ (w : Walk). w.present) c.in_ok-joins.ensures in
    record {
      clear = c.requires.clear;
      walks = record {
        same_query = ap (λ (w : Walk). w.query) c.in_ok-joins.ensures;
        same_rule = ap (λ (w : Walk). w.rule) c.in_ok-joins.ensures;
        same_pieces = ap (λ (w : Walk). w.pieces) c.in_ok-joins.ensures;
      };
      here = inl start;
      so_far = record {
        have = HaveCores-none c.new-3.result c.new-2.result (λ form i. Contains-empty form (subst (λ (forms : List Query). Contains forms form) c.new-2.ensures i));
        up_to =
            subst (λ (cores : List Query). AreCoresUpTo w.query w.rule w.pieces w.present cores) (sym c.new-3.ensures)
            (subst (λ (present : List ℕ). AreCoresUpTo w.query w.rule w.pieces present []) (sym start) (AreCoresUpTo-none w.query w.rule w.pieces));
      };
    }

pub add_next-requires-clause-walks : goal.add_next-requires-clause-walks
add_next-requires-clause-walks c = c.loop-found.invariant.walks

pub add_next-requires-clause-so_far : goal.add_next-requires-clause-so_far
add_next-requires-clause-so_far c = c.loop-found.invariant.so_far

pub add_next-requires-clause-clear : goal.add_next-requires-clause-clear
add_next-requires-clause-clear c = c.loop-found.invariant.clear

pub loop-found-smaller : goal.loop-found-smaller
loop-found-smaller c =
    let q = c.args.query.now in
    let r = c.args.rule.now in
    let next = went_on c.loop-found.joins c.add_next.new.joins q r c.in_ok-add_next.field-0 c.if-branch.true c.in_ok-add_next.ensures.next in
    left_of-less c.loop-found.joins c.add_next.new.joins next.0 q r c.args.pieces.now c.loop-found.invariant.walks next.1 c.requires.single c.loop-found.invariant.here

pub loop-found-preserved : goal.loop-found-preserved
loop-found-preserved c =
    let q = c.args.query.now in
    let r = c.args.rule.now in
    let next = went_on c.loop-found.joins c.add_next.new.joins q r c.in_ok-add_next.field-0 c.if-branch.true c.in_ok-add_next.ensures.next in
    record {
      clear = c.add_next.ensures.clear;
      walks = WalksIn-next c.loop-found.joins c.add_next.new.joins next.0 q r c.args.pieces.now c.loop-found.invariant.walks next.1;
      here = inr (stands-next c.loop-found.joins c.add_next.new.joins next.0 q r c.args.pieces.now c.loop-found.invariant.walks next.1);
      so_far = c.in_ok-add_next.ensures.so_far;
    }

pub returns-clause-cores : goal.returns-clause-cores
returns-clause-cores c different =
    let q = c.args.query.now in
    let r = c.args.rule.now in
    let last = ended c.loop-found.joins c.add_next.new.joins q r c.in_ok-add_next.field-0 c.if-branch.false c.in_ok-add_next.ensures.next in
    let found : AreFoundTo c.loop-found.joins c.add_next.new.found.forms c.add_next.new.found.cores =
    subst (λ (w : Walk). AreFoundTo w c.add_next.new.found.forms c.add_next.new.found.cores) last.1 c.in_ok-add_next.ensures.so_far in
    AreSteps-end c.loop-found.joins q r c.args.pieces.now c.add_next.new.found.cores c.loop-found.invariant.walks c.requires.single last.0 different found.up_to
