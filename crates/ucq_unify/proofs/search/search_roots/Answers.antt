use Rattle.std.proofs.Common.{◌≡◌, ℕ, List, length, refl, sym, ap, ◌∙◌, subst, arith, Option}
use Rattle.ucq_unify.specs.inner.Sides.{AreNumbered}
use Rattle.ucq_unify.specs.inner.Search.{HasBranched, HasRooted}
use Rattle.ucq_unify.specs.inner.Growing.{IsOpen}
use Rattle.ucq_unify.proofs.Choices.{no_heads-no_pairs}
use Rattle.ucq_unify.proofs.Growth.{grown_first}
use Rattle.ucq_unify.proofs.Found.{all_rooted}
use Rattle.ucq_unify.proofs.Searched.{has_rooted_none, has_rooted_more}
use Rattle.ucq_unify.proofs.search.search_roots.Goals as goal

pub loop-root-init : goal.loop-root-init
loop-root-init c = record {
  numbers = refl;
  choice = refl;
  found = has_rooted_none c.args.sides.now.query.now c.args.sides.now.rule.now c.args.found.now.items c.requires.none;
}

pub branch-classes-requires-clause-sides : goal.branch-classes-requires-clause-sides
branch-classes-requires-clause-sides c =
    subst (AreNumbered c.args.sides.now.query.now c.args.sides.now.rule.now c.args.sides.now.existential.items) (sym c.loop-root.invariant.numbers) c.requires.sides

pub branch-classes-requires-clause-open : goal.branch-classes-requires-clause-open
branch-classes-requires-clause-open c =
    let q = c.args.sides.now.query.now in
    let r = c.args.sides.now.rule.now in
    let choice = c.args.choice.now in
    let root = c.loop-root.root in
    let n = ap length c.atoms.ensures.atoms in
    let open_root : IsOpen q r root choice root =
    record {
      within = omega (arith, n);
      free = c.requires.empty.none root;
      grown = λ head k. grown_first q r root head choice (no_heads-no_pairs choice c.requires.empty.none) k;
    } in
    subst (λ (xs : List (Option ℕ)). IsOpen q r root xs root) (sym c.loop-root.invariant.choice) open_root

pub loop-root-preserved : goal.loop-root-preserved
loop-root-preserved c =
    let q = c.args.sides.now.query.now in
    let r = c.args.sides.now.rule.now in
    let root = c.loop-root.root in
    record {
      numbers = c.branch-classes.ensures.numbers ∙ c.loop-root.invariant.numbers;
      choice = c.in_ok-branch.ensures.choice ∙ c.loop-root.invariant.choice;
      found = has_rooted_more q r root c.args.choice.now c.loop-root.found.items c.branch-classes.new.found.items c.requires.empty.none c.loop-root.invariant.found
          (subst (λ (xs : List (Option ℕ)). HasBranched q r root xs root (length r.heads) c.loop-root.found.items c.branch-classes.new.found.items)
          c.loop-root.invariant.choice c.in_ok-branch.ensures.found);
    }

pub returns : goal.returns
returns c =
    let n = ap length c.atoms.ensures.atoms in
    let all : c.loop-root.root ≡ length c.args.sides.now.query.now.atoms = omega (arith, n) in
    all_rooted c.args.sides.now.query.now c.args.sides.now.rule.now c.loop-root.found.items
    (subst (λ (k : ℕ). HasRooted c.args.sides.now.query.now c.args.sides.now.rule.now k c.loop-root.found.items) all c.loop-root.invariant.found).rooted
