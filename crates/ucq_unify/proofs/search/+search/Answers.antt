use Rattle.std.proofs.Common.{◌≡◌, ◌<◌, ◌≤◌, ◌+◌, ℕ, List, length, true, false, refl, sym, ap, ◌∙◌, subst, arith, Option, Some, None}
use Rattle.std.proofs.lemmas.List.{length-set}
use Rattle.std.proofs.lemmas.Result.{on_ok_weaker}
use Rattle.std.proofs.Common.{set}
use Rattle.ucq_terms.proofs.Lists.{length-positive}
use Rattle.ucq_classes.specs.Classes.{Labels}
use Rattle.ucq_unify.specs.inner.Sides.{AreNumbered}
use Rattle.ucq_unify.specs.inner.Growing.{pairs_of, with_head}
use Rattle.ucq_unify.specs.inner.Search.{HasFound, HasBranched}
use Rattle.ucq_unify.proofs.Choices.{free_places-with_head, with_head-newest, without_head}
use Rattle.ucq_unify.proofs.Growth.{grown_more}
use Rattle.ucq_unify.proofs.Searched.{found_none, found_closed, found_open, has_branched_none, has_branched_skip, has_branched_more}
use Rattle.ucq_unify.proofs.search.+search.Goals.{branch-then-fits+in_ok-try_head, branch-else-fits}
use Rattle.ucq_unify.proofs.search.+search.Goals as goal

pub branch-loop-head-init : goal.branch-loop-head-init
branch-loop-head-init t c = record {
  numbers = refl;
  choice = refl;
  found = has_branched_none c.args.sides.now.query.now c.args.sides.now.rule.now c.args.root c.args.choice.now c.args.place c.args.found.now.items;
}

pub branch-loop-head-preserved : goal.branch-loop-head-preserved
branch-loop-head-preserved t c =
    let q = c.args.sides.now.query.now in
    let r = c.args.sides.now.rule.now in
    let choice = c.args.choice.now in
    let place = c.args.place in
    let h = c.loop-head.head in
    let so_far = c.loop-head.invariant in
    let l : place < length choice = omega (arith, c.requires.length, c.requires.open.within) in
    elim c.if-fits.branch [
      | branch-then-fits+in_ok-try_head w ↦ record {
        numbers = ap (λ (v : Labels). v.numbers) w.classes-is ∙ (w.try_head.ensures.numbers ∙ so_far.numbers);
        choice = w.choice-is ∙ (w.in_ok-try_head.ensures.choice ∙ so_far.choice);
        found = has_branched_more q r c.args.root choice place h c.args.found.now.items c.loop-head.found.items c.if-fits.found.items l c.requires.open.free
            so_far.found
            (subst (λ (pieces : List (List (ℕ × ℕ))). HasFound q r c.args.root (with_head choice place h) c.loop-head.found.items pieces)
            (sym (ap (λ v. v.items) w.found-is))
            (subst (λ (xs : List (Option ℕ)). HasFound q r c.args.root (with_head xs place h) c.loop-head.found.items w.try_head.new.found.items) so_far.choice
            w.in_ok-try_head.ensures.found));
      }
      | branch-else-fits w ↦ record {
        numbers = ap (λ (v : Labels). v.numbers) w.classes-is ∙ so_far.numbers;
        choice = w.choice-is ∙ so_far.choice;
        found = subst (λ (pieces : List (List (ℕ × ℕ))). HasBranched q r c.args.root choice place (h + 1) c.args.found.now.items pieces)
            (sym (ap (λ v. v.items) w.found-is))
            (has_branched_skip q r c.args.root choice place h c.args.found.now.items c.loop-head.found.items
            (λ k. let e : false ≡ true = sym w.if-fits.false ∙ c.fits.ensures.1 k in cc) so_far.found);
      }
    ]

pub search-keep-requires : goal.search-keep-requires
search-keep-requires t c = let few : length c.args.sides.now.query.now.atoms ≤ 128 = c.requires.sides.few_atoms in omega (arith, few, c.requires.length)

pub search-branch-classes-requires : goal.search-branch-classes-requires
search-branch-classes-requires t c =
    let n = c.in-Open.ensures.step in
    let l : c.in-Open.place < length c.args.choice.now = omega (arith, n.within, c.requires.length) in (
      omega arith,
      (
        subst (AreNumbered c.args.sides.now.query.now c.args.sides.now.rule.now c.args.sides.now.existential.items) (sym c.next_step.ensures.numbers) c.requires.sides,
        (
          c.requires.length,
          record {
            within = n.within;
            free = n.free;
            grown = λ head k. grown_more c.args.sides.now.query.now c.args.sides.now.rule.now c.args.root c.args.choice.now c.in-Open.place head c.requires.grown n.above n.free l n.calls k;
          },
        ),
      ),
    )

pub search-returns-in-Blocked-clause-found : goal.search-returns-in-Blocked-clause-found
search-returns-in-Blocked-clause-found t c = found_none c.args.sides.now.query.now c.args.sides.now.rule.now c.args.root c.args.choice.now c.args.found.now.items c.in-Blocked.ensures.step

pub search-returns-in-Closed-clause-found : goal.search-returns-in-Closed-clause-found
search-returns-in-Closed-clause-found t c = on_ok_weaker c.keep.result
    (λ e. found_closed c.args.sides.now.query.now c.args.sides.now.rule.now c.args.root c.args.choice.now c.args.found.now.items c.keep.new.found.items c.requires.grown
    c.in-Closed.ensures.step e) c.keep.ensures

pub search-returns-in-Open-clause-found : goal.search-returns-in-Open-clause-found
search-returns-in-Open-clause-found t c = on_ok_weaker c.branch-classes.result
    (λ b. found_open c.args.sides.now.query.now c.args.sides.now.rule.now c.args.root c.args.choice.now c.in-Open.place c.args.found.now.items c.branch-classes.new.found.items
    c.in-Open.ensures.step b) c.branch-classes.ensures.found

pub try_head-search-requires : goal.try_head-search-requires
try_head-search-requires t c =
    let choice = c.args.choice.now in
    let place = c.args.place in
    let l : place < length choice = omega (arith, c.requires.length, c.requires.open.within) in
    let fewer = free_places-with_head choice place c.args.head l c.requires.open.free in (
      omega (arith, fewer),
      (
        c.requires.sides,
        (
          length-set choice place (Some c.args.head) ∙ c.requires.length,
          (
            c.requires.open.grown c.args.head c.requires.keeps,
            length-positive (pairs_of (with_head choice place c.args.head)) (place, c.args.head) (with_head-newest choice place c.args.head l),
          ),
        ),
      ),
    )

pub try_head-returns-clause-choice : goal.try_head-returns-clause-choice
try_head-returns-clause-choice t c =
    ap (λ (xs : List (Option ℕ)). set xs c.args.place None) c.in_ok-search.ensures.choice ∙
    without_head c.args.choice.now c.args.place c.args.head c.requires.open.free
