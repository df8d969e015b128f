use Rattle.std.proofs.Common.{◌≡◌, ◌+◌, ◌-◌, ℕ, List, length, sym, subst, arith}
use Rattle.ucq_terms.specs.Syntax.{Atom}
use Rattle.ucq_fold.proofs.Shrunk.{IsShrunk, IsShrunk-start, IsShrunk-tried, IsCoreOf-shrunk}
use Rattle.ucq_fold.proofs.shrinking.shrink.Goals as goal

pub loop-place-init : goal.loop-place-init
loop-place-init c = subst (λ (x : List Atom). IsShrunk c.args.query.now c.args.query.now (length x)) (sym c.atoms.ensures.atoms)
    (IsShrunk-start c.args.query.now c.atoms.ensures.stored.safe)

pub loop-place-preserved : goal.loop-place-preserved
loop-place-preserved c =
    let next : c.loop-place.place ≡ c.loop-place.place - 1 + 1 = let t = c.loop-place-test.true in omega arith in
    IsShrunk-tried c.args.query.now c.loop-place.query c.drop_spare.new.query (c.loop-place.place - 1)
    (subst (λ (n : ℕ). IsShrunk c.args.query.now c.loop-place.query n) next c.loop-place.invariant) c.drop_spare.ensures.tried

pub returns-clause-core : goal.returns-clause-core
returns-clause-core c =
    let done : c.loop-place.place ≡ 0 = let t = c.loop-place-test.false in omega arith in
    IsCoreOf-shrunk c.args.query.now c.loop-place.query (subst (λ (n : ℕ). IsShrunk c.args.query.now c.loop-place.query n) done c.loop-place.invariant)
