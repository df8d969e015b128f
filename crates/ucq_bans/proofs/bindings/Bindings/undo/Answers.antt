use Rattle.std.proofs.Common.{◌≤◌, ◌<◌, length, sym, arith, subst}
use Rattle.ucq_hom.specs.Bindings.{Grown}
use Rattle.ucq_hom.proofs.Trail.{Grown-free, Grown-same}
use Rattle.ucq_bans.proofs.bindings.Bindings.undo.Goals as goal

pub loop-self-preserved : goal.loop-self-preserved
loop-self-preserved c = λ before g m.
    let more : length before.trail < length c.loop-self.self.trail = let a = c.mark.ensures.mark in let b = c.loop-self-test.true in omega arith in
    subst (Grown before) (sym c.free_last.ensures) (Grown-free before c.loop-self.self (c.loop-self.invariant before g m) more)

pub returns-clause-undone : goal.returns-clause-undone
returns-clause-undone c = λ before g m.
    let less : length c.loop-self.self.trail ≤ length before.trail = let a = c.mark.ensures.mark in let b = c.loop-self-test.false in omega arith in
    Grown-same before c.loop-self.self (c.loop-self.invariant before g m) less
