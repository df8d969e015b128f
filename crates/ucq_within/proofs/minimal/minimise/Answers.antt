use Rattle.std.proofs.Common.{◌≡◌, ℕ, suc, ◌-◌, ◌≤◌, length, refl, sym, ap, ◌∙◌, subst, inl, inr, arith}
use Rattle.std.proofs.lemmas.List.Edits.{length-remove}
use Rattle.ucq_terms.specs.Syntax.{Query, Problem, HasEachOnce}
use Rattle.ucq_within.specs.Minimal.{LeavesOut}
use Rattle.ucq_within.proofs.Contained.{contained_refl}
use Rattle.ucq_within.proofs.Spared.{left_is_equal, left_is_minimal}
use Rattle.ucq_within.proofs.minimal.minimise.Goals as goal

pub loop-place-preserved-then-branch : goal.loop-place-preserved-then-branch
loop-place-preserved-then-branch c =
    let s = c.args.of.now in
    let q = c.loop-place.query in
    let place = c.loop-place.place - 1 in
    let some = c.loop-place-test.true in
    let few = c.loop-place.invariant.within in
    let size = length-remove q.atoms place (omega (arith, some, few)) in
    let on : suc place ≡ c.loop-place.place = omega (arith, some) in
    let may = c.in_ok-may_spare.ensures.may.0 c.if-branch.true in
    record {
      clear = c.in_ok-may_spare.ensures.clear;
      within = subst (λ (r : Query). place ≤ length r.atoms) (sym c.remove_atom.ensures) (omega (arith, size, few, some));
      leaves = λ left more. c.loop-place.invariant.leaves left (subst (λ (n : ℕ). LeavesOut s n q left) on
          (inl (may, subst (λ (r : Query). LeavesOut s place r left) c.remove_atom.ensures more)));
    }

pub loop-place-preserved : goal.loop-place-preserved
loop-place-preserved c =
    let s = c.args.of.now in
    let q = c.loop-place.query in
    let place = c.loop-place.place - 1 in
    let some = c.loop-place-test.true in
    let few = c.loop-place.invariant.within in
    let on : suc place ≡ c.loop-place.place = omega (arith, some) in
    record {
      clear = c.in_ok-may_spare.ensures.clear;
      within = omega (arith, few);
      leaves = λ left more. c.loop-place.invariant.leaves left (subst (λ (n : ℕ). LeavesOut s n q left) on
          (inr ((λ may. let yes = sym c.if-branch.false ∙ c.in_ok-may_spare.ensures.may.1 may in absurd cc), more)));
    }

pub returns-clause-left : goal.returns-clause-left
returns-clause-left c =
    let s = c.args.of.now in
    let q = c.loop-place.query in
    let done : 0 ≡ c.loop-place.place = omega (arith, c.loop-place-test.false) in
    let leaves = c.loop-place.invariant.leaves q (subst (λ (n : ℕ). LeavesOut s n q q) done refl) in
    let lawful = c.rows.ensures.lawful.lawful in
    let once : HasEachOnce s.problem.query.atoms =
    subst (λ (r : Query). HasEachOnce r.atoms) (c.in_ok-query.ensures ∙ (c.query.ensures ∙ ap (λ (p : Problem). p.query) c.problem.ensures)) c.atoms.ensures.stored.once in
    record {
      leaves = leaves;
      equal = left_is_equal c.sound_is_carried.ensures.carried s lawful (length s.problem.query.atoms) s.problem.query q leaves
          (record { forth = contained_refl s.problem.rules s.problem.query; back = contained_refl s.problem.rules s.problem.query });
      minimal = left_is_minimal c.finished_is_exact.ensures s lawful q once leaves;
    }
