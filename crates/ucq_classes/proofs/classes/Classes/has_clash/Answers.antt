use Rattle.std.proofs.Common.{◌≡◌, ◌≢◌, ◌∙◌, ℕ, length, AllPairs, sym, subst, ap, arith, below_more}
use Rattle.ucq_partition.specs.Partition.{label_of}
use Rattle.ucq_classes.specs.Classes.{Labels, IsLabelled}
use Rattle.ucq_classes.proofs.Clashes.{clash_at, no_clash}
use Rattle.ucq_classes.proofs.classes.Classes.has_clash.Goals as goal

pub returns-then-label-place-clause-clash : goal.returns-then-label-place-clause-clash
returns-then-label-place-clause-clash c = λ _ links k.
    let v = c.args.self.now in
    let once = subst (λ (u : Labels). AllPairs (λ (c d : ℕ). c ≢ d) u.numbers.constants) c.self.view_is c.constants.ensures.proper.once in
    let whole : IsLabelled v = subst IsLabelled c.self.view_is c.self.invariant in
    let same : c.constants.result.now ≡ v.numbers.constants = c.constants.ensures.constants ∙ ap (λ (u : Labels). u.numbers.constants) c.self.view_is in
    clash_at v links k once whole.room c.loop-place.place (omega (arith, ap length same)) (λ e. c.if-label-place.true (c.label.ensures ∙ e))

pub loop-place-preserved : goal.loop-place-preserved
loop-place-preserved c = below_more (λ k. label_of c.args.self.now.labels k ≡ k) c.loop-place.place c.loop-place.invariant (sym c.label.ensures ∙ c.if-label-place.false)

pub returns-clause-none : goal.returns-clause-none
returns-clause-none c = λ _ links k.
    let v = c.args.self.now in
    let once = subst (λ (u : Labels). AllPairs (λ (c d : ℕ). c ≢ d) u.numbers.constants) c.self.view_is c.constants.ensures.proper.once in
    let whole : IsLabelled v = subst IsLabelled c.self.view_is c.self.invariant in
    let same : c.constants.result.now ≡ v.numbers.constants = c.constants.ensures.constants ∙ ap (λ (u : Labels). u.numbers.constants) c.self.view_is in
    no_clash v links k once whole.room (λ m l. c.loop-place.invariant m (omega (arith, ap length same)))
