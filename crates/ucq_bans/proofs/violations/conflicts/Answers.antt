use Rattle.std.proofs.Common.{All, map, sym, subst}
use Rattle.std.proofs.lemmas.Result.{IfOk-weaker}
use Rattle.ucq_bans.specs.Conflicts.{IsRising}
use Rattle.ucq_bans.specs.inner.Parts.{AreMinimal}
use Rattle.ucq_bans.proofs.Conflicting.{minimal_are_conflicts, sorted_are_rising}
use Rattle.ucq_bans.proofs.violations.conflicts.Goals as goal

pub minimal-requires-clause-rising : goal.minimal-requires-clause-rising
minimal-requires-clause-rising c =
    let all = sorted_are_rising c.sound_is_carried.ensures.carried c.finished_is_exact.ensures c.args.store.now c.args.facts.now c.rows-rows.ensures.lawful.lawful
    c.requires.finished c.requires.boolean c.len-facts.ensures.once (map (λ v. v.items) c.in_ok-images.field-0.keys) c.in_ok-images.ensures
    (map (λ v. v.items) c.in_ok-sets.sets.items) c.in_ok-sets.ensures in
    subst (λ vs. All IsRising (map (λ v. v.items) vs)) (sym c.as_slice.ensures.value) all

pub returns : goal.returns
returns c = IfOk-weaker c.minimal.result _ _ (λ conflicts m.
    minimal_are_conflicts c.sound_is_carried.ensures.carried c.finished_is_exact.ensures c.args.store.now c.args.facts.now c.rows-rows.ensures.lawful.lawful c.requires.finished
    c.requires.boolean c.len-facts.ensures.once (map (λ v. v.items) c.in_ok-images.field-0.keys) c.in_ok-images.ensures (map (λ v. v.items) c.in_ok-sets.sets.items) conflicts.items
    c.in_ok-sets.ensures (subst (λ vs. AreMinimal (map (λ v. v.items) vs) conflicts.items) c.as_slice.ensures.value m)) c.minimal.ensures
