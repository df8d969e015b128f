use Rattle.std.proofs.Common.{subst, inl, inr, false}
use Rattle.std.specs.Prelude.{◌≡◌, ◌⊎◌, Option, None, Some, IsSome, MatchOption, is_some}
use Rattle.ucq_store.specs.declared.Cut.{Cut}
use Rattle.ucq_store.specs.Store.{Store, IsCut, IsFinished}
use Rattle.ucq_bans.proofs.Violated.{mapped_violates, none_violates}
use Rattle.ucq_bans.proofs.judging.judge.Goals as goal

-- a store that is finished or cut, and tells no cut, is finished
finished_here : {T : Type 0} (s : Store) (cut : Option T) (read : T → Cut) → MatchOption cut (s.cut ≡ None) (λ c. s.cut ≡ Some (read c)) → false ≡ is_some cut →
    IsFinished s ⊎ IsCut s → IsFinished s
finished_here s None read is e (inl finished) = finished
finished_here s None read is e (inr cut) = let none : IsSome {T = Cut} None = subst (λ (c : Option Cut). IsSome c) is cut in absurd cc
finished_here s (Some cut) read is e ended = absurd cc

pub returns-in-Some : goal.returns-in-Some
returns-in-Some c = (
  c.in-Some.ensures,
  mapped_violates c.sound_is_carried.ensures.carried c.args.store.now c.args.facts.now c.in-Some.row c.cut.ensures.lawful.lawful c.requires.boolean c.in-Some.ensures.row_of
      c.in-Some.ensures.maps,
)

pub returns-in-None-2 : goal.returns-in-None-2
returns-in-None-2 c =
    let s = c.args.store.now in
    let finished = finished_here s c.cut.result (λ cut. cut.now) c.cut.ensures.cut c.if-is_cut.ensures c.requires.ended in (
      finished,
      c.in-None-2.ensures,
      none_violates c.finished_is_exact.ensures s c.args.facts.now c.cut.ensures.lawful.lawful finished c.in-None-2.ensures,
    )
