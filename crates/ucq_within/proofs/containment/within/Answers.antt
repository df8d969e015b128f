use Rattle.std.proofs.Common.{subst, inl, inr, false}
use Rattle.std.specs.Prelude.{◌≡◌, ◌⊎◌, Option, None, Some, IsSome, MatchOption, is_some}
use Rattle.ucq_store.specs.declared.Cut.{Cut}
use Rattle.ucq_store.specs.Store.{Store, IsCut, IsFinished}
use Rattle.ucq_within.proofs.Contained.{contained_is_covered, row_contains}
use Rattle.ucq_within.proofs.containment.within.Goals as goal

-- a store that is finished or cut, and tells no cut, is finished
finished_here : {T : Type 0} (s : Store) (cut : Option T) (read : T → Cut) → MatchOption cut (s.cut ≡ None) (λ c. s.cut ≡ Some (read c)) → false ≡ is_some cut →
    IsFinished s ⊎ IsCut s → IsFinished s
finished_here s None read is e (inl finished) = finished
finished_here s None read is e (inr cut) = let none : IsSome {T = Cut} None = subst (λ (c : Option Cut). IsSome c) is cut in absurd cc
finished_here s (Some cut) read is e ended = absurd cc

pub returns-in-Some-clause-told : goal.returns-in-Some-clause-told
returns-in-Some-clause-told c =
    (c.in-Some.ensures.found, row_contains c.sound_is_carried.ensures.carried c.args.of.now c.cut.ensures.lawful.lawful c.args.query.now c.in-Some.row c.in-Some.ensures.found.row_of c.in-Some.ensures.found.covers)

pub returns-in-None-2-clause-told : goal.returns-in-None-2-clause-told
returns-in-None-2-clause-told c =
    let s = c.args.of.now in
    let q = c.args.query.now in
    let finished = finished_here s c.cut.result (λ cut. cut.now) c.cut.ensures.cut c.if-is_cut.ensures c.requires in (
      finished,
      c.in-None-2.ensures.found,
      λ contained.
          let (row, row_of, covers) = contained_is_covered c.finished_is_exact.ensures s c.cut.ensures.lawful.lawful finished q c.atoms.ensures.stored.safe contained in
          c.in-None-2.ensures.found row row_of covers,
    )
