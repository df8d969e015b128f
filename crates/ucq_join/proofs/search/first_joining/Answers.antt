use Rattle.std.proofs.Common.{◌<◌, length, arith, inl, inr}
use Rattle.std.proofs.lemmas.Bool.{cases_lt}
use Rattle.std.proofs.lemmas.List.Elements.{Contains-push}
use Rattle.ucq_join.proofs.search.first_joining.Goals as goal

pub joins-requires-clause-start : goal.joins-requires-clause-start
joins-requires-clause-start c = record {
  members_join = c.requires.start.members_join;
  below = λ place i. let l : place < c.args.start = c.requires.start.below place i in let m = c.loop-place.auto.place in omega arith;
}

pub returns-clause-first : goal.returns-clause-first
returns-clause-first c = λ place l j. elim (cases_lt place c.loop-place.place) [
  | inl m ↦ c.loop-place.invariant.none place l m j
  | inr m ↦ let n : place < length c.args.pieces.now = j.within place (Contains-push c.args.members.now place) in let t = c.loop-place-test.false in absurd (omega arith)
]
