use Rattle.std.proofs.Common.{◌≡◌, ◌<◌, ◌∙◌, Bool, ℕ, List, [], length, get_or, refl, sym, ap₂, subst, inl, inr, arith}
use Rattle.std.proofs.lemmas.Bool.{cases_eq}
use Rattle.std.proofs.lemmas.List.{get_or_default}
use Rattle.std.proofs.lemmas.List.Elements.{Contains-get_or}
use Rattle.ucq_terms.specs.Rewriting.{AreApart}
use Rattle.ucq_join.specs.Walk.{piece_member}
use Rattle.ucq_join.specs.inner.Search.{overlap}
use Rattle.ucq_join.proofs.Overlaps.{not_apart, apart_from_test}
use Rattle.ucq_join.proofs.search.is_apart.Goals as goal

pub piece_at-requires : goal.piece_at-requires
piece_at-requires c = c.requires.within _ (Contains-get_or c.args.members.now c.loop-i.i 0 c.loop-i-test.true)

-- the pieces that were tested are the members'
tested : (pieces : List (List (ℕ × ℕ))) (first second : List (ℕ × ℕ)) (member place : ℕ) (b : Bool) → b ≡ overlap first second → first ≡ get_or pieces member [] →
    place < length pieces → second ≡ get_or pieces place second → b ≡ overlap (piece_member pieces member).pairs (piece_member pieces place).pairs
tested pieces first second member place b e d l f =
    e ∙ ap₂ (λ (x y : List (ℕ × ℕ)). overlap x y) d (f ∙ get_or_default pieces place second [] l)

pub returns-then-overlaps : goal.returns-then-overlaps
returns-then-overlaps c = (
  λ e. cc,
  λ f.
      let pieces = c.args.pieces.now in
      let member = get_or c.args.members.now c.loop-i.i 0 in
      let place = c.args.place in
      let t : c.overlaps.result ≡ overlap (piece_member pieces member).pairs (piece_member pieces place).pairs =
      tested pieces _ _ member place c.overlaps.result c.overlaps.ensures c.piece_at.ensures c.requires.place c.index-pieces-place.is in
      absurd (not_apart (piece_member pieces member) (piece_member pieces place) (sym t ∙ c.if-overlaps.true)
      (f member (Contains-get_or c.args.members.now c.loop-i.i 0 c.loop-i-test.true))),
)

pub loop-i-preserved : goal.loop-i-preserved
loop-i-preserved c = λ k l. elim (cases_eq k c.loop-i.i) [
  | inr ne ↦ c.loop-i.invariant k (omega arith)
  | inl e ↦
      let pieces = c.args.pieces.now in
      let member = get_or c.args.members.now c.loop-i.i 0 in
      let place = c.args.place in
      let t : c.overlaps.result ≡ overlap (piece_member pieces member).pairs (piece_member pieces place).pairs =
      tested pieces _ _ member place c.overlaps.result c.overlaps.ensures c.piece_at.ensures c.requires.place c.index-pieces-place.is in
      subst (λ (n : ℕ). AreApart (piece_member pieces (get_or c.args.members.now n 0)) (piece_member pieces place)) (sym e)
      (apart_from_test (piece_member pieces member) (piece_member pieces place) (sym t ∙ c.if-overlaps.false))
]

pub returns : goal.returns
returns c = (
  λ e member (k, l, d).
      let pieces = c.args.pieces.now in
      let same : get_or c.args.members.now k 0 ≡ member = get_or_default c.args.members.now k 0 member l ∙ d in
      subst (λ (n : ℕ). AreApart (piece_member pieces n) (piece_member pieces c.args.place)) same (c.loop-i.invariant k (let t = c.loop-i-test.false in omega arith)),
  λ f. refl,
)
