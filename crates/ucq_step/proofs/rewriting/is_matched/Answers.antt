use Rattle.std.proofs.Common.{◌≡◌, ℕ, false, Bool, List, [], sym, ap, ◌∙◌, get_or, nat_eq, arith}
use Rattle.std.specs.List.{list_any}
use Rattle.std.proofs.lemmas.List.Elements.{Contains-get_or}
use Rattle.ucq_terms.specs.Unifier.{is_place}
use Rattle.ucq_unify.proofs.Prefixes.{prefix_more, prefix_all}
use Rattle.ucq_step.proofs.Building.{list_any-is_place, is_place-member, is_place-no_member}
use Rattle.ucq_step.proofs.rewriting.is_matched.Goals as goal

-- what the test of a piece tells
tested : (found : Bool) (given piece : List (ℕ × ℕ)) (place : ℕ) → found ≡ list_any (λ (p : ℕ × ℕ). nat_eq place p.0) given → given ≡ piece →
    is_place piece place ≡ found
tested found given piece place e s = sym (e ∙ (list_any-is_place given place ∙ ap (λ (ps : List (ℕ × ℕ)). is_place ps place) s))

pub piece_at-requires : goal.piece_at-requires
piece_at-requires c = c.requires _ (Contains-get_or c.args.members.now c.loop-member.member-index 0 c.loop-member-test.true)

pub returns-then-has_place : goal.returns-then-has_place
returns-then-has_place c =
    sym (is_place-member c.args.pieces.now c.args.members.now (get_or c.args.members.now c.loop-member.member-index 0) c.args.place
    (Contains-get_or c.args.members.now c.loop-member.member-index 0 c.loop-member-test.true)
    (tested _ _ (get_or c.args.pieces.now (get_or c.args.members.now c.loop-member.member-index 0) []) c.args.place c.has_place.ensures c.piece_at.ensures ∙
    c.if-has_place.true))

pub loop-member-preserved : goal.loop-member-preserved
loop-member-preserved c =
    prefix_more (λ (member : ℕ). is_place (get_or c.args.pieces.now member []) c.args.place ≡ false) c.args.members.now c.loop-member.member-index 0
    c.loop-member-test.true c.loop-member.invariant
    (tested _ _ (get_or c.args.pieces.now (get_or c.args.members.now c.loop-member.member-index 0) []) c.args.place c.has_place.ensures c.piece_at.ensures ∙
    c.if-has_place.false)

pub returns : goal.returns
returns c = sym
    (is_place-no_member c.args.pieces.now c.args.members.now c.args.place
    (prefix_all (λ (member : ℕ). is_place (get_or c.args.pieces.now member []) c.args.place ≡ false) c.args.members.now c.loop-member.member-index
    (omega arith) c.loop-member.invariant))
