use Rattle.std.proofs.Common.{◌∙◌, ◌++◌, [], ℕ, List, take, Contains, sym, ap, subst, arith}
use Rattle.std.proofs.lemmas.List.{take_all}
use Rattle.std.proofs.lemmas.List.Elements.{Contains-get_or}
use Rattle.ucq_terms.specs.Unifier.{Node, links}
use Rattle.ucq_classes.specs.Numbers.{Numbers, NumbersQuery, NumbersHeads}
use Rattle.ucq_classes.specs.Classes.{IsClassed}
use Rattle.ucq_join.specs.Walk.{links_at}
use Rattle.ucq_join.proofs.Sets.{links_at-more_members}
use Rattle.ucq_join.proofs.links.link_members.Goals as goal

pub loop-copy-init : goal.loop-copy-init
loop-copy-init c = record { numbers = c.clear.ensures.numbers; linked = c.clear.ensures.alone }

pub piece_at-requires : goal.piece_at-requires
piece_at-requires c = c.requires.within _ (Contains-get_or c.args.members.now c.loop-copy.copy 0 c.loop-copy-test.true)

pub link_piece-requires-clause-query : goal.link_piece-requires-clause-query
link_piece-requires-clause-query c = subst (λ (n : Numbers). NumbersQuery n c.args.query.now) (sym c.loop-copy.invariant.numbers) c.requires.numbered.query

pub link_piece-requires-clause-heads : goal.link_piece-requires-clause-heads
link_piece-requires-clause-heads c =
    subst (λ (n : Numbers). NumbersHeads n c.loop-copy.copy c.args.rule.now) (sym c.loop-copy.invariant.numbers)
    (c.requires.numbered.heads c.loop-copy.copy (omega (arith, c.requires.room)))

pub link_piece-requires-clause-keeps : goal.link_piece-requires-clause-keeps
link_piece-requires-clause-keeps c =
    let l = c.requires.within _ (Contains-get_or c.args.members.now c.loop-copy.copy 0 c.loop-copy-test.true) in
    c.requires.keeps c.piece_at.result.now (subst (λ (x : List (ℕ × ℕ)). Contains c.args.pieces.now x) (sym c.piece_at.ensures) (Contains-get_or c.args.pieces.now _ [] l))

pub loop-copy-preserved : goal.loop-copy-preserved
loop-copy-preserved c =
    let q = c.args.query.now in
    let rule = c.args.rule.now in
    let pieces = c.args.pieces.now in
    let members = c.args.members.now in
    let i = c.loop-copy.copy in
    let before = links_at q rule pieces (take i members) in
    record {
      numbers = c.link_piece.ensures.numbers ∙ c.loop-copy.invariant.numbers;
      linked = subst (λ (ls : List (Node × Node)). IsClassed ls c.link_piece.new.classes)
          (ap (λ (ps : List (ℕ × ℕ)). before ++ links q i rule ps) c.piece_at.ensures ∙ sym (links_at-more_members q rule pieces members i c.loop-copy-test.true))
          (c.link_piece.ensures.linked before c.loop-copy.invariant.linked);
    }

pub returns : goal.returns
returns c =
    let members = c.args.members.now in
    record {
      numbers = c.loop-copy.invariant.numbers;
      linked = subst (λ (xs : List ℕ). IsClassed (links_at c.args.query.now c.args.rule.now c.args.pieces.now xs) c.loop-copy.classes)
          (take_all c.loop-copy.copy members (let t = c.loop-copy-test.false in omega arith)) c.loop-copy.invariant.linked;
    }
