use Rattle.std.proofs.Common.{◌≡◌, ◌∙◌, ◌++◌, ◌∷◌, [], ℕ, Bool, true, false, not, List, length, Contains, get_or, refl, sym, ap, subst, arith, IsTrue}
use Rattle.std.proofs.lemmas.List.{get_or_default}
use Rattle.std.proofs.lemmas.List.Elements.{Contains-get_or}
use Rattle.ucq_terms.specs.Unifier.{Node, links}
use Rattle.ucq_classes.specs.Numbers.{Numbers, NumbersQuery, NumbersHeads}
use Rattle.ucq_classes.specs.Classes.{IsClassed}
use Rattle.ucq_join.specs.Walk.{links_at}
use Rattle.ucq_join.proofs.Sets.{start_within, start_few, keeps_each, apart_from_last, IsJoin-push, links_at-push}
use Rattle.ucq_join.proofs.search.joins.Goals as goal

not_true : (b : Bool) → not b ≡ true → b ≡ false
not_true true e = cc
not_true false e = refl

not_false : (b : Bool) → not b ≡ false → b ≡ true
not_false true e = refl
not_false false e = cc

pub is_apart-requires-clause-within : goal.is_apart-requires-clause-within
is_apart-requires-clause-within c = start_within c.args.query.now c.args.rule.now c.args.pieces.now c.args.members.now c.requires.start.members_join

pub returns-then-not-is_apart-clause-none : goal.returns-then-not-is_apart-clause-none
returns-then-not-is_apart-clause-none c = λ _ j.
    let yes' : IsTrue c.is_apart.result = c.is_apart.ensures.1 (apart_from_last c.args.query.now c.args.rule.now c.args.pieces.now c.args.members.now c.args.place j) in
    let no' = c.if-not-is_apart.true in
    cc

pub overflow_cast-copy : goal.overflow_cast-copy
overflow_cast-copy c =
    let l = start_few c.args.query.now c.args.rule.now c.args.pieces.now c.args.members.now c.requires.pieces c.requires.start.members_join c.requires.numbered.few_atoms in
    omega arith

pub link_members-requires-clause-few : goal.link_members-requires-clause-few
link_members-requires-clause-few c =
    start_few c.args.query.now c.args.rule.now c.args.pieces.now c.args.members.now c.requires.pieces c.requires.start.members_join c.requires.numbered.few_atoms

pub link_members-requires-clause-within : goal.link_members-requires-clause-within
link_members-requires-clause-within c = start_within c.args.query.now c.args.rule.now c.args.pieces.now c.args.members.now c.requires.start.members_join

pub link_members-requires-clause-keeps : goal.link_members-requires-clause-keeps
link_members-requires-clause-keeps c = λ piece i. keeps_each c.args.query.now c.args.rule.now c.args.pieces.now piece c.requires.pieces i

pub link_piece-requires-clause-query : goal.link_piece-requires-clause-query
link_piece-requires-clause-query c = subst (λ (n : Numbers). NumbersQuery n c.args.query.now) (sym c.link_members.ensures.numbers) c.requires.numbered.query

pub link_piece-requires-clause-heads : goal.link_piece-requires-clause-heads
link_piece-requires-clause-heads c =
    subst (λ (n : Numbers). NumbersHeads n (length c.args.members.now) c.args.rule.now) (sym c.link_members.ensures.numbers)
    (c.requires.numbered.heads (length c.args.members.now) (omega (arith, c.requires.room)))

pub link_piece-requires-clause-keeps : goal.link_piece-requires-clause-keeps
link_piece-requires-clause-keeps c =
    let here : Contains c.args.pieces.now c.index-pieces-place.result =
    subst (λ (x : List (ℕ × ℕ)). Contains c.args.pieces.now x) (sym c.index-pieces-place.is) (Contains-get_or c.args.pieces.now c.args.place c.index-pieces-place.result c.requires.place) in
    keeps_each c.args.query.now c.args.rule.now c.args.pieces.now c.index-pieces-place.result c.requires.pieces here

pub returns-clause-classed : goal.returns-clause-classed
returns-clause-classed c = λ _.
    let q = c.args.query.now in
    let rule = c.args.rule.now in
    let pieces = c.args.pieces.now in
    let members = c.args.members.now in
    let n = length members in
    let before = links_at q rule pieces members in
    let same : c.index-pieces-place.result ≡ get_or pieces c.args.place [] = c.index-pieces-place.is ∙ get_or_default pieces c.args.place c.index-pieces-place.result [] c.requires.place in
    subst (λ (ls : List (Node × Node)). IsClassed ls c.link_piece.new.classes)
    (ap (λ (ps : List (ℕ × ℕ)). before ++ links q n rule ps) same ∙ sym (links_at-push q rule pieces members c.args.place))
    (c.link_piece.ensures.linked before c.link_members.ensures.linked)

pub returns-clause-join : goal.returns-clause-join
returns-clause-join c = λ e.
    let q = c.args.query.now in
    let rule = c.args.rule.now in
    let pieces = c.args.pieces.now in
    let members = c.args.members.now in
    let n = length members in
    let before = links_at q rule pieces members in
    let same : c.index-pieces-place.result ≡ get_or pieces c.args.place [] = c.index-pieces-place.is ∙ get_or_default pieces c.args.place c.index-pieces-place.result [] c.requires.place in
    let k : IsClassed (links_at q rule pieces (members ++ c.args.place ∷ [])) c.link_piece.new.classes =
    subst (λ (ls : List (Node × Node)). IsClassed ls c.link_piece.new.classes)
    (ap (λ (ps : List (ℕ × ℕ)). before ++ links q n rule ps) same ∙ sym (links_at-push q rule pieces members c.args.place))
    (c.link_piece.ensures.linked before c.link_members.ensures.linked) in
    let apart : IsTrue c.is_apart.result = c.if-not-is_apart.false in
    IsJoin-push q rule pieces members c.args.place c.requires.pieces c.requires.start.members_join c.requires.start.below c.requires.place (c.is_apart.ensures.0 apart)
    (c.has_clash.ensures.none (not_true c.has_clash.result e) (links_at q rule pieces (members ++ c.args.place ∷ [])) k)

pub returns-clause-none : goal.returns-clause-none
returns-clause-none c = λ e j.
    let q = c.args.query.now in
    let rule = c.args.rule.now in
    let pieces = c.args.pieces.now in
    let members = c.args.members.now in
    let n = length members in
    let before = links_at q rule pieces members in
    let same : c.index-pieces-place.result ≡ get_or pieces c.args.place [] = c.index-pieces-place.is ∙ get_or_default pieces c.args.place c.index-pieces-place.result [] c.requires.place in
    let k : IsClassed (links_at q rule pieces (members ++ c.args.place ∷ [])) c.link_piece.new.classes =
    subst (λ (ls : List (Node × Node)). IsClassed ls c.link_piece.new.classes)
    (ap (λ (ps : List (ℕ × ℕ)). before ++ links q n rule ps) same ∙ sym (links_at-push q rule pieces members c.args.place))
    (c.link_piece.ensures.linked before c.link_members.ensures.linked) in
    c.has_clash.ensures.clash (not_false c.has_clash.result e) (links_at q rule pieces (members ++ c.args.place ∷ [])) k j.aggregate.no_clash
