use Rattle.std.proofs.Common.{rules, ◌≡◌, ◌+◌, [], ℕ, true, List, ◌⊎◌, sym, ◌∙◌, subst, inr, arith}
use Rattle.std.proofs.lemmas.List.Elements.{same_from_all_zip}
use Rattle.ucq_join.specs.inner.Copies.{IsWidthOf, IsReadyFor, AreNumbered}
use Rattle.ucq_join.specs.inner.Naming.{IsNamed}
use Rattle.ucq_join.specs.Walk.{Walk, IsJoin, IsLast, IsNext, MovesTo}
use Rattle.ucq_join.proofs.Even.{few_numbers, numbered_copies, ready_with, walking_with}
use Rattle.ucq_join.proofs.Sets.{start_few}
use Rattle.ucq_join.proofs.Steps.{found_next, found_last, MovesTo-named}
use Rattle.ucq_join.proofs.joins.Joins.next.Goals as goal

pub overflow_cast-copies : goal.overflow_cast-copies
overflow_cast-copies c =
    let few = start_few c.self.inside.query.now c.self.inside.rule.now c.self.inside.pieces.now c.self.inside.present.items c.self.invariant.pieces c.self.invariant.present c.self.invariant.ready.few_atoms in
    let held = c.self.inside.present.ok.0 in
    omega (arith, c.in_ok-members.ensures.cases.1, c.len.ensures, few, held)

pub overflow_add-copies : goal.overflow_add-copies
overflow_add-copies c =
    let few = start_few c.self.inside.query.now c.self.inside.rule.now c.self.inside.pieces.now c.self.inside.present.items c.self.invariant.pieces c.self.invariant.present c.self.invariant.ready.few_atoms in
    let held = c.self.inside.present.ok.0 in
    omega (arith, c.in_ok-members.ensures.cases.1, c.len.ensures, few, held)

pub set_copies-requires : goal.set_copies-requires
set_copies-requires c =
    let few = start_few c.self.inside.query.now c.self.inside.rule.now c.self.inside.pieces.now c.self.inside.present.items c.self.invariant.pieces c.self.invariant.present c.self.invariant.ready.few_atoms in
    let held = c.self.inside.present.ok.0 in
    let r = few_numbers c.self.inside.query.now c.self.inside.rule.now c.self.inside.numbering c.self.inside.width (c.len.result + 1) c.self.invariant.ready c.self.invariant.width_of
    (omega (arith, c.in_ok-members.ensures.cases.1, c.len.ensures, few, held)) in
    omega arith

pub invariant_of-self : goal.invariant_of-self
invariant_of-self c = walking_with _ c.self.inside.numbering c.set_copies.new.numbering c.self.inside.width c.set_copies.ensures.rest c.self.invariant

pub invariant_of-self-in_err-classes : goal.invariant_of-self-in_err-classes
invariant_of-self-in_err-classes c = walking_with _ c.self.inside.numbering c.set_copies.new.numbering c.self.inside.width c.set_copies.ensures.rest c.self.invariant

pub invariant_of-self-in_err-advance : goal.invariant_of-self-in_err-advance
invariant_of-self-in_err-advance c = walking_with _ c.self.inside.numbering c.set_copies.new.numbering c.self.inside.width c.set_copies.ensures.rest c.self.invariant

pub invariant_of-self-then-not-branch : goal.invariant_of-self-then-not-branch
invariant_of-self-then-not-branch c = walking_with _ c.self.inside.numbering c.set_copies.new.numbering c.self.inside.width c.set_copies.ensures.rest c.self.invariant

pub invariant_of-self-in_err-joined : goal.invariant_of-self-in_err-joined
invariant_of-self-in_err-joined c = walking_with _ c.self.inside.numbering c.set_copies.new.numbering c.self.inside.width c.set_copies.ensures.rest c.self.invariant

pub advance-requires-clause-numbered : goal.advance-requires-clause-numbered
advance-requires-clause-numbered c =
    let q = c.self.inside.query.now in
    let rule = c.self.inside.rule.now in
    subst (AreNumbered q rule) (sym c.in_ok-classes.ensures.numbers)
    (numbered_copies q rule c.set_copies.new.numbering c.self.inside.width (ready_with q rule c.self.inside.numbering c.set_copies.new.numbering c.set_copies.ensures.rest c.self.invariant.ready)
    c.self.invariant.width_of c.in_ok-set_copies.ensures.width)

pub advance-requires-clause-present : goal.advance-requires-clause-present
advance-requires-clause-present c =
    let same : c.in_ok-members.members.items ≡ c.self.inside.present.items = search (rules, same_from_all_zip) in
    subst (λ (xs : List ℕ). (xs ≡ []) ⊎ IsJoin c.self.inside.query.now c.self.inside.rule.now c.self.inside.pieces.now xs) (sym same) c.self.invariant.present

pub returns-then-not-branch : goal.returns-then-not-branch
returns-then-not-branch c =
    let same : c.in_ok-members.members.items ≡ c.self.inside.present.items = search (rules, same_from_all_zip) in
    let w : List ℕ → Walk = λ xs. record { query = c.self.inside.query.now; rule = c.self.inside.rule.now; pieces = c.self.inside.pieces.now; present = xs } in
    let last : IsLast (w c.in_ok-members.members.items) = found_last (w c.in_ok-members.members.items) c.advance.new.members.items c.in_ok-advance.field-0 c.if-not-branch.true c.in_ok-advance.ensures.advanced in
    (subst IsLast c.self.view_is (subst (λ (xs : List ℕ). IsLast (w xs)) same last), c.self.view_is)

pub named-requires-clause-few : goal.named-requires-clause-few
named-requires-clause-few c =
    let few = start_few c.self.inside.query.now c.self.inside.rule.now c.self.inside.pieces.now c.self.inside.present.items c.self.invariant.pieces c.self.invariant.present c.self.invariant.ready.few_atoms in
    let held = c.self.inside.present.ok.0 in
    omega (arith, c.in_ok-members.ensures.cases.1, c.in_ok-advance.ensures.length, few, held)

pub invariant_of-self-2 : goal.invariant_of-self-2
invariant_of-self-2 c =
    let w : List ℕ → Walk = λ xs. record { query = c.self.inside.query.now; rule = c.self.inside.rule.now; pieces = c.self.inside.pieces.now; present = xs } in
    let next : IsNext (w c.in_ok-members.members.items) c.advance.new.members.items = found_next (w c.in_ok-members.members.items) c.advance.new.members.items c.in_ok-advance.field-0 c.if-not-branch.false c.in_ok-advance.ensures.advanced in
    record {
      pieces = c.self.invariant.pieces;
      ready = ready_with c.self.inside.query.now c.self.inside.rule.now c.self.inside.numbering c.set_copies.new.numbering c.set_copies.ensures.rest c.self.invariant.ready;
      width_of = c.self.invariant.width_of;
      present = inr next.join;
    }

pub returns : goal.returns
returns c =
    let same : c.in_ok-members.members.items ≡ c.self.inside.present.items = search (rules, same_from_all_zip) in
    let w : List ℕ → Walk = λ xs. record { query = c.self.inside.query.now; rule = c.self.inside.rule.now; pieces = c.self.inside.pieces.now; present = xs } in
    let found : c.in_ok-advance.field-0 ≡ true = c.if-not-branch.false in
    let items = c.advance.new.members.items in
    let next : IsNext (w c.in_ok-members.members.items) items = found_next (w c.in_ok-members.members.items) items c.in_ok-advance.field-0 found c.in_ok-advance.ensures.advanced in
    let v = c.advance.new.classes in
    let numbers : v.numbers ≡ c.set_copies.new.numbering = c.advance.ensures.numbers ∙ c.in_ok-classes.ensures.numbers in
    let ready = subst (IsReadyFor c.self.inside.query.now c.self.inside.rule.now) (sym numbers)
    (ready_with c.self.inside.query.now c.self.inside.rule.now c.self.inside.numbering c.set_copies.new.numbering c.set_copies.ensures.rest c.self.invariant.ready) in
    let named : IsNamed v items c.in_ok-joined.joined = c.in_ok-joined.ensures.named in
    subst (λ (u : Walk). MovesTo u (w items) c.in_ok-joined.joined) c.self.view_is
    (MovesTo-named (w c.self.inside.present.items) v items c.in_ok-joined.joined ready
    (subst (IsWidthOf c.self.inside.rule.now) (sym c.in_ok-joined.ensures.width) c.self.invariant.width_of)
    (subst (λ (xs : List ℕ). IsNext (w xs) items) same next) named (c.in_ok-advance.ensures.classed found))
