use Rattle.std.proofs.Common.{◌≡◌, ◌∙◌, ℕ, List, length, Contains, sym, subst, refl, arith}
use Rattle.ucq_join.specs.Walk.{Walk}
use Rattle.ucq_join.proofs.Sets.{start_within}
use Rattle.ucq_join.proofs.Steps.{IsSearching, searching_start, next_found, none_found, last_left, last_within}
use Rattle.ucq_join.proofs.search.advance.Goals as goal

pub start_after-start-requires : goal.start_after-start-requires
start_after-start-requires c = λ place i.
    start_within c.args.query.now c.args.rule.now c.args.pieces.now c.args.members.now.items c.requires.present place
    (subst (λ (xs : List ℕ). Contains xs place) c.deref.ensures.value i)

pub loop-place-init : goal.loop-place-init
loop-place-init c = record {
  numbers = refl;
  searching = searching_start _ c.deref.result.now c.start_after-start.result c.requires.pieces c.requires.present c.deref.ensures.value c.start_after-start.ensures;
  fewer = omega arith;
}

pub returns-in-Some-clause-advanced : goal.returns-in-Some-clause-advanced
returns-in-Some-clause-advanced c =
    next_found _ c.deref-in-loop-place.result.now c.loop-place.members.items c.push.new.self.items c.loop-place.start c.in-Some.place c.deref-in-loop-place.ensures.value
    c.in_ok-push.ensures.items c.loop-place.invariant.searching c.in-Some.ensures.first

pub returns-in-None-clause-advanced : goal.returns-in-None-clause-advanced
returns-in-None-clause-advanced c =
    let z : length c.deref-in-loop-place.result.now ≡ 0 = c.deref-in-loop-place.ensures.len ∙ c.in-None.ensures.cases.0 in
    none_found _ c.deref-in-loop-place.result.now c.loop-place.members.items c.loop-place.start c.deref-in-loop-place.ensures.value z c.loop-place.invariant.searching
    c.in_default.ensures.first

pub next_place-start-requires : goal.next_place-start-requires
next_place-start-requires c = last_within _ c.loop-place.members.items c.pop.new.self.items c.loop-place.start c.in-Some-pop.last c.in-Some-pop.ensures.items c.loop-place.invariant.searching

pub loop-place-preserved : goal.loop-place-preserved
loop-place-preserved c =
    let w : Walk = record { query = c.args.query.now; rule = c.args.rule.now; pieces = c.args.pieces.now; present = c.args.members.now.items } in
    record {
      numbers = c.first_joining.ensures.numbers ∙ c.loop-place.invariant.numbers;
      searching = subst (λ (n : ℕ). IsSearching w c.pop.new.self.items n) (sym c.next_place-start.ensures)
          (last_left w c.deref-in-loop-place.result.now c.loop-place.members.items c.pop.new.self.items c.loop-place.start c.in-Some-pop.last c.deref-in-loop-place.ensures.value
          c.in-Some-pop.ensures.items c.loop-place.invariant.searching c.in_default.ensures.first);
      fewer = let f = c.loop-place.invariant.fewer in let k = c.in-Some-pop.ensures.cases in omega arith;
    }
