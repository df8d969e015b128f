use Rattle.std.proofs.Common.{◌≡◌, ◌+◌, ◌<◌, ◌≤◌, ◌++◌, ◌∷◌, [], List, true, length, sym, ap, ◌∙◌, arith, subst}
use Rattle.std.proofs.lemmas.List.{with_items_is, length-append}
use Rattle.ucq_terms.specs.Syntax.{Query}
use Rattle.ucq_antichain.specs.declared.Row.{Row}
use Rattle.ucq_antichain.specs.Rows.{AntichainValue, SomeLiveCovers}
use Rattle.ucq_antichain.specs.Calls.{IsPruned, AddsRow}
use Rattle.ucq_antichain.proofs.Pruned.{with_last, adds_row}
use Rattle.ucq_antichain.specs.inner.Walks.{IsIndexOf}
use Rattle.ucq_antichain.proofs.Walked.{IsIndexOf-added}
use Rattle.ucq_antichain.proofs.Antichain.add.Goals as goal

pub returns-clause-does : goal.returns-clause-does
returns-clause-does c =
    let f = c.self.inside in
    let view : AntichainValue = record { budget = f.budget; rows = f.rows.items } in
    let p : IsPruned c.args.query f.rows.items c.prune-pruned.new.rows c.prune-pruned.result =
    subst (λ (rs : List Row). IsPruned c.args.query rs c.prune-pruned.new.rows c.prune-pruned.result) c.as_mut_slice.ensures.value c.prune-pruned.ensures.pruned in
    let kept = with_items_is f.rows c.prune-pruned.new.rows (c.prune-pruned.ensures.pruned.count ∙ c.as_mut_slice.ensures.len) in
    let e : c.push_within.new.items.items ≡ with_last c.prune-pruned.new.rows c.args.query =
    c.push_within.ensures.items ∙ ap (λ (rs : List Row). rs ++ record { query = c.args.query; live = true } ∷ []) kept in
    let size : length c.as_mut_slice.result.now ≡ length f.rows.items = ap (λ (rs : List Row). length rs) c.as_mut_slice.ensures.value in
    let within : length f.rows.items ≤ f.budget = c.self.invariant.1 in
    let at : c.len-row.result ≡ length f.rows.items = omega (arith, size, c.as_mut_slice.ensures.len, c.len-row.ensures) in
    let room : c.len-row.result < f.budget = omega (arith, size, c.as_mut_slice.ensures.len, c.len-row.ensures, c.len.ensures, c.if-len-self.false) in
    let fresh : ¬ SomeLiveCovers f.rows.items c.args.query =
    subst (λ (rs : List Row). ¬ SomeLiveCovers rs c.args.query) c.as_slice.ensures.value c.in_default.ensures.cover in
    subst (λ (k : AntichainValue). AddsRow k c.args.query c.len-row.result c.prune-pruned.result (record { budget = f.budget; rows = c.push_within.new.items.items })) c.self.view_is
    (subst (λ (rs : List Row). AddsRow view c.args.query c.len-row.result c.prune-pruned.result (record { budget = f.budget; rows = rs })) (sym e)
    (adds_row c.args.query f.rows.items c.prune-pruned.new.rows c.prune-pruned.result p f.budget c.len-row.result fresh at room))

-- how many rows there are with one more
count-last-rows : (after rows : List Row) (q : Query) → after ≡ with_last rows q → length after ≡ length rows + 1
count-last-rows after rows q e = ap (λ (rs : List Row). length rs) e ∙ length-append rows (record { query = q; live = true } ∷ [])

pub invariant_of-self : goal.invariant_of-self
invariant_of-self c =
    let f = c.self.inside in
    let rows = c.prune-pruned.new.rows in
    let p : IsPruned c.args.query f.rows.items rows c.prune-pruned.result =
    subst (λ (rs : List Row). IsPruned c.args.query rs rows c.prune-pruned.result) c.as_mut_slice.ensures.value c.prune-pruned.ensures.pruned in
    let kept = with_items_is f.rows rows (c.prune-pruned.ensures.pruned.count ∙ c.as_mut_slice.ensures.len) in
    let last : c.push_within.new.items.items ≡ with_last rows c.args.query =
    c.push_within.ensures.items ∙ ap (λ (rs : List Row). rs ++ record { query = c.args.query; live = true } ∷ []) kept in
    let size : length c.as_mut_slice.result.now ≡ length f.rows.items = ap (λ (rs : List Row). length rs) c.as_mut_slice.ensures.value in
    let (budget, within, rows_room, empty, room, old, wide) = c.self.invariant in
    let index : IsIndexOf c.prune-pruned.new.index rows = c.prune-pruned.ensures.index in
    let indexed : IsIndexOf c.push.new.self c.push_within.new.items.items =
    subst (λ (rs : List Row). IsIndexOf c.push.new.self rs) (sym last)
    (IsIndexOf-added c.prune-pruned.new.index rows c.args.query c.of-marked.result index c.of-marked.ensures c.push.new.self c.push.ensures.signatures c.push.ensures.has c.push.ensures.others) in (
      budget,
      omega (arith, count-last-rows c.push_within.new.items.items rows c.args.query last, p.count, size, c.as_mut_slice.ensures.len, c.if-len-self.false, c.len.ensures, within),
      omega (arith, rows_room, c.push_within.ensures.capacity),
      empty,
      room,
      indexed,
      omega (arith, wide, c.push.ensures.groups, c.prune-pruned.ensures.groups),
    )
