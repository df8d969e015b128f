use Rattle.std.proofs.Common.{◌≤◌, ap, sym, ◌∙◌, length, subst, ℕ, List, [], ◌∷◌, ◌++◌, inl, inr, arith}
use Rattle.std.proofs.lemmas.List.{with_items_is}
use Rattle.ucq_partition.specs.Partition.{IsMadeBy, relabelled}
use Rattle.ucq_partition.proofs.Links.{read_label, IsMadeBy-join}
use Rattle.ucq_partition.proofs.partition.Partition.join.Goals as goal

pub returns-then-first-second-clause-made : goal.returns-then-first-second-clause-made
returns-then-first-second-clause-made c = λ joins m.
    let labels = c.self.inside.labels.items in
    let low = read_label labels c.args.self.now c.args.a _ c.self.view_is c.requires.a c.index-first.ensures in
    let high = read_label labels c.args.self.now c.args.b _ c.self.view_is c.requires.b c.index-second.ensures in
    let below : c.index-first.result.now ≤ c.index-second.result.now = omega (arith, c.if-first-second.true) in
    let made = IsMadeBy-join joins c.args.self.now c.args.a c.args.b _ _ m c.requires.a c.requires.b (inr (high, low)) below in
    let given = c.as_mut_slice.ensures.value ∙ c.self.view_is in
    let same = c.relabel.ensures ∙ ap (λ (v : List ℕ). relabelled v c.index-second.result.now c.index-first.result.now) given in
    subst (λ (v : List ℕ). IsMadeBy (joins ++ (c.args.a, c.args.b) ∷ []) v)
    (sym (with_items_is c.self.inside.labels c.relabel.new.labels
    (c.relabel.auto.labels ∙ (ap length c.as_mut_slice.ensures.value ∙ sym c.self.inside.labels.ok.0)) ∙ same)) made

pub returns-else-first-second-clause-made : goal.returns-else-first-second-clause-made
returns-else-first-second-clause-made c = λ joins m.
    let labels = c.self.inside.labels.items in
    let high = read_label labels c.args.self.now c.args.a _ c.self.view_is c.requires.a c.index-first.ensures in
    let low = read_label labels c.args.self.now c.args.b _ c.self.view_is c.requires.b c.index-second.ensures in
    let below : c.index-second.result.now ≤ c.index-first.result.now = omega (arith, c.if-first-second.false) in
    let made = IsMadeBy-join joins c.args.self.now c.args.a c.args.b _ _ m c.requires.a c.requires.b (inl (high, low)) below in
    let given = c.as_mut_slice-else-first-second.ensures.value ∙ c.self.view_is in
    let same = c.relabel-else-first-second.ensures ∙ ap (λ (v : List ℕ). relabelled v c.index-first.result.now c.index-second.result.now) given in
    subst (λ (v : List ℕ). IsMadeBy (joins ++ (c.args.a, c.args.b) ∷ []) v)
    (sym (with_items_is c.self.inside.labels c.relabel-else-first-second.new.labels
    (c.relabel-else-first-second.auto.labels ∙ (ap length c.as_mut_slice-else-first-second.ensures.value ∙ sym c.self.inside.labels.ok.0)) ∙ same)) made
