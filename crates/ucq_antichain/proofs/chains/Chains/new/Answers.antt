use Rattle.std.proofs.Common.{◌≡◌, ◌∙◌, ◌++◌, ◌∷◌, [], List, ℕ, ap, refl}
use Rattle.ucq_antichain.proofs.Links.{none_chained}
use Rattle.ucq_antichain.proofs.chains.Chains.new.Goals as goal

pub invariant_of-result : goal.invariant_of-result
invariant_of-result c =
    let next : c.push_within.new.items.items ≡ 0 ∷ [] = c.push_within.ensures.items ∙ ap (λ (xs : List ℕ). xs ++ 0 ∷ []) c.in_ok-next.ensures.items in
    none_chained c.in_ok-heads.heads.items c.push_within.new.items.items c.in_ok-filled.filled.items 16385 129 (c.in_ok-heads.ensures.items_if_clones_equal (λ y e. e)) next
    (c.in_ok-filled.ensures.items_if_clones_equal (λ y e. e)) refl refl
