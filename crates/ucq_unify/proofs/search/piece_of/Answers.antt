use Rattle.std.proofs.Common.{◌≡◌, ◌++◌, ◌∷◌, [], ℕ, List, take, refl, sym, ap, ◌∙◌, subst, Option, Some, None}
use Rattle.std.proofs.lemmas.List.{append-nil}
use Rattle.std.specs.List.Sorted.{IsStrictlyIncreasing}
use Rattle.ucq_terms.specs.Unifier.{places}
use Rattle.ucq_unify.specs.inner.Growing.{pairs_of, head_at}
use Rattle.ucq_unify.proofs.Choices.{pair_at, pairs_of-more, pairs_rise}
use Rattle.ucq_unify.proofs.search.piece_of.Goals.{in-Some+in_ok-push, in_default}
use Rattle.ucq_unify.proofs.search.piece_of.Goals as goal

no_head : (o : Option ℕ) → ((x : ℕ) → o ≡ Some x → ⊥) → o ≡ None
no_head None f = refl
no_head (Some x) f = absurd (f x refl)

pub loop-place-preserved : goal.loop-place-preserved
loop-place-preserved c =
    let choice = c.args.choice.now in
    let i = c.loop-place.place in
    let more = pairs_of-more choice i c.loop-place-test.true in
    elim c.match-choice-place.branch [
      | in-Some+in_ok-push w ↦
          ap (λ v. v.items) w.pairs-is ∙ (w.in_ok-push.ensures.items ∙ (ap (λ (ps : List (ℕ × ℕ)). ps ++ (i, w.in-Some.head) ∷ []) c.loop-place.invariant ∙
          (ap (λ (o : Option ℕ). pairs_of (take i choice) ++ pair_at i o) (sym w.in-Some.is) ∙ sym more)))
      | in_default w ↦
          ap (λ v. v.items) w.pairs-is ∙ (c.loop-place.invariant ∙ (sym (append-nil (pairs_of (take i choice))) ∙
          (ap (λ (o : Option ℕ). pairs_of (take i choice) ++ pair_at i o) (sym (no_head (head_at choice i) w.in_default.not-Some)) ∙ sym more)))
    ]

pub invariant_of-result : goal.invariant_of-result
invariant_of-result c =
    subst (λ (pairs : List (ℕ × ℕ)). IsStrictlyIncreasing (places pairs)) (sym c.loop-place.invariant) (pairs_rise (take c.loop-place.place c.args.choice.now))
