use Rattle.std.proofs.Common.{◌≡◌, List, length, Contains, get_or, refl, sym, ap, ◌∙◌, subst, arith}
use Rattle.std.specs.Prelude.{false, IsTrue}
use Rattle.std.proofs.lemmas.List.Elements.{Contains-get_or}
use Rattle.ucq_terms.specs.declared.Term.{Term}
use Rattle.ucq_terms.specs.declared.Term.TheVariants.{Constant}
use Rattle.ucq_terms.specs.Syntax.{Atom}
use Rattle.ucq_within.specs.Minimal.{IsHeldWithout}
use Rattle.ucq_within.proofs.Spared.{held_of_safe, safe_of_held}
use Rattle.ucq_within.proofs.minimal.is_safe_without.Goals as goal

pub returns-then-not-is_held_without : goal.returns-then-not-is_held_without
returns-then-not-is_held_without c =
    let q = c.args.query.now in
    let items = c.answers-term-items.result.now in
    let t = get_or items c.loop-term.term-index (Constant 0) in
    let among : Contains q.answers t = subst (λ (ts : List Term). Contains ts t) c.answers-term-items.ensures.answers (Contains-get_or items c.loop-term.term-index (Constant 0) c.loop-term-test.true) in (
      (λ no. let none : IsTrue false = no in absurd cc),
      λ safe. c.if-not-is_held_without.ensures.1
          (subst (λ (atoms : List Atom). IsHeldWithout atoms c.args.place t) (sym c.atoms.ensures.atoms) (held_of_safe q c.args.place t safe among)),
    )

pub returns : goal.returns
returns c =
    let q = c.args.query.now in
    let items = c.answers-term-items.result.now in
    let e = c.answers-term-items.ensures.answers in
    let size : length items ≡ length q.answers = ap (λ (ts : List Term). length ts) e in (
      (λ yes. safe_of_held q c.args.place c.requires.within c.requires.others (λ t i.
          let l = i.1 in
          let read : get_or items i.0 t ≡ t = ap (λ (ts : List Term). get_or ts i.0 t) e ∙ i.2 in
          subst (λ (s : Term). IsHeldWithout q.atoms c.args.place s) read (c.loop-term.invariant i.0 t (omega (arith, l, size, c.loop-term-test.false))))),
      λ safe. refl,
    )
