use Rattle.std.proofs.Common.{◌+◌, ℕ, List, Option, take, get_or, arith, subst, sym}
use Rattle.std.proofs.lemmas.List.{take_more}
use Rattle.std.proofs.lemmas.List.Elements.{All-push}
use Rattle.std.specs.Prelude.{All, MatchOption}
use Rattle.ucq_words.specs.Settings.{IsDigit, SpellsNumber}
use Rattle.ucq_words.proofs.Digits.{value_of-more, value_of-take}
use Rattle.ucq_words.proofs.numbers.number_of.Goals as goal

pub returns-in_err-value : goal.returns-in_err-value
returns-in_err-value c =
    let none : (number : ℕ) → SpellsNumber c.args.least c.args.most c.args.digits.now number → ⊥ = λ number s.
    let over = c.in_err-value.ensures (s.each c.loop-byte.byte-index 0 c.loop-byte-test.true) in
    let more = value_of-more c.args.digits.now c.loop-byte.byte-index c.loop-byte-test.true in
    let whole = value_of-take c.args.digits.now (c.loop-byte.byte-index + 1) in
    let value = c.loop-byte.invariant.value in
    let spelled = s.value in
    let high = s.high in
    omega arith in
    subst (λ (o : Option ℕ). MatchOption o ((number : ℕ) → SpellsNumber c.args.least c.args.most c.args.digits.now number → ⊥) (λ number. SpellsNumber c.args.least c.args.most c.args.digits.now number)) (sym c.from_residual.ensures) none

pub loop-byte-preserved : goal.loop-byte-preserved
loop-byte-preserved c =
    let more = value_of-more c.args.digits.now c.loop-byte.byte-index c.loop-byte-test.true in
    let value = c.loop-byte.invariant.value in
    let is = c.in_ok-value.ensures in
    let sum = is.1 in
    record {
      each = subst (λ (xs : List ℕ). All IsDigit xs) (sym (take_more c.args.digits.now c.loop-byte.byte-index 0 c.loop-byte-test.true))
          (All-push IsDigit (take c.loop-byte.byte-index c.args.digits.now) (get_or c.args.digits.now c.loop-byte.byte-index 0) c.loop-byte.invariant.each is.0);
      value = omega arith;
      small = is.2;
    }
