use Rattle.std.proofs.Common.{length, nat_eq, sym, arith, eq-eqb}
use Rattle.std.proofs.lemmas.List.Sums.{position_or_len_is}
use Rattle.ucq_classes.proofs.constants.place_of.Goals as goal

pub returns-then-constant-constants : goal.returns-then-constant-constants
returns-then-constant-constants c = record {
  place =
      sym (position_or_len_is (nat_eq c.args.constant) c.args.constants.now c.loop-k.k 0 (omega arith) c.loop-k.invariant
      (λ _. eq-eqb _ _ c.if-constant-constants.true));
  within = omega arith;
}

pub returns : goal.returns
returns c = record {
  place = sym (position_or_len_is (nat_eq c.args.constant) c.args.constants.now (length c.args.constants.now) 0 (omega arith)
      (λ k l. c.loop-k.invariant k (omega arith)) (λ l. absurd (omega arith)));
  within = omega arith;
}
