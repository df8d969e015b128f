use Rattle.std.proofs.Common.{map, sym, ap, ◌∙◌, arith}
use Rattle.std.specs.Char.{to_ascii_lowercase}
use Rattle.std.proofs.lemmas.Bool.Decides.{Decides-eqb}
use Rattle.ucq_sql.proofs.Caseless.{caseless-same, caseless-tells}
use Rattle.ucq_sql.proofs.tables.have_one_caseless_name.Goals as goal

pub returns-then-one-other : goal.returns-then-one-other
returns-then-one-other c =
    let names = c.args.names.now in
    let a = c.args.one in
    let b = c.args.other in
    let ours = ap (map to_ascii_lowercase) c.text_or_empty.ensures in
    let theirs = ap (map to_ascii_lowercase) c.text_or_empty-then-one-other.ensures in (
      (λ yes. caseless-same names a b (omega arith) c.if-one-other.true (sym ours ∙ (c.eq_ignore_ascii_case.ensures.test.0 yes ∙ theirs))),
      λ e. c.eq_ignore_ascii_case.ensures.test.1 (ours ∙ ((caseless-tells names a b (omega arith) (omega arith) e).0 ∙ sym theirs)),
    )

pub returns-else-one-other : goal.returns-else-one-other
returns-else-one-other c =
    let a = c.args.one in
    let b = c.args.other in (
      (λ yes. absurd (c.if-one-other.false ((Decides-eqb a.arity b.arity).0 yes))),
      λ e. absurd (c.if-one-other.false (caseless-tells c.args.names.now a b (omega arith) (omega arith) e).1),
    )
