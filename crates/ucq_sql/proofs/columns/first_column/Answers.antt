use Rattle.std.proofs.Common.{◌≡◌, ◌∙◌, List, length, sym, ap, arith}
use Rattle.std.specs.List.{position_or_len}
use Rattle.ucq_terms.specs.declared.Term.{Term}
use Rattle.ucq_terms.specs.Numbering.{term_eq}
use Rattle.ucq_sql.proofs.Firsts.{first_here, first_later}
use Rattle.ucq_sql.proofs.columns.first_column.Goals as goal

pub returns-then-column-terms : goal.returns-then-column-terms
returns-then-column-terms c =
    let a = c.index-atoms-alias.result in
    let place = c.first_place-column.result in
    let size : length c.terms-in-loop-alias.result.now ≡ length a.terms = ap (λ (l : List Term). length l) c.terms-in-loop-alias.ensures.terms in
    let at : place ≡ position_or_len (term_eq c.args.term) a.terms = c.first_place-column.ensures.place ∙ ap (position_or_len (term_eq c.args.term)) c.terms.ensures.terms in
    sym (c.loop-alias.invariant ∙ first_here c.args.atoms.now c.args.term c.loop-alias.alias place a c.loop-alias-test.true c.index-atoms-alias.is at (omega (arith, size, c.if-column-terms.true)))

pub loop-alias-preserved : goal.loop-alias-preserved
loop-alias-preserved c =
    let a = c.index-atoms-alias.result in
    let place = c.first_place-column.result in
    let size : length c.terms-in-loop-alias.result.now ≡ length a.terms = ap (λ (l : List Term). length l) c.terms-in-loop-alias.ensures.terms in
    let at : place ≡ position_or_len (term_eq c.args.term) a.terms = c.first_place-column.ensures.place ∙ ap (position_or_len (term_eq c.args.term)) c.terms.ensures.terms in
    c.loop-alias.invariant ∙ first_later c.args.atoms.now c.args.term c.loop-alias.alias place a c.loop-alias-test.true c.index-atoms-alias.is at (omega (arith, size, c.if-column-terms.false))
