use Rattle.std.proofs.Common.{◌≡◌, ℕ, true, false, sym, subst}
use Rattle.ucq_terms.specs.Unifier.{KeepsPredicate}
use Rattle.ucq_unify.specs.Pieces.{AreSinglePieces}
use Rattle.ucq_unify.proofs.Searched.{no_pieces}
use Rattle.ucq_unify.proofs.search.single_pieces.Goals as goal

pub returns-then-not-share_predicate : goal.returns-then-not-share_predicate
returns-then-not-share_predicate c =
    let q = c.args.query.now in
    let rule = c.args.rule.now in
    let none : (pair : ℕ × ℕ) → ¬ KeepsPredicate q rule pair =
    λ pair k.
    let shared : c.share_predicate.result ≡ true = c.share_predicate.ensures.1 (pair, k) in
    let untold : c.share_predicate.result ≡ false = c.if-not-share_predicate.true in cc in
    subst (AreSinglePieces q rule) (sym c.new.ensures.items) (no_pieces q rule none)
