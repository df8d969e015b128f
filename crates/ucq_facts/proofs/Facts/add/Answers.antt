use Rattle.std.proofs.Common.{◌≡◌, true, List, [], ◌∷◌, length, length-append, slice_get, sym, ap, ◌∙◌, subst, arith}
use Rattle.std.specs.Prelude.{option_copied}
use Rattle.ucq_terms.specs.Syntax.{Atom}
use Rattle.ucq_facts.specs.Facts.{DoesAdd}
use Rattle.ucq_facts.specs.Postings.{IsPushed}
use Rattle.ucq_facts.specs.Index.{predicate_eq, predicate_of, IsIndexed, IsPushedBefore}
use Rattle.ucq_facts.proofs.Indexed.{IsIndexed-push}
use Rattle.ucq_facts.proofs.Inserted.{inserted, last_of}
use Rattle.ucq_facts.proofs.Facts.add.Goals as goal

pub returns-then-not-branch-clause-does : goal.returns-then-not-branch-clause-does
returns-then-not-branch-clause-does c =
    let new = c.insert.new.self.keys in
    let is : DoesAdd c.self.inside.atoms.keys c.args.atom c.in_ok-insert.field-0 new =
    inserted c.self.inside.atoms.keys c.args.atom c.in_ok-insert.field-0 new c.in_ok-insert.ensures.added c.in_ok-insert.ensures.keys in
    rw c.if-not-branch.true at (subst (λ (xs : List Atom). DoesAdd xs c.args.atom c.in_ok-insert.field-0 new) c.self.view_is is)

pub returns-in-Ok-clause-does : goal.returns-in-Ok-clause-does
returns-in-Ok-clause-does c =
    let new = c.insert.new.self.keys in
    let is : DoesAdd c.self.inside.atoms.keys c.args.atom c.in_ok-insert.field-0 new =
    inserted c.self.inside.atoms.keys c.args.atom c.in_ok-insert.field-0 new c.in_ok-insert.ensures.added c.in_ok-insert.ensures.keys in
    rw c.if-not-branch.false at (subst (λ (xs : List Atom). DoesAdd xs c.args.atom c.in_ok-insert.field-0 new) c.self.view_is is)

pub invariant_of-self-in-Ok : goal.invariant_of-self-in-Ok
invariant_of-self-in-Ok c =
    let facts : List Atom = c.self.inside.atoms.keys in
    let is : DoesAdd facts c.args.atom true c.insert.new.self.keys =
    rw c.if-not-branch.false at (inserted facts c.args.atom c.in_ok-insert.field-0 c.insert.new.self.keys c.in_ok-insert.ensures.added c.in_ok-insert.ensures.keys) in
    let atom : c.unwrap-atom.result.now ≡ c.args.atom =
    last_of facts c.args.atom c.unwrap-atom.result.now c.len-number.result c.len-number.ensures.len
    (ap option_copied (sym c.unwrap-atom.ensures) ∙ (c.get_index.ensures.key ∙ ap (λ (xs : List Atom). slice_get xs c.len-number.result) is.1)) in
    let size = ap (λ (xs : List Atom). length xs) is.1 in
    let view = ap (λ (xs : List Atom). length xs) c.self.view_is in
    let first = subst (λ (a : Atom). IsPushed predicate_eq c.self.inside.by_predicate (predicate_of a) c.len-number.result c.push.new.by_predicate) atom c.in-Ok.ensures.predicate in
    let terms = subst (λ (a : Atom). IsPushedBefore c.self.inside.by_term a (length a.terms) c.len-number.result c.push.new.by_term) atom c.in-Ok.ensures.terms in
    let pushed =
    IsIndexed-push facts c.args.atom c.len-number.result c.self.inside.by_predicate c.push.new.by_predicate c.self.inside.by_term c.push.new.by_term
    c.self.invariant.1 c.len-number.ensures.len first terms in (
      omega (arith, size, length-append facts (c.args.atom ∷ []), view, c.requires),
      subst (λ (xs : List Atom). IsIndexed xs c.push.new.by_predicate c.push.new.by_term) (sym is.1) pushed,
    )
