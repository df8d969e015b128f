use Rattle.std.proofs.Common.{◌≡◌, ◌<◌, ℕ, List, length, sym, ap, ◌∙◌, subst}
use Rattle.std.specs.List.{All}
use Rattle.ucq_terms.specs.Syntax.{Atom}
use Rattle.ucq_facts.specs.Facts.{is_match}
use Rattle.ucq_facts.specs.Index.{atoms_at}
use Rattle.ucq_facts.proofs.Indexed.{places-give, places-below}
use Rattle.ucq_facts.proofs.Facts.matching.Goals as goal

pub new-requires : goal.new-requires
new-requires c =
    let facts : c.as_slice.result.now ≡ c.args.self.now = c.as_slice.ensures.keys ∙ c.self.view_is in
    subst (λ (xs : List Atom). All (λ (place : ℕ). place < length xs) c.places-places.result.now) (sym facts)
    (places-below c.args.self.now (is_match c.args.name c.args.arity c.args.bound) c.places-places.result.now c.places-places.ensures)

pub returns : goal.returns
returns c =
    let facts : c.as_slice.result.now ≡ c.args.self.now = c.as_slice.ensures.keys ∙ c.self.view_is in
    c.new.ensures ∙ (ap (λ (xs : List Atom). atoms_at xs c.places-places.result.now) facts
    ∙ places-give c.args.self.now (is_match c.args.name c.args.arity c.args.bound) c.places-places.result.now c.places-places.ensures)
