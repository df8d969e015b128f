use Rattle.std.proofs.Common.{◌≡◌, ℕ, ◌<◌, List, length, get_or, Contains, ap, ◌∙◌, subst}
use Rattle.std.proofs.lemmas.List.Elements.{Contains-get_or}
use Rattle.ucq_terms.specs.Syntax.{Atom}
use Rattle.ucq_terms.specs.Unifier.{atom_at}
use Rattle.ucq_terms.proofs.Lists.{Any-from_contains}
use Rattle.ucq_hom.proofs.Found.{read_at}
use Rattle.ucq_bans.specs.inner.Search.{AreApart}
use Rattle.ucq_bans.proofs.Sent.{AreApart-nothing, AreApart-more, all_taken}
use Rattle.ucq_bans.proofs.search.meets.Goals as goal

pub loop-place-init : goal.loop-place-init
loop-place-init c = AreApart-nothing c.args.atoms.now c.args.terms.now

pub bounds-atoms-place : goal.bounds-atoms-place
bounds-atoms-place c = c.requires.within _ (Contains-get_or c.args.places.now c.loop-place.place-index 0 c.loop-place-test.true)

pub loop-place-preserved : goal.loop-place-preserved
loop-place-preserved c =
    let atoms = c.args.atoms.now in
    let places = c.args.places.now in
    let i = c.loop-place.place-index in
    let terms = c.args.terms.now in
    let others = c.terms.result.now in
    let l : get_or places i 0 < length atoms = c.requires.within _ (Contains-get_or places i 0 c.loop-place-test.true) in
    let atom : c.index-atoms-place.result ≡ atom_at atoms (get_or places i 0) = read_at atoms (get_or places i 0) c.index-atoms-place.result l c.index-atoms-place.is in
    AreApart-more atoms places i 0 terms others c.loop-place-test.true (c.terms.ensures.terms ∙ ap (λ (a : Atom). a.terms) atom)
    (λ t j k. let yes = c.share.ensures.1 (Any-from_contains (Contains others) terms t j k) in let no = c.if-share.false in cc) c.loop-place.invariant

pub returns : goal.returns
returns c = λ e. subst (λ (ps : List ℕ). AreApart c.args.atoms.now ps c.args.terms.now)
    (all_taken c.args.places.now c.loop-place.place-index c.loop-place.auto.place-index-end c.loop-place-test.false) c.loop-place.invariant
