use Rattle.std.proofs.Common.{◌≡◌, ℕ, ◌<◌, ◌++◌, List, [], ◌∷◌, length, get_or, take, Contains, sym, ap, ◌∙◌, subst, arith}
use Rattle.std.specs.Vec.{vec_len}
use Rattle.std.proofs.lemmas.List.Elements.{Contains-get_or}
use Rattle.std.proofs.lemmas.Result.{on_ok_weaker}
use Rattle.std.proofs.lemmas.Option.{slice_get_within}
use Rattle.ucq_terms.specs.Syntax.{Atom}
use Rattle.ucq_terms.specs.Unifier.{atom_at}
use Rattle.ucq_hom.specs.Search.{HasLowTerms}
use Rattle.ucq_hom.proofs.Found.{ArePlaces-first, ArePlaces-rest, HasLowTerms-at, read_at}
use Rattle.ucq_bans.specs.inner.Search.{IsSetOf, GivesSet}
use Rattle.ucq_bans.proofs.Targets.{target_is_fact, target_named}
use Rattle.ucq_bans.proofs.Sent.{IsMatched-as, IsClash-as, undone_to, none_left, all_taken, popped}
use Rattle.ucq_bans.proofs.Grown.{IsGrownBy-same}
use Rattle.ucq_bans.proofs.Gathered.{GivesSet-nothing, IsSetOf-nothing, found_more, found_matched, found_clash, found_all}
use Rattle.ucq_bans.proofs.search.+gather.Goals as goal
use Rattle.ucq_bans.proofs.search.+gather.Goals.{then-match_terms+in_ok-push+in_ok-gather, else-match_terms}

pub bounds-atoms-place : goal.bounds-atoms-place
bounds-atoms-place t c = ArePlaces-first c.args.atoms.now c.args.order.now c.in-Some.place.now c.in-Some.rest.now c.in-Some.ensures.cases.0 c.requires.places

pub atom-requires : goal.atom-requires
atom-requires t c =
    let items = c.targets-target-items.result.now in
    let f = target_is_fact c.args.bindings.now c.args.facts.now c.index-atoms-place.result items (get_or items c.loop-target.target-index 0)
    c.targets-target-items.ensures (Contains-get_or items c.loop-target.target-index 0 c.loop-target-test.true) in
    record { place = slice_get_within c.args.facts.now (get_or items c.loop-target.target-index 0) f.fact f.at }

pub match_terms-requires : goal.match_terms-requires
match_terms-requires t c =
    let atoms = c.args.atoms.now in
    let place = c.in-Some.place.now in
    let l : place < length atoms = ArePlaces-first atoms c.args.order.now place c.in-Some.rest.now c.in-Some.ensures.cases.0 c.requires.places in
    let atom : c.index-atoms-place.result ≡ atom_at atoms place = read_at atoms place c.index-atoms-place.result l c.index-atoms-place.is in
    subst HasLowTerms (sym (c.terms.ensures.terms ∙ ap (λ (x : Atom). x.terms) atom)) (HasLowTerms-at atoms place l c.requires.low)

pub returns-in_default-clause-found : goal.returns-in_default-clause-found
returns-in_default-clause-found t c =
    let b = c.args.bindings.now in
    let atoms = c.args.atoms.now in
    let facts = c.args.facts.now in
    let chosen = c.args.chosen.now.items in
    let none = none_left c.args.order.now c.in_default.ensures.cases in
    let e : c.as_slice.result.now ≡ chosen = c.as_slice.ensures.value in
    on_ok_weaker c.add.result (λ f. IsGrownBy-same _ _ _ _
    (λ set s. subst (λ (places : List ℕ). GivesSet b atoms places facts chosen set) (sym none) (GivesSet-nothing b atoms facts chosen set (subst (λ (xs : List ℕ). IsSetOf xs set) e s)))
    (λ set g. subst (λ (xs : List ℕ). IsSetOf xs set) (sym e) (IsSetOf-nothing b atoms facts chosen set (subst (λ (places : List ℕ). GivesSet b atoms places facts chosen set) none g))) f)
    c.add.ensures

pub gather-requires : goal.gather-requires
gather-requires t c = (
  let e = c.in-Some.ensures.cases.1 in omega arith,
  (c.requires.low, (ArePlaces-rest c.args.atoms.now c.args.order.now c.in-Some.place.now c.in-Some.rest.now c.in-Some.ensures.cases.0 c.requires.places, c.requires.once)),
)

pub loop-target-preserved : goal.loop-target-preserved
loop-target-preserved t c =
    let b = c.args.bindings.now in
    let atoms = c.args.atoms.now in
    let facts = c.args.facts.now in
    let chosen = c.args.chosen.now.items in
    let rest = c.in-Some.rest.now in
    let items = c.targets-target-items.result.now in
    let a = c.index-atoms-place.result in
    let i = c.loop-target.target-index in
    let target = get_or items i 0 in
    let fact = c.atom.result.now in
    let among : Contains items target = Contains-get_or items i 0 c.loop-target-test.true in
    elim c.if-match_terms.branch [
      | then-match_terms+in_ok-push+in_ok-gather w ↦
          let raw = c.match_terms.ensures.matched w.if-match_terms.true in
          let matched = IsMatched-as c.loop-target.bindings b c.match_terms.new.bindings c.terms.result.now a.terms c.terms-in-loop-target.result.now fact.terms
          c.loop-target.invariant.bindings c.terms.ensures.terms c.terms-in-loop-target.ensures.terms raw in
          let pushed : w.push.new.self.items ≡ chosen ++ target ∷ [] = w.in_ok-push.ensures.items ∙ ap (λ (xs : List ℕ). xs ++ target ∷ []) c.loop-target.invariant.chosen in
          let size : vec_len w.gather.new.chosen ≡ length w.gather.new.chosen.items = omega arith in
          record {
            bindings = w.bindings-is ∙ undone_to c.loop-target.bindings c.match_terms.new.bindings w.gather.new.bindings w.undo.new.self b c.mark-mark.result
                c.terms.result.now c.terms-in-loop-target.result.now c.loop-target.invariant.bindings raw w.in_ok-gather.ensures.bindings c.mark-mark.ensures.mark w.undo.ensures.undone;
            chosen = ap (λ v. v.items) w.chosen-is ∙ popped chosen w.gather.new.chosen.items w.pop.new.self.items target (vec_len w.gather.new.chosen)
                (w.in_ok-gather.ensures.chosen ∙ pushed) size w.pop.ensures.rest;
            found = rw w.found-is (found_more b a items i 0 atoms rest facts chosen _ _ _ c.loop-target-test.true c.loop-target.invariant.found
                (found_matched b c.match_terms.new.bindings a fact target atoms rest facts chosen w.push.new.self.items _ _ c.atom.ensures.atom
                (target_named b facts a fact items target c.targets-target-items.ensures among c.atom.ensures.atom) matched pushed
                w.in_ok-gather.ensures.found));
          }
      | else-match_terms w ↦
          let clash = IsClash-as c.loop-target.bindings b c.terms.result.now a.terms c.terms-in-loop-target.result.now fact.terms
          c.loop-target.invariant.bindings c.terms.ensures.terms c.terms-in-loop-target.ensures.terms (c.match_terms.ensures.clash w.if-match_terms.false) in
          record {
            bindings = w.bindings-is ∙ (c.match_terms.ensures.undone w.if-match_terms.false ∙ c.loop-target.invariant.bindings);
            chosen = rw w.chosen-is c.loop-target.invariant.chosen;
            found = rw w.found-is (found_more b a items i 0 atoms rest facts chosen _ _ _ c.loop-target-test.true c.loop-target.invariant.found
                (found_clash b a fact target atoms rest facts chosen _ c.atom.ensures.atom clash));
          }
    ]

pub returns-clause-found : goal.returns-clause-found
returns-clause-found t c =
    let b = c.args.bindings.now in
    let atoms = c.args.atoms.now in
    let facts = c.args.facts.now in
    let chosen = c.args.chosen.now.items in
    let place = c.in-Some.place.now in
    let rest = c.in-Some.rest.now in
    let items = c.targets-target-items.result.now in
    let a = c.index-atoms-place.result in
    let i = c.loop-target.target-index in
    let l : place < length atoms = ArePlaces-first atoms c.args.order.now place rest c.in-Some.ensures.cases.0 c.requires.places in
    let atom : a ≡ atom_at atoms place = read_at atoms place a l c.index-atoms-place.is in
    let whole : take i items ≡ items = all_taken items i c.loop-target.auto.target-index-end c.loop-target-test.false in
    found_all b atoms c.args.order.now place rest facts a items (take i items) chosen _ _ c.requires.once c.in-Some.ensures.cases.0 atom whole
    c.targets-target-items.ensures c.loop-target.invariant.found
