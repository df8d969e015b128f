use Rattle.std.proofs.Common.{◌≡◌, ℕ, ◌+◌, ◌<◌, List, length, get_or, take, Contains, refl, sym, ap, ◌∙◌, subst, arith, false}
use Rattle.std.specs.Prelude.{IsTrue}
use Rattle.std.proofs.lemmas.List.Elements.{Contains-get_or}
use Rattle.std.proofs.lemmas.Option.{slice_get_within}
use Rattle.ucq_terms.specs.Syntax.{Atom}
use Rattle.ucq_terms.specs.Unifier.{atom_at}
use Rattle.ucq_hom.specs.Search.{HasLowTerms}
use Rattle.ucq_hom.proofs.Found.{ArePlaces-first, ArePlaces-rest, HasLowTerms-at, read_at}
use Rattle.ucq_bans.specs.inner.Search.{AreApart, AreTargets, SomeSends, SendsBy}
use Rattle.ucq_bans.proofs.Targets.{target_is_fact, target_named}
use Rattle.ucq_bans.proofs.Sent.{SomeSends-nothing, SendsBy-first, SomeSends-by, SendsBy-matched, SomeSends-matched, SomeSends-apart, none_by_clash, none_by_more, IsMatched-as, IsClash-as, undone_to, none_left, all_taken}
use Rattle.ucq_bans.proofs.search.+is_sent.Goals as goal
use Rattle.ucq_bans.proofs.search.+is_sent.Goals.{then-match_terms+else-is_sent+else-not-meets, else-match_terms}

pub returns-in_default-clause-sent : goal.returns-in_default-clause-sent
returns-in_default-clause-sent t c =
    let none = none_left c.args.order.now c.in_default.ensures.cases in (
      λ yes. subst (λ (places : List ℕ). SomeSends c.args.bindings.now c.args.atoms.now places c.args.facts.now) (sym none) (SomeSends-nothing c.args.bindings.now c.args.atoms.now c.args.facts.now),
      λ s. refl,
    )

pub bounds-atoms-place : goal.bounds-atoms-place
bounds-atoms-place t c = ArePlaces-first c.args.atoms.now c.args.order.now c.in-Some.place.now c.in-Some.rest.now c.in-Some.ensures.cases.0 c.requires.places

pub atom-requires : goal.atom-requires
atom-requires t c =
    let items = c.targets-target-items.result.now in
    let f = target_is_fact c.args.bindings.now c.args.facts.now c.index-atoms-place.result items (get_or items c.loop-target.target-index 0)
    c.targets-target-items.ensures (Contains-get_or items c.loop-target.target-index 0 c.loop-target-test.true) in
    record { place = slice_get_within c.args.facts.now (get_or items c.loop-target.target-index 0) f.fact f.at }

pub match_terms-requires : goal.match_terms-requires
match_terms-requires t c =
    let atoms = c.args.atoms.now in
    let place = c.in-Some.place.now in
    let l : place < length atoms = ArePlaces-first atoms c.args.order.now place c.in-Some.rest.now c.in-Some.ensures.cases.0 c.requires.places in
    let atom : c.index-atoms-place.result ≡ atom_at atoms place = read_at atoms place c.index-atoms-place.result l c.index-atoms-place.is in
    subst HasLowTerms (sym (c.terms.ensures.terms ∙ ap (λ (x : Atom). x.terms) atom)) (HasLowTerms-at atoms place l c.requires.low)

pub is_sent-is_sent-requires : goal.is_sent-is_sent-requires
is_sent-is_sent-requires t c = (
  let e = c.in-Some.ensures.cases.1 in omega arith,
  (c.requires.low, ArePlaces-rest c.args.atoms.now c.args.order.now c.in-Some.place.now c.in-Some.rest.now c.in-Some.ensures.cases.0 c.requires.places),
)

pub meets-requires : goal.meets-requires
meets-requires t c = ArePlaces-rest c.args.atoms.now c.args.order.now c.in-Some.place.now c.in-Some.rest.now c.in-Some.ensures.cases.0 c.requires.places

pub returns-then-not-meets-clause-sent : goal.returns-then-not-meets-clause-sent
returns-then-not-meets-clause-sent t c =
    let b = c.args.bindings.now in
    let atoms = c.args.atoms.now in
    let facts = c.args.facts.now in
    let rest = c.in-Some.rest.now in
    let a = c.index-atoms-place.result in
    let matched = IsMatched-as c.loop-target.bindings b c.match_terms.new.bindings c.terms.result.now a.terms c.terms-in-loop-target.result.now c.atom.result.now.terms
    c.loop-target.invariant.bindings c.terms.ensures.terms c.terms-in-loop-target.ensures.terms (c.match_terms.ensures.matched c.if-match_terms.true) in
    let apart = subst (AreApart atoms rest) c.terms-then-match_terms.ensures.terms (c.meets.ensures c.if-not-meets.true) in (
      (λ yes. let none : IsTrue false = yes in absurd cc),
      λ s.
          let yes = c.is_sent-is_sent.ensures.sent.1 (SomeSends-apart b c.match_terms.new.bindings atoms c.in-Some.place.now rest facts a.terms c.atom.result.now.terms matched apart
          (subst (λ (places : List ℕ). SomeSends b atoms places facts) c.in-Some.ensures.cases.0 s)) in
          let no = c.if-is_sent.false in cc,
    )

pub returns-then-is_sent-clause-sent : goal.returns-then-is_sent-clause-sent
returns-then-is_sent-clause-sent t c =
    let b = c.args.bindings.now in
    let atoms = c.args.atoms.now in
    let facts = c.args.facts.now in
    let place = c.in-Some.place.now in
    let rest = c.in-Some.rest.now in
    let items = c.targets-target-items.result.now in
    let a = c.index-atoms-place.result in
    let i = c.loop-target.target-index in
    let among : Contains items (get_or items i 0) = Contains-get_or items i 0 c.loop-target-test.true in
    let l : place < length atoms = ArePlaces-first atoms c.args.order.now place rest c.in-Some.ensures.cases.0 c.requires.places in
    let atom : a ≡ atom_at atoms place = read_at atoms place a l c.index-atoms-place.is in
    let matched = IsMatched-as c.loop-target.bindings b c.match_terms.new.bindings c.terms.result.now a.terms c.terms-in-loop-target.result.now c.atom.result.now.terms
    c.loop-target.invariant.bindings c.terms.ensures.terms c.terms-in-loop-target.ensures.terms (c.match_terms.ensures.matched c.if-match_terms.true) in
    let by = SendsBy-matched b c.match_terms.new.bindings a c.atom.result.now (get_or items i 0) items atoms rest facts among c.atom.ensures.atom
    (target_named b facts a c.atom.result.now items (get_or items i 0) c.targets-target-items.ensures among c.atom.ensures.atom) matched
    (c.is_sent-is_sent.ensures.sent.0 c.if-is_sent.true) in (
      (λ yes. subst (λ (places : List ℕ). SomeSends b atoms places facts) (sym c.in-Some.ensures.cases.0)
          (SomeSends-by b atoms place rest facts items (subst (λ (x : Atom). SendsBy b x items atoms rest facts) atom by))),
      λ s. refl,
    )

pub loop-target-preserved : goal.loop-target-preserved
loop-target-preserved t c =
    let b = c.args.bindings.now in
    let atoms = c.args.atoms.now in
    let facts = c.args.facts.now in
    let rest = c.in-Some.rest.now in
    let items = c.targets-target-items.result.now in
    let a = c.index-atoms-place.result in
    let i = c.loop-target.target-index in
    elim c.if-match_terms.branch [
      | then-match_terms+else-is_sent+else-not-meets w ↦
          let raw = c.match_terms.ensures.matched w.if-match_terms.true in
          let matched = IsMatched-as c.loop-target.bindings b c.match_terms.new.bindings c.terms.result.now a.terms c.terms-in-loop-target.result.now c.atom.result.now.terms
          c.loop-target.invariant.bindings c.terms.ensures.terms c.terms-in-loop-target.ensures.terms raw in
          record {
            bindings = w.bindings-is ∙ undone_to c.loop-target.bindings c.match_terms.new.bindings w.is_sent-is_sent.new.bindings w.undo.new.self b c.mark-mark.result
                c.terms.result.now c.terms-in-loop-target.result.now c.loop-target.invariant.bindings raw w.is_sent-is_sent.ensures.bindings c.mark-mark.ensures.mark w.undo.ensures.undone;
            none = none_by_more b a items i 0 atoms rest facts c.loop-target-test.true c.loop-target.invariant.none (λ s e.
                let yes = w.is_sent-is_sent.ensures.sent.1
                (SomeSends-matched b c.match_terms.new.bindings a c.atom.result.now (get_or items i 0) (take (i + 1) items) atoms rest facts c.atom.ensures.atom matched s e) in
                let no = w.if-is_sent.false in cc);
          }
      | else-match_terms w ↦
          let clash = IsClash-as c.loop-target.bindings b c.terms.result.now a.terms c.terms-in-loop-target.result.now c.atom.result.now.terms
          c.loop-target.invariant.bindings c.terms.ensures.terms c.terms-in-loop-target.ensures.terms (c.match_terms.ensures.clash w.if-match_terms.false) in
          record {
            bindings = w.bindings-is ∙ (c.match_terms.ensures.undone w.if-match_terms.false ∙ c.loop-target.invariant.bindings);
            none = none_by_more b a items i 0 atoms rest facts c.loop-target-test.true c.loop-target.invariant.none (λ s e.
                none_by_clash b a c.atom.result.now (get_or items i 0) (take (i + 1) items) atoms rest facts c.atom.ensures.atom clash s e);
          }
    ]

pub returns-clause-sent : goal.returns-clause-sent
returns-clause-sent t c =
    let b = c.args.bindings.now in
    let atoms = c.args.atoms.now in
    let facts = c.args.facts.now in
    let place = c.in-Some.place.now in
    let rest = c.in-Some.rest.now in
    let items = c.targets-target-items.result.now in
    let a = c.index-atoms-place.result in
    let i = c.loop-target.target-index in
    let l : place < length atoms = ArePlaces-first atoms c.args.order.now place rest c.in-Some.ensures.cases.0 c.requires.places in
    let atom : a ≡ atom_at atoms place = read_at atoms place a l c.index-atoms-place.is in
    let whole : take i items ≡ items = all_taken items i c.loop-target.auto.target-index-end c.loop-target-test.false in (
      (λ yes. let none : IsTrue false = yes in absurd cc),
      λ s. absurd (c.loop-target.invariant.none (subst (λ (xs : List ℕ). SendsBy b a xs atoms rest facts) (sym whole)
          (subst (λ (x : Atom). SendsBy b x items atoms rest facts) (sym atom)
          (SendsBy-first b atoms place rest facts items (subst (λ (x : Atom). AreTargets b facts x items) atom c.targets-target-items.ensures)
          (subst (λ (places : List ℕ). SomeSends b atoms places facts) c.in-Some.ensures.cases.0 s))))),
    )
