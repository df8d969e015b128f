use Rattle.std.proofs.Common.{◌≡◌, ◌<◌, ◌-◌, ◌++◌, ◌∷◌, [], ℕ, List, length, map, take, drop, get_or, Contains, refl, sym, ap, ◌∙◌, subst, arith}
use Rattle.std.proofs.lemmas.List.{append-nil, append_assoc, map-append}
use Rattle.std.proofs.lemmas.Result.{on_ok_weaker}
use Rattle.ucq_terms.specs.declared.Term.{Term}
use Rattle.ucq_terms.specs.Syntax.{Atom}
use Rattle.ucq_terms.specs.Unifier.{atom_at}
use Rattle.ucq_terms.proofs.Lists.{Contains-first}
use Rattle.ucq_hom.specs.Bindings.{Bound, IsMatched}
use Rattle.ucq_hom.specs.Search.{HasLowTerms}
use Rattle.ucq_hom.proofs.Found.{ArePlaces-rest, HasLowTerms-at}
use Rattle.ucq_hom.proofs.Homs.{HasLowAtoms-atoms}
use Rattle.ucq_facts.specs.Facts.{matching}
use Rattle.ucq_eval.specs.inner.Join.{SendsToTuple, HasUnknown, TellsTuple, TellsNone, AreReached}
use Rattle.ucq_eval.proofs.Grown.{IsGrownBy-nothing, IsGrownBy-same}
use Rattle.ucq_eval.proofs.Places.{HasSamePlaces-swapped, HasSamePlaces-trans, HasSamePlaces-part, HasSamePlaces-first, ArePlaces-same, read_of, HasSamePlaces-refl, no_places, some_place}
use Rattle.ucq_eval.proofs.Given.{none_by_unknown, read_alone, SendsToTuple-read, place_by_unread, AreReached-same, AreReached-matched}
use Rattle.ucq_eval.proofs.Branches.{targets_of_first, found_none, found_more, found_all, found_matched, name-first}
use Rattle.ucq_eval.proofs.join.+join.Goals as goal
use Rattle.ucq_eval.proofs.join.+join.Goals.{explore-then-read+else-is_found+else-is_empty, explore-else-read}

pub branch-visit-requires : goal.branch-visit-requires
branch-visit-requires t c =
    let q = c.args.query.now in
    let places = c.args.places.now in
    let order = c.swap.new.self in
    let place = get_or order 0 0 in
    let rest = c.loop-target.rest in
    let choice = c.next_atom-next.ensures in
    let some : 0 < length order = let a = c.requires.some in let b = c.swap.ensures.len in omega arith in
    let swapped = HasSamePlaces-swapped places order 0 c.next_atom-next.result.0 c.requires.some choice.within c.swap.ensures.len c.swap.ensures.by_index in
    let same = HasSamePlaces-trans places order (place ∷ rest) swapped (HasSamePlaces-first order rest some c.loop-target.invariant.places) in
    let targets = targets_of_first c.args.bindings.now c.args.facts.now c.atoms.result.now q.atoms places order c.next_atom-next.result.0 c.next_atom-next.result.1 c.atoms.ensures.atoms c.swap.ensures.by_index choice in
    let named = name-first c.args.facts.now (map (λ x. x.now) c.loop-target.yielded) c.loop-target.target-iterator (atom_at q.atoms place).name (length (atom_at q.atoms place).terms) targets.key
    c.into_iter-target-iterator.result c.in-Some.target.now c.next.new.self (c.into_iter-target-iterator.ensures.into_iter_gives ∙ targets.are)
    c.loop-target.invariant.left c.in-Some.ensures.steps in (
      (let size = same.size in let n : length (place ∷ rest) ≡ length places = size in omega arith),
      (
        ArePlaces-same q.atoms places (place ∷ rest) same c.requires.places,
        (
          subst (λ (b : Bound). AreReached b q (place ∷ rest)) (sym c.loop-target.invariant.bindings) (AreReached-same c.args.bindings.now q places (place ∷ rest) same c.requires.reached),
          sym named,
        ),
      ),
    )

pub branch-loop-target-init : goal.branch-loop-target-init
branch-loop-target-init t c =
    let order = c.swap.new.self in
    let part = take (length order - 1) (drop 1 order) in
    record {
      bindings = refl;
      places = HasSamePlaces-refl part;
      left = refl;
      found = found_none c.args.bindings.now c.args.query.now (get_or order 0 0) part c.args.facts.now _;
    }

pub branch-loop-target-preserved : goal.branch-loop-target-preserved
branch-loop-target-preserved t c =
    let q = c.args.query.now in
    let order = c.swap.new.self in
    let part = take (length order - 1) (drop 1 order) in
    let so_far = c.loop-target.invariant in
    let items = map-append (λ x. x.now) c.loop-target.yielded (c.in-Some.target ∷ []) in
    record {
      bindings = c.in_ok-visit.ensures.bindings ∙ so_far.bindings;
      places = HasSamePlaces-trans part c.loop-target.rest c.visit.new.rest so_far.places c.in_ok-visit.ensures.places;
      left =
          ap (λ (xs : List Atom). xs ++ c.next.new.self) items ∙
          (append_assoc (map (λ x. x.now) c.loop-target.yielded) (c.in-Some.target.now ∷ []) c.next.new.self ∙
          (ap (λ (xs : List Atom). map (λ x. x.now) c.loop-target.yielded ++ xs) (sym c.in-Some.ensures.steps) ∙ so_far.left));
      found = rw items
          (found_more c.args.bindings.now c.loop-target.bindings q (get_or order 0 0) (map (λ x. x.now) c.loop-target.yielded) c.in-Some.target.now part c.loop-target.rest
          c.args.facts.now _ _ _ so_far.bindings so_far.places so_far.found c.in_ok-visit.ensures.found);
    }

pub branch-returns-clause-places : goal.branch-returns-clause-places
branch-returns-clause-places t c =
    let places = c.args.places.now in
    let order = c.swap.new.self in
    let some : 0 < length order = let a = c.requires.some in let b = c.swap.ensures.len in omega arith in
    let swapped = HasSamePlaces-swapped places order 0 c.next_atom-next.result.0 c.requires.some c.next_atom-next.ensures.within c.swap.ensures.len c.swap.ensures.by_index in
    HasSamePlaces-trans places order _ swapped (HasSamePlaces-part order c.loop-target.rest some c.loop-target.invariant.places)

pub branch-returns-clause-found : goal.branch-returns-clause-found
branch-returns-clause-found t c =
    let q = c.args.query.now in
    let facts = c.args.facts.now in
    let places = c.args.places.now in
    let order = c.swap.new.self in
    let place = get_or order 0 0 in
    let part = take (length order - 1) (drop 1 order) in
    let choice = c.next_atom-next.ensures in
    let some : 0 < length order = let a = c.requires.some in let b = c.swap.ensures.len in omega arith in
    let swapped = HasSamePlaces-swapped places order 0 c.next_atom-next.result.0 c.requires.some choice.within c.swap.ensures.len c.swap.ensures.by_index in
    let targets = targets_of_first c.args.bindings.now facts c.atoms.result.now q.atoms places order c.next_atom-next.result.0 c.next_atom-next.result.1 c.atoms.ensures.atoms c.swap.ensures.by_index choice in
    let done = map (λ x. x.now) c.loop-target.yielded in
    let all : done ≡ matching facts (atom_at q.atoms place).name (length (atom_at q.atoms place).terms) targets.key =
    sym (append-nil done) ∙
    (ap (λ (xs : List Atom). done ++ xs) (sym c.in-None.ensures.steps.0) ∙
    (c.loop-target.invariant.left ∙
    (c.into_iter-target-iterator.ensures.into_iter_gives ∙ targets.are))) in
    let same = HasSamePlaces-trans places order (place ∷ part) swapped (HasSamePlaces-first order part some (HasSamePlaces-refl part)) in
    found_all c.args.bindings.now q places place part facts done targets.key _ _ all targets.keyed same c.loop-target.invariant.found

pub explore-returns-then-has_unknown-clause-found : goal.explore-returns-then-has_unknown-clause-found
explore-returns-then-has_unknown-clause-found t c =
    let q = c.args.query.now in
    let unknown : HasUnknown c.args.bindings.now q.answers =
    subst (λ (ts : List Term). HasUnknown c.args.bindings.now ts) c.answers-answers.ensures.answers (c.has_unknown.ensures.0 c.if-has_unknown.true) in
    IsGrownBy-nothing _ _ (λ x g. absurd (none_by_unknown c.args.bindings.now q c.args.places.now c.args.facts.now x unknown g))

pub explore-returns-then-is_found-clause-found : goal.explore-returns-then-is_found-clause-found
explore-returns-then-is_found-clause-found t c =
    let q = c.args.query.now in
    let tuple = c.read.new.tuple in
    let read : TellsTuple c.args.bindings.now q.answers tuple =
    subst (λ (ts : List Term). TellsTuple c.args.bindings.now ts tuple) c.answers-answers.ensures.answers (c.if-read.ensures.read refl) in
    IsGrownBy-nothing _ _ (λ x g.
    subst (λ (y : List ℕ). Contains (map (λ v. v.items) c.args.found.now.keys) y) (sym (read_alone c.args.bindings.now q c.args.places.now c.args.facts.now tuple x read g))
    (c.is_found.ensures.0 c.if-is_found.true))

pub explore-returns-then-is_empty-clause-found : goal.explore-returns-then-is_empty-clause-found
explore-returns-then-is_empty-clause-found t c =
    let q = c.args.query.now in
    let b = c.args.bindings.now in
    let places = c.args.places.now in
    let facts = c.args.facts.now in
    let tuple = c.read.new.tuple in
    let read : TellsTuple b q.answers tuple =
    subst (λ (ts : List Term). TellsTuple b ts tuple) c.answers-answers.ensures.answers (c.if-read.ensures.read refl) in
    let none : length places ≡ 0 = no_places places (sym c.is_empty.ensures ∙ c.if-is_empty.true) in
    on_ok_weaker c.add.result (λ f. IsGrownBy-same _ _ _ _ (λ x e. subst (λ (y : List ℕ). SendsToTuple b q places facts y) (sym e) (SendsToTuple-read b q places facts tuple read none))
    (λ x g. read_alone b q places facts tuple x read g) f) c.add.ensures

pub explore-branch-bindings-requires : goal.explore-branch-bindings-requires
explore-branch-bindings-requires t c =
    let q = c.args.query.now in
    let b = c.args.bindings.now in
    let places = c.args.places.now in
    let known : HasUnknown b q.answers → ⊥ = λ u. let e = c.has_unknown.ensures.1 (subst (λ (ts : List Term). HasUnknown b ts) (sym c.answers-answers.ensures.answers) u) in
    let f = c.if-has_unknown.false in cc in
    let some : 0 < length places = elim c.if-read.branch [
      | explore-then-read+else-is_found+else-is_empty w ↦ some_place places (sym w.is_empty.ensures ∙ w.if-is_empty.false)
      | explore-else-read w ↦ place_by_unread b q places (subst (λ (ts : List Term). TellsNone b ts) c.answers-answers.ensures.answers (c.read.ensures.unread w.if-read.false)) known c.requires.reached
    ] in
    (omega arith, (some, (c.requires.places, c.requires.reached)))

pub visit-bounds-atoms-place : goal.visit-bounds-atoms-place
visit-bounds-atoms-place t c =
    subst (λ (xs : List Atom). c.args.place < length xs) (sym c.atoms.ensures.atoms) (c.requires.places.within c.args.place (Contains-first c.args.place c.args.rest.now))

pub visit-match_terms-requires : goal.visit-match_terms-requires
visit-match_terms-requires t c =
    let q = c.args.query.now in
    let place = c.args.place in
    let l : place < length q.atoms = c.requires.places.within place (Contains-first place c.args.rest.now) in
    let atom : c.index-atoms-place.result ≡ atom_at q.atoms place = read_of c.atoms.result.now q.atoms place c.index-atoms-place.result c.atoms.ensures.atoms l c.index-atoms-place.is in
    subst HasLowTerms (sym (c.terms.ensures.terms ∙ ap (λ (x : Atom). x.terms) atom)) (HasLowTerms-at q.atoms place l (HasLowAtoms-atoms q c.atoms.ensures.stored))

pub visit-explore-requires : goal.visit-explore-requires
visit-explore-requires t c =
    let q = c.args.query.now in
    let place = c.args.place in
    let rest = c.args.rest.now in
    let l : place < length q.atoms = c.requires.places.within place (Contains-first place rest) in
    let atom : c.index-atoms-place.result ≡ atom_at q.atoms place = read_of c.atoms.result.now q.atoms place c.index-atoms-place.result c.atoms.ensures.atoms l c.index-atoms-place.is in
    let terms = c.terms.ensures.terms ∙ ap (λ (x : Atom). x.terms) atom in
    let matched : IsMatched c.args.bindings.now c.match_terms.new.bindings (atom_at q.atoms place).terms c.terms-2.result.now =
    subst (λ (ts : List Term). IsMatched c.args.bindings.now c.match_terms.new.bindings ts c.terms-2.result.now) terms (c.match_terms.ensures.matched c.if-match_terms.true) in (
      omega arith,
      (
        ArePlaces-rest q.atoms (place ∷ rest) place rest refl c.requires.places,
        AreReached-matched c.args.bindings.now c.match_terms.new.bindings q place rest c.terms-2.result.now matched c.requires.reached,
      ),
    )

pub visit-returns-in_ok-explore-clause-found : goal.visit-returns-in_ok-explore-clause-found
visit-returns-in_ok-explore-clause-found t c =
    let q = c.args.query.now in
    let place = c.args.place in
    let rest = c.args.rest.now in
    let target = c.args.target.now in
    let l : place < length q.atoms = c.requires.places.within place (Contains-first place rest) in
    let atom : c.index-atoms-place.result ≡ atom_at q.atoms place = read_of c.atoms.result.now q.atoms place c.index-atoms-place.result c.atoms.ensures.atoms l c.index-atoms-place.is in
    let terms = c.terms.ensures.terms ∙ ap (λ (x : Atom). x.terms) atom in
    let matched : IsMatched c.args.bindings.now c.match_terms.new.bindings (atom_at q.atoms place).terms target.terms =
    subst (λ (ts : List Term). IsMatched c.args.bindings.now c.match_terms.new.bindings (atom_at q.atoms place).terms ts) c.terms-2.ensures.terms
    (subst (λ (ts : List Term). IsMatched c.args.bindings.now c.match_terms.new.bindings ts c.terms-2.result.now) terms (c.match_terms.ensures.matched c.if-match_terms.true)) in
    found_matched c.args.bindings.now c.match_terms.new.bindings q place target rest c.args.facts.now _ _ c.requires.name matched c.in_ok-explore.ensures.found
