use Rattle.std.proofs.Common.{◌≡◌, ◌<◌, ◌+◌, ℕ, List, length, Contains, refl, sym, ◌∙◌, ap, arith, subst}
use Rattle.std.specs.Option.{IsSome}
use Rattle.std.specs.List.{remove}
use Rattle.ucq_terms.specs.Syntax.{Atom}
use Rattle.ucq_terms.specs.Unifier.{atom_at}
use Rattle.ucq_hom.specs.Bindings.{Bound, Grown, IsMatched}
use Rattle.ucq_hom.specs.Levels.{Counts, HasLevelsOf, KeepsLevels}
use Rattle.ucq_hom.specs.Search.{HasLowTerms, IsAtomClash, IsMappedFurther, IsBlocked}
use Rattle.ucq_hom.proofs.Found.{IsMappedFurther-more, IsBlocked-all, IsBlocked-jump, IsPast, IsPast-blocked, IsPast-clash, IsPast-skip, ArePlaces-first, ArePlaces-rest, read_at, HasLowTerms-at, Contains-remove, match_from, deeper_from}
use Rattle.ucq_hom.proofs.Noted.{IsDeeper, HasLevelsOf-within, KeepsLevels-deeper}
use Rattle.ucq_hom.proofs.search.+extend.Goals as goal
use Rattle.ucq_hom.proofs.search.+extend.Goals.{then-j-skip+then-match_atom+in-Some-extend+else-not-has_level, else-j-skip, else-j-skip-via-then-j-skip+else-match_atom, else-j-skip-via-else-j-skip}

pub bounds-from-place : goal.bounds-from-place
bounds-from-place t c = ArePlaces-first c.args.from.now c.args.places.now c.in-Some.place.now c.in-Some.rest.now c.in-Some.ensures.cases.0 c.requires.places

pub match_atom-requires : goal.match_atom-requires
match_atom-requires t c =
    let l = ArePlaces-first c.args.from.now c.args.places.now c.in-Some.place.now c.in-Some.rest.now c.in-Some.ensures.cases.0 c.requires.places in
    subst (λ (x : Atom). HasLowTerms x.terms) (sym (read_at c.args.from.now c.in-Some.place.now c.index-from-place.result l c.index-from-place.is))
    (HasLowTerms-at c.args.from.now c.in-Some.place.now l c.requires.low)

pub extend-requires : goal.extend-requires
extend-requires t c = (
  let e = c.in-Some.ensures.cases.1 in omega arith,
  (
    ArePlaces-rest c.args.from.now c.args.places.now c.in-Some.place.now c.in-Some.rest.now c.in-Some.ensures.cases.0 c.requires.places,
    (c.requires.low, (omega arith, let e = c.in-Some.ensures.cases.1 in let d = c.requires.deep in omega arith)),
  ),
)

pub binders-blocking-requires-clause-low : goal.binders-blocking-requires-clause-low
binders-blocking-requires-clause-low t c =
    let l = ArePlaces-first c.args.from.now c.args.places.now c.in-Some.place.now c.in-Some.rest.now c.in-Some.ensures.cases.0 c.requires.places in
    let atom : c.index-from-place.result ≡ atom_at c.args.from.now c.in-Some.place.now =
    read_at c.args.from.now c.in-Some.place.now c.index-from-place.result l c.index-from-place.is in
    subst HasLowTerms (sym (c.terms.ensures.terms ∙ ap (λ (x : Atom). x.terms) atom)) (HasLowTerms-at c.args.from.now c.in-Some.place.now l c.requires.low)

pub returns-in_default-extend-clause-found : goal.returns-in_default-extend-clause-found
returns-in_default-extend-clause-found t c = λ _.
    let from = c.args.from.now in
    let to = c.args.to.now in
    let place = c.in-Some.place.now in
    let rest = c.in-Some.rest.now in
    let l = ArePlaces-first from c.args.places.now place rest c.in-Some.ensures.cases.0 c.requires.places in
    let m : c.loop-j.j < length to = c.loop-j-test.true in
    let atom : c.index-from-place.result ≡ atom_at from place = read_at from place c.index-from-place.result l c.index-from-place.is in
    let target : c.index-to-j.result ≡ atom_at to c.loop-j.j = read_at to c.loop-j.j c.index-to-j.result m c.index-to-j.is in
    let name = c.match_atom.ensures.name c.if-match_atom.true in
    let m' : IsMatched c.args.bindings.now c.match_atom.new.bindings (atom_at from place).terms c.index-to-j.result.terms =
    subst (λ (x : Atom). IsMatched c.args.bindings.now c.match_atom.new.bindings x.terms c.index-to-j.result.terms) atom
    (match_from c.args.bindings.now c.loop-j.bindings c.match_atom.new.bindings c.index-from-place.result.terms c.index-to-j.result.terms c.loop-j.invariant.same
    (c.match_atom.ensures.matched c.if-match_atom.true)) in
    let among : Contains (remove to c.args.skip) c.index-to-j.result =
    subst (λ (x : Atom). Contains (remove to c.args.skip) x) (sym target) (Contains-remove to c.args.skip c.loop-j.j _ m c.if-j-skip.true) in
    subst (λ (x : List ℕ). IsMappedFurther c.args.bindings.now c.extend.new.bindings from x (remove to c.args.skip)) (sym c.in-Some.ensures.cases.0)
    (IsMappedFurther-more c.args.bindings.now c.match_atom.new.bindings c.extend.new.bindings from place rest (remove to c.args.skip) c.index-to-j.result l among
    (ap (λ (x : Atom). x.name) (sym atom) ∙ name) m' (c.extend.ensures.found c.in_default-extend.is))

pub returns-in_default-extend-clause-levels : goal.returns-in_default-extend-clause-levels
returns-in_default-extend-clause-levels t c =
    let a = c.args.bindings.now in
    let b = c.match_atom.new.bindings in
    let atom = c.index-from-place.result in
    let target = c.index-to-j.result in
    let matched = c.match_atom.ensures.matched c.if-match_atom.true in
    let d : IsDeeper a b c.args.levels.now c.note_since.new.levels c.args.level =
    deeper_from a c.loop-j.bindings b c.args.levels.now c.loop-j.levels c.note_since.new.levels c.args.level c.mark-mark.result atom.terms target.terms
    c.loop-j.invariant.same c.mark-mark.ensures.mark matched c.loop-j.invariant.levels c.note_since.ensures in
    KeepsLevels-deeper a b c.args.levels.now c.note_since.new.levels c.extend.new.levels c.args.level d
    (match_from a c.loop-j.bindings b atom.terms target.terms c.loop-j.invariant.same matched).grown c.extend.ensures.levels

pub returns-then-not-has_level-clause-blocked : goal.returns-then-not-has_level-clause-blocked
returns-then-not-has_level-clause-blocked t c = λ set e.
    let a = c.args.bindings.now in
    let b = c.match_atom.new.bindings in
    let atom = c.index-from-place.result in
    let target = c.index-to-j.result in
    let from = c.args.from.now in
    let targets = remove c.args.to.now c.args.skip in
    let deeper = c.in-Some-extend.deeper in
    let matched = c.match_atom.ensures.matched c.if-match_atom.true in
    let d : IsDeeper a b c.args.levels.now c.note_since.new.levels c.args.level =
    deeper_from a c.loop-j.bindings b c.args.levels.now c.loop-j.levels c.note_since.new.levels c.args.level c.mark-mark.result atom.terms target.terms
    c.loop-j.invariant.same c.mark-mark.ensures.mark matched c.loop-j.invariant.levels c.note_since.ensures in
    let other : ¬ Counts deeper c.args.level = λ counted. let yes' = c.has_level.ensures.1 counted in let no' = c.if-not-has_level.true in cc in
    let same : deeper ≡ set = cc in
    subst (λ (x : ℕ). IsBlocked a c.args.levels.now x from c.args.places.now targets) same
    (subst (λ (x : List ℕ). IsBlocked a c.args.levels.now deeper from x targets) (sym c.in-Some.ensures.cases.0)
    (IsBlocked-jump a b c.args.levels.now c.note_since.new.levels c.args.level deeper from c.in-Some.place.now c.in-Some.rest.now targets d
    (match_from a c.loop-j.bindings b atom.terms target.terms c.loop-j.invariant.same matched).grown other (c.extend.ensures.blocked deeper c.in-Some-extend.is)))

pub returns-then-not-has_level-clause-levels : goal.returns-then-not-has_level-clause-levels
returns-then-not-has_level-clause-levels t c =
    let a = c.args.bindings.now in
    let b = c.match_atom.new.bindings in
    let atom = c.index-from-place.result in
    let target = c.index-to-j.result in
    let matched = c.match_atom.ensures.matched c.if-match_atom.true in
    let d : IsDeeper a b c.args.levels.now c.note_since.new.levels c.args.level =
    deeper_from a c.loop-j.bindings b c.args.levels.now c.loop-j.levels c.note_since.new.levels c.args.level c.mark-mark.result atom.terms target.terms
    c.loop-j.invariant.same c.mark-mark.ensures.mark matched c.loop-j.invariant.levels c.note_since.ensures in
    KeepsLevels-deeper a b c.args.levels.now c.note_since.new.levels c.extend.new.levels c.args.level d
    (match_from a c.loop-j.bindings b atom.terms target.terms c.loop-j.invariant.same matched).grown c.extend.ensures.levels

pub loop-j-preserved : goal.loop-j-preserved
loop-j-preserved t c =
    let a = c.args.bindings.now in
    let first = c.args.levels.now in
    let atom = c.index-from-place.result in
    let from = c.args.from.now in
    let rest = c.in-Some.rest.now in
    let to = c.args.to.now in
    let skip = c.args.skip in
    let j = c.loop-j.j in
    let inside : j < length to = c.loop-j-test.true in
    elim c.if-j-skip.branch [
      | then-j-skip+then-match_atom+in-Some-extend+else-not-has_level w ↦
          let b = w.match_atom.new.bindings in
          let target = w.index-to-j.result in
          let deeper = w.in-Some-extend.deeper in
          let next = w.union-blocking.result in
          let at_place : target ≡ atom_at to j = read_at to j target inside w.index-to-j.is in
          let matched = w.match_atom.ensures.matched w.if-match_atom.true in
          let m : IsMatched a b atom.terms target.terms = match_from a c.loop-j.bindings b atom.terms target.terms c.loop-j.invariant.same matched in
          let m' : IsMatched a b atom.terms (atom_at to j).terms = subst (λ (x : Atom). IsMatched a b atom.terms x.terms) at_place m in
          let d : IsDeeper a b first w.note_since.new.levels c.args.level =
          deeper_from a c.loop-j.bindings b first c.loop-j.levels w.note_since.new.levels c.args.level c.mark-mark.result atom.terms target.terms c.loop-j.invariant.same
          c.mark-mark.ensures.mark matched c.loop-j.invariant.levels w.note_since.ensures in
          let undone : w.extend.new.bindings ≡ b = w.extend.ensures.undone (subst IsSome (sym w.in-Some-extend.is) refl) in
          record {
            same =
                w.bindings-is ∙ w.undo.ensures.undone a (subst (λ (x : Bound). Grown a x) (sym undone) m.grown) c.mark-mark.ensures.mark;
            levels = subst (λ (x : List ℕ). KeepsLevels a first x) (sym w.levels-is)
                (KeepsLevels-deeper a b first w.note_since.new.levels w.extend.new.levels c.args.level d m.grown w.extend.ensures.levels);
            own = subst (λ (x : ℕ). HasLevelsOf a first x atom.terms) (sym w.blocking-is)
                (HasLevelsOf-within a first c.loop-j.blocking next atom.terms w.union-blocking.ensures.left c.loop-j.invariant.own);
            past = subst (λ (x : ℕ). IsPast a first x from atom rest to skip (j + 1)) (sym w.blocking-is)
                (IsPast-blocked a b first w.note_since.new.levels c.args.level c.loop-j.blocking next deeper from atom rest to skip j c.loop-j.invariant.past
                c.loop-j.invariant.own w.union-blocking.ensures.left w.union-blocking.ensures.right d m' (w.extend.ensures.blocked deeper w.in-Some-extend.is));
          }
      | else-j-skip w ↦
          elim w.else-j-skip.branch [
            | else-j-skip-via-then-j-skip+else-match_atom w' ↦
                let target = w'.index-to-j.result in
                let at_place : target ≡ atom_at to j = read_at to j target inside w'.index-to-j.is in
                let clash : IsAtomClash a atom (atom_at to j) =
                subst (λ (x : Atom). IsAtomClash a atom x) at_place
                (subst (λ (x : Bound). IsAtomClash x atom target) c.loop-j.invariant.same (w'.match_atom.ensures.clash w'.if-match_atom.false)) in
                record {
                  same = w.bindings-is ∙ (w'.bindings-is ∙ (w'.match_atom.ensures.undone w'.if-match_atom.false ∙ c.loop-j.invariant.same));
                  levels = subst (λ (x : List ℕ). KeepsLevels a first x) (sym w.levels-is) c.loop-j.invariant.levels;
                  own = subst (λ (x : ℕ). HasLevelsOf a first x atom.terms) (sym w.blocking-is) c.loop-j.invariant.own;
                  past = subst (λ (x : ℕ). IsPast a first x from atom rest to skip (j + 1)) (sym w.blocking-is)
                      (IsPast-clash a first c.loop-j.blocking from atom rest to skip j c.loop-j.invariant.past c.loop-j.invariant.own clash);
                }
            | else-j-skip-via-else-j-skip w' ↦
                record {
                  same = w.bindings-is ∙ (w'.bindings-is ∙ c.loop-j.invariant.same);
                  levels = subst (λ (x : List ℕ). KeepsLevels a first x) (sym w.levels-is) c.loop-j.invariant.levels;
                  own = subst (λ (x : ℕ). HasLevelsOf a first x atom.terms) (sym w.blocking-is) c.loop-j.invariant.own;
                  past = subst (λ (x : ℕ). IsPast a first x from atom rest to skip (j + 1)) (sym w.blocking-is)
                      (IsPast-skip a first c.loop-j.blocking from atom rest to skip j c.loop-j.invariant.past w'.if-j-skip.false);
                }
          ]
    ]

pub returns-clause-blocked : goal.returns-clause-blocked
returns-clause-blocked t c = λ set e.
    let a = c.args.bindings.now in
    let first = c.args.levels.now in
    let from = c.args.from.now in
    let to = c.args.to.now in
    let place = c.in-Some.place.now in
    let rest = c.in-Some.rest.now in
    let l = ArePlaces-first from c.args.places.now place rest c.in-Some.ensures.cases.0 c.requires.places in
    let atom : c.index-from-place.result ≡ atom_at from place = read_at from place c.index-from-place.result l c.index-from-place.is in
    let all : c.loop-j.j ≡ length to = omega arith in
    let past : IsPast a first c.loop-j.blocking from (atom_at from place) rest to c.args.skip (length to) =
    subst (λ (n : ℕ). IsPast a first c.loop-j.blocking from (atom_at from place) rest to c.args.skip n) all
    (subst (λ (x : Atom). IsPast a first c.loop-j.blocking from x rest to c.args.skip c.loop-j.j) atom c.loop-j.invariant.past) in
    let same : c.loop-j.blocking ≡ set = cc in
    subst (λ (x : ℕ). IsBlocked a first x from c.args.places.now (remove to c.args.skip)) same
    (subst (λ (x : List ℕ). IsBlocked a first c.loop-j.blocking from x (remove to c.args.skip)) (sym c.in-Some.ensures.cases.0)
    (IsBlocked-all a first c.loop-j.blocking from place rest to c.args.skip past))
