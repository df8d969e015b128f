use Rattle.std.proofs.Common.{◌≡◌, ◌<◌, ◌∙◌, ◌++◌, ℕ, List, length, take, Contains, get_or, sym, ap, ap₂, subst, arith, append_assoc}
use Rattle.std.proofs.lemmas.List.{take_all}
use Rattle.std.proofs.lemmas.List.Elements.{Contains-get_or}
use Rattle.ucq_terms.specs.Syntax.{Atom, Query, Rule}
use Rattle.ucq_terms.specs.Unifier.{Node, atom_at, links, KeepsPredicate}
use Rattle.ucq_classes.specs.Numbers.{Numbers, NumbersAtom, NumbersHead}
use Rattle.ucq_classes.specs.Classes.{IsClassed, atom_links}
use Rattle.ucq_classes.proofs.Numbers.{numbered_atom, numbered_head, read_atom}
use Rattle.ucq_join.specs.inner.Copies.{KeepsEach}
use Rattle.ucq_join.proofs.Sets.{links-more}
use Rattle.ucq_join.proofs.links.link_piece.Goals as goal

-- the pair at a place keeps the predicate
kept_at : (q : Query) (rule : Rule) (pairs read items : List (ℕ × ℕ)) (i : ℕ) → KeepsEach q rule pairs → read ≡ items → items ≡ pairs → i < length read →
    KeepsPredicate q rule (get_or read i (0, 0))
kept_at q rule pairs read items i k e d l =
    k.each (get_or read i (0, 0)) (subst (λ (xs : List (ℕ × ℕ)). Contains {X = ℕ × ℕ} xs (get_or read i (0, 0))) (e ∙ d) (Contains-get_or {X = ℕ × ℕ} read i (0, 0) l))

pub bounds-atoms-place : goal.bounds-atoms-place
bounds-atoms-place c =
    let k = kept_at c.args.query.now c.args.rule.now c.args.piece.now c.as_slice-pairs.result.now c.piece.inside.pairs.items c.loop-i.i c.requires.keeps c.as_slice-pairs.ensures.value c.piece.view_is c.loop-i-test.true in
    subst (λ (xs : List Atom). (get_or c.as_slice-pairs.result.now c.loop-i.i (0, 0)).0 < length xs) (sym c.atoms-atoms.ensures.atoms) k.in_query

pub bounds-heads-head : goal.bounds-heads-head
bounds-heads-head c =
    let k = kept_at c.args.query.now c.args.rule.now c.args.piece.now c.as_slice-pairs.result.now c.piece.inside.pairs.items c.loop-i.i c.requires.keeps c.as_slice-pairs.ensures.value c.piece.view_is c.loop-i-test.true in
    subst (λ (xs : List Atom). (get_or c.as_slice-pairs.result.now c.loop-i.i (0, 0)).1 < length xs) (sym c.heads-heads.ensures.heads) k.in_head

pub link_atoms-requires-clause-atom : goal.link_atoms-requires-clause-atom
link_atoms-requires-clause-atom c =
    let p = get_or c.as_slice-pairs.result.now c.loop-i.i (0, 0) in
    let k = kept_at c.args.query.now c.args.rule.now c.args.piece.now c.as_slice-pairs.result.now c.piece.inside.pairs.items c.loop-i.i c.requires.keeps c.as_slice-pairs.ensures.value c.piece.view_is c.loop-i-test.true in
    subst (λ (n : Numbers). NumbersAtom n c.index-atoms-place.result) (sym c.loop-i.invariant.numbers)
    (subst (NumbersAtom c.args.classes.now.numbers) (sym (read_atom c.args.query.now.atoms c.atoms-atoms.result.now p.0 c.index-atoms-place.result c.atoms-atoms.ensures.atoms k.in_query c.index-atoms-place.is))
    (numbered_atom c.args.classes.now.numbers c.args.query.now p.0 c.requires.query k.in_query))

pub link_atoms-requires-clause-head : goal.link_atoms-requires-clause-head
link_atoms-requires-clause-head c =
    let p = get_or c.as_slice-pairs.result.now c.loop-i.i (0, 0) in
    let k = kept_at c.args.query.now c.args.rule.now c.args.piece.now c.as_slice-pairs.result.now c.piece.inside.pairs.items c.loop-i.i c.requires.keeps c.as_slice-pairs.ensures.value c.piece.view_is c.loop-i-test.true in
    subst (λ (n : Numbers). NumbersHead n c.args.copy c.index-heads-head.result) (sym c.loop-i.invariant.numbers)
    (subst (NumbersHead c.args.classes.now.numbers c.args.copy) (sym (read_atom c.args.rule.now.heads c.heads-heads.result.now p.1 c.index-heads-head.result c.heads-heads.ensures.heads k.in_head c.index-heads-head.is))
    (numbered_head c.args.classes.now.numbers c.args.rule.now c.args.copy p.1 c.requires.heads k.in_head))

pub link_atoms-requires-clause-arity : goal.link_atoms-requires-clause-arity
link_atoms-requires-clause-arity c =
    let p = get_or c.as_slice-pairs.result.now c.loop-i.i (0, 0) in
    let k = kept_at c.args.query.now c.args.rule.now c.args.piece.now c.as_slice-pairs.result.now c.piece.inside.pairs.items c.loop-i.i c.requires.keeps c.as_slice-pairs.ensures.value c.piece.view_is c.loop-i-test.true in
    ap (λ (x : Atom). length x.terms) (read_atom c.args.query.now.atoms c.atoms-atoms.result.now p.0 c.index-atoms-place.result c.atoms-atoms.ensures.atoms k.in_query c.index-atoms-place.is) ∙
    (k.arity ∙ sym (ap (λ (x : Atom). length x.terms) (read_atom c.args.rule.now.heads c.heads-heads.result.now p.1 c.index-heads-head.result c.heads-heads.ensures.heads k.in_head c.index-heads-head.is)))

pub loop-i-preserved : goal.loop-i-preserved
loop-i-preserved c =
    let q = c.args.query.now in
    let rule = c.args.rule.now in
    let copy = c.args.copy in
    let pairs = c.as_slice-pairs.result.now in
    let p = get_or pairs c.loop-i.i (0, 0) in
    let k = kept_at q rule c.args.piece.now pairs c.piece.inside.pairs.items c.loop-i.i c.requires.keeps c.as_slice-pairs.ensures.value c.piece.view_is c.loop-i-test.true in
    let x : c.index-atoms-place.result ≡ atom_at q.atoms p.0 = read_atom q.atoms c.atoms-atoms.result.now p.0 c.index-atoms-place.result c.atoms-atoms.ensures.atoms k.in_query c.index-atoms-place.is in
    let y : c.index-heads-head.result ≡ atom_at rule.heads p.1 = read_atom rule.heads c.heads-heads.result.now p.1 c.index-heads-head.result c.heads-heads.ensures.heads k.in_head c.index-heads-head.is in
    record {
      numbers = c.link_atoms.ensures.numbers ∙ c.loop-i.invariant.numbers;
      linked =
          λ before h.
          let front = links q copy rule (take c.loop-i.i pairs) in
          let more = c.link_atoms.ensures.linked (before ++ front) (c.loop-i.invariant.linked before h) in
          subst (λ (ls : List (Node × Node)). IsClassed ls c.link_atoms.new.self)
          (append_assoc before front (atom_links c.index-atoms-place.result copy c.index-heads-head.result) ∙
          ap (λ (ls : List (Node × Node)). before ++ ls)
          (ap₂ (λ (u v : Atom). front ++ atom_links u copy v) x y ∙ sym (links-more q copy rule pairs c.loop-i.i c.loop-i-test.true))) more;
    }

pub returns : goal.returns
returns c =
    let pairs = c.as_slice-pairs.result.now in
    let all : take c.loop-i.i pairs ≡ c.args.piece.now = take_all c.loop-i.i pairs (let t = c.loop-i-test.false in omega arith) ∙ (c.as_slice-pairs.ensures.value ∙ c.piece.view_is) in
    record {
      numbers = c.loop-i.invariant.numbers;
      linked = λ before h. subst (λ (ps : List (ℕ × ℕ)). IsClassed (before ++ links c.args.query.now c.args.copy c.args.rule.now ps) c.loop-i.classes) all (c.loop-i.invariant.linked before h);
    }
