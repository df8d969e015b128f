-- A rule's frontier, collected term by term.
use Rattle.std.proofs.Common.{◌≡◌, ◌<◌, ℕ, nat_eq, Bool, true, false, cond, ◌+◌, List, [], ◌∷◌, ◌++◌, length, take, get_or, filter, map, refl, sym, ap, ◌∙◌}
use Rattle.std.specs.List.{filter_map}
use Rattle.std.proofs.lemmas.List.{take_more, append-nil}
use Rattle.std.proofs.lemmas.List.Concat.{flat_map-append}
use Rattle.std.proofs.lemmas.List.Elements.{filter-append, filter_map-append}
use Rattle.ucq_terms.specs.declared.Term.{Term}
use Rattle.ucq_terms.specs.declared.Term.TheVariants.{Variable}
use Rattle.ucq_terms.specs.Syntax.{Atom, Rule, OccursIn, IsSafe}
use Rattle.ucq_terms.specs.Numbering.{variable_of, terms_of}
use Rattle.ucq_terms.proofs.Numbering.{with_element, with_elements, with_elements-append}
use Rattle.ucq_within.specs.Needless.{stands_in, frontier_of}
use Rattle.ucq_within.specs.inner.Frontier.{with_frontier}
use Rattle.ucq_within.proofs.Following.{stands_in-true, stands_in-occurs, answer_is_frontier}

-- further terms are noted after the first ones
pub with_frontier-append : (body : List Atom) (order : List ℕ) (ts us : List Term) → with_frontier body order (ts ++ us) ≡ with_frontier body (with_frontier body order ts) us
with_frontier-append body order ts us =
    ap (λ (vs : List ℕ). with_elements nat_eq order vs)
    (ap (filter (stands_in body)) (filter_map-append variable_of ts us) ∙ filter-append (stands_in body) (filter_map variable_of ts) (filter_map variable_of us)) ∙
    with_elements-append nat_eq order (filter (stands_in body) (filter_map variable_of ts)) (filter (stands_in body) (filter_map variable_of us))

-- one more term
pub next_term : (body : List Atom) (order : List ℕ) (ts : List Term) (i : ℕ) (d : Term) → i < length ts →
    with_frontier body (with_frontier body order (take i ts)) (get_or ts i d ∷ []) ≡ with_frontier body order (take (i + 1) ts)
next_term body order ts i d l = sym (ap (with_frontier body order) (take_more ts i d l) ∙ with_frontier-append body order (take i ts) (get_or ts i d ∷ []))

-- the terms of one more atom
pub next_atom : (body : List Atom) (order : List ℕ) (atoms : List Atom) (i : ℕ) (d : Atom) → i < length atoms →
    with_frontier body (with_frontier body order (terms_of (take i atoms))) (get_or atoms i d).terms ≡ with_frontier body order (terms_of (take (i + 1) atoms))
next_atom body order atoms i d l =
    let a = get_or atoms i d in
    let split : terms_of (take (i + 1) atoms) ≡ terms_of (take i atoms) ++ a.terms =
    ap terms_of (take_more atoms i d l) ∙ (flat_map-append (λ (b : Atom). b.terms) (take i atoms) (a ∷ []) ∙ ap (λ (us : List Term). terms_of (take i atoms) ++ us) (append-nil a.terms)) in
    sym (ap (with_frontier body order) split ∙ with_frontier-append body order (terms_of (take i atoms)) a.terms)

-- a variable that stands in the body is noted, and another one isn't
pub noted : (body : List Atom) (order : List ℕ) (v : ℕ) → OccursIn body (Variable v) → with_frontier body order (Variable v ∷ []) ≡ with_element nat_eq order v
noted body order v o = go (stands_in body v) (stands_in-true body v o)
  where
    go : (b : Bool) → b ≡ true → with_elements nat_eq order (cond b (v ∷ []) []) ≡ with_element nat_eq order v
    go true e = refl
    go false e = absurd cc

pub passed : (body : List Atom) (order : List ℕ) (v : ℕ) → ¬ OccursIn body (Variable v) → with_frontier body order (Variable v ∷ []) ≡ order
passed body order v out = go (stands_in body v) refl
  where
    go : (b : Bool) → stands_in body v ≡ b → with_elements nat_eq order (cond b (v ∷ []) []) ≡ order
    go true e = absurd (out (stands_in-occurs body v e))
    go false e = refl

-- a query that asks for the frontier is safe over the head, and over the body
pub head_is_safe : (rule : Rule) → 0 < length rule.heads → IsSafe (record { answers = map Variable (frontier_of rule); atoms = rule.heads })
head_is_safe rule some = record { nonempty = some; answers = λ v i. (answer_is_frontier rule v i).0 }

pub body_is_safe : (rule : Rule) → 0 < length rule.body → IsSafe (record { answers = map Variable (frontier_of rule); atoms = rule.body })
body_is_safe rule some = record { nonempty = some; answers = λ v i. (answer_is_frontier rule v i).1 }
