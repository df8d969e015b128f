-- A store's first row.
use Rattle.std.proofs.Common.{ap₂, ◌≡◌, ℕ, ◌+◌, ◌<◌, ◌≤◌, inl, inr, sym, ap, ◌∙◌, List, [], ◌∷◌, Bool, true, length, Contains, arith, subst}
use Rattle.ucq_terms.specs.declared.Term.{Term}
use Rattle.ucq_terms.specs.declared.Term.TheVariants.{Variable}
use Rattle.ucq_terms.specs.Syntax.{Atom, Query, Problem, IsSafe}
use Rattle.ucq_terms.specs.Query.{IsStored}
use Rattle.ucq_terms.specs.Homomorphism.{IsCoreOf}
use Rattle.ucq_terms.proofs.Lists.{Contains-first, Contains-rest, Contains-cons_cases, Contains-empty}
use Rattle.ucq_fold.specs.Parts.{IsPartInOrder}
use Rattle.ucq_antichain.specs.declared.Row.{Row}
use Rattle.ucq_antichain.specs.declared.Added.{Added as Answer}
use Rattle.ucq_antichain.specs.declared.Added.TheVariants.{Covered, Full, Added}
use Rattle.ucq_antichain.specs.Rows.{AntichainValue, IsAdded}
use Rattle.ucq_antichain.specs.Calls.{DoesAdd}
use Rattle.ucq_store.specs.Lawful.{IsSoundCore}
use Rattle.ucq_store.proofs.Sound.{core_of_query_is_sound}

-- what stands in a part stands in the whole
part_contains : (part whole : List Atom) → IsPartInOrder part whole → (a : Atom) → Contains part a → Contains whole a
part_contains part [] e a i = absurd (Contains-empty a (subst (λ (xs : List Atom). Contains xs a) e i))
part_contains part (x ∷ xs) (inl p) a i = Contains-rest x xs a (part_contains part xs p a i)
part_contains part (x ∷ xs) (inr (rest, e, p)) a i = elim (Contains-cons_cases x rest a (subst (λ (ys : List Atom). Contains ys a) e i)) [
  | inl s ↦ subst (λ (w : Atom). Contains (x ∷ xs) w) s (Contains-first x xs)
  | inr h ↦ Contains-rest x xs a (part_contains rest xs p a h)
]

part_length : (part whole : List Atom) → IsPartInOrder part whole → length part ≤ length whole
part_length part [] e = let z : length part ≡ 0 = ap (λ (xs : List Atom). length xs) e in omega arith
part_length part (x ∷ xs) (inl p) = let l = part_length part xs p in omega arith
part_length part (x ∷ xs) (inr (rest, e, p)) =
    let l = part_length rest xs p in
    let z : length part ≡ length rest + 1 = ap (λ (ys : List Atom). length ys) e ∙ (omega arith) in
    omega arith

-- a query is safe of which a part, with the same answers, is
whole_is_safe : (q core : Query) → IsPartInOrder core.atoms q.atoms → core.answers ≡ q.answers → IsSafe core → IsSafe q
whole_is_safe q core part same safe = record {
  nonempty = let l = part_length core.atoms q.atoms part in omega (arith, safe.nonempty);
  answers = λ v i.
      let (k, a, n, e, h) = safe.answers v (subst (λ (ts : List Term). Contains ts (Variable v)) (sym same) i) in
      let (j, m, d) = part_contains core.atoms q.atoms part a (k, n, e) in
      (j, a, m, d, h);
}

pub first_is_sound_core : (problem : Problem) (core : Query) → IsPartInOrder core.atoms problem.query.atoms → core.answers ≡ problem.query.answers →
    IsStored core → IsCoreOf problem.query core → IsSoundCore problem core
first_is_sound_core problem core part same stored core_of = record {
  sound = core_of_query_is_sound problem core (whole_is_safe problem.query core part same stored.safe) core_of;
  core = core_of.core;
  stored = stored;
}

abbrev pub live_row : Query → Row
live_row q = record { query = q; live = true }

one_row : (q : Query) (after : List Row) → IsAdded q [] after → after ≡ live_row q ∷ []
one_row q [] added = let l : 0 ≡ 0 + 1 = added.one_more in absurd (omega arith)
one_row q (r ∷ []) added =
    let query : r.query ≡ q = added.last_query in
    let live : r.live ≡ true = added.last_live in
    ap₂ (λ (p : Query) (l : Bool). let row : Row = record { query = p; live = l } in row ∷ []) query live
one_row q (r ∷ s ∷ rest) added = let l : length (r ∷ s ∷ rest) ≡ 0 + 1 = added.one_more in absurd (omega arith)

pub first_row : (budget : ℕ) (core : Query) (answer : Answer) (after : AntichainValue) → 0 < budget → DoesAdd (record { budget = budget; rows = [] }) core answer after →
    after ≡ record { budget = budget; rows = live_row core ∷ [] }
first_row budget core (Covered row query) after positive (same, back, first) = let bad = first.live in absurd (cc)
first_row budget core (Full query) after positive (same, back, fresh, full) = let e : 0 ≡ budget = full in absurd (omega arith)
first_row budget core (Added row pruned) after positive adds =
    ap₂ (λ (n : ℕ) (rows : List Row). let k : AntichainValue = record { budget = n; rows = rows } in k) adds.budget (one_row core after.rows adds.added)
