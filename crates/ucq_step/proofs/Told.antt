-- What is built of an aggregate that a walk tells is a rewriting by it, safe, and of few atoms.
use Rattle.std.proofs.Common.{◌≡◌, ◌+◌, ◌*◌, ◌<◌, ◌≤◌, ◌^◌, ℕ, zero, suc, not, List, [], ◌∷◌, ◌++◌, map, filter, length, Contains, refl, ap, ◌∙◌, subst, arith}
use Rattle.std.specs.List.{enumerate_from}
use Rattle.std.proofs.lemmas.List.{length-map, length-append}
use Rattle.std.proofs.lemmas.List.Filters.{length-filter_both}
use Rattle.std.proofs.lemmas.List.FromFn.{length-enumerate_from}
use Rattle.ucq_terms.specs.declared.Term.{Term}
use Rattle.ucq_terms.specs.declared.Term.TheVariants.{Variable}
use Rattle.ucq_terms.specs.declared.queries.QueryFault.TheVariants.{Unsafe, TooManyAtoms}
use Rattle.ucq_terms.specs.declared.TheConstants.{ATOMS}
use Rattle.ucq_terms.specs.Syntax.{Atom, Rule, Query, IsSafe, IsSameSet}
use Rattle.ucq_terms.specs.Query.{IsStored, IsQueryFault, IsLooseAt}
use Rattle.ucq_terms.specs.Rule.{IsKeptRule}
use Rattle.ucq_terms.specs.Numbering.{normal_query, each_once}
use Rattle.ucq_terms.specs.Unifier.{is_place, unmatched}
use Rattle.ucq_terms.specs.Rewriting.{Member, rule_at, atoms_named, Rewrites}
use Rattle.ucq_terms.proofs.Lists.{Contains-from_map}
use Rattle.ucq_terms.proofs.Safety.{none-from_IsSafe}
use Rattle.ucq_terms.proofs.Subsets.{IsSameSet-refl}
use Rattle.ucq_join.specs.Names.{Named, name_of}
use Rattle.ucq_join.specs.Walk.{ArePieces, piece_member, members_at}
use Rattle.ucq_join.proofs.Sets.{members_few}
use Rattle.ucq_step.specs.inner.Building.{side_name, copies_named, pairs_at, rewriting_of, TellsMembers}
use Rattle.ucq_step.specs.Steps.{IsTooWide, IsRewrittenAt}
use Rattle.ucq_step.specs.declared.rewriting.Side.TheVariants.{OfQuery, OfCopy}
use Rattle.ucq_step.proofs.Building.{copies_named-bodies}
use Rattle.ucq_step.proofs.Safe.{IsSafe-rewritten}
use Rattle.ucq_step.proofs.Stepped.{IsTooWide-rewritten, IsRewrittenAt-stored}

query_path : (a b : Query) → a.answers ≡ b.answers → a.atoms ≡ b.atoms → a ≡ b
query_path a b p q = λ i. record { answers = p i; atoms = q i }

-- copies of a body of few atoms
length-copies_named : (j : Named) (body : List Atom) (n : ℕ) → length body ≤ 32 → length (copies_named j body n) ≤ 32 * n
length-copies_named j body zero few = omega arith
length-copies_named j body (suc n) few =
    let more : length (copies_named j body n ++ atoms_named (side_name j (OfCopy n)) body) ≡
    length (copies_named j body n) + length (atoms_named (side_name j (OfCopy n)) body) =
    length-append (copies_named j body n) (atoms_named (side_name j (OfCopy n)) body) in
    let one : length (atoms_named (side_name j (OfCopy n)) body) ≡ length body = length-map body _ in
    let before : length (copies_named j body n) ≤ 32 * n = length-copies_named j body n few in
    omega (arith, more, one, before)

length-unmatched : (q : Query) (pairs : List (ℕ × ℕ)) → length (unmatched q pairs) ≤ length q.atoms
length-unmatched q pairs =
    let keep : ℕ × Atom → _ = λ p. not (is_place pairs p.0) in
    let a : length (unmatched q pairs) ≡ length (filter keep (enumerate_from 0 q.atoms)) = length-map (filter keep (enumerate_from 0 q.atoms)) (λ (p : ℕ × Atom). p.1) in
    let b : length (filter keep (enumerate_from 0 q.atoms)) + length (filter (λ p. not (keep p)) (enumerate_from 0 q.atoms)) ≡ length (enumerate_from 0 q.atoms) =
    length-filter_both keep (λ p. not (keep p)) (λ p. refl) (enumerate_from 0 q.atoms) in
    let c : length (enumerate_from 0 q.atoms) ≡ length q.atoms = length-enumerate_from 0 q.atoms in
    omega (arith, a, b, c)

module _ (q : Query) (rule : Rule) (pieces : List (List (ℕ × ℕ))) (j : Named) (P : ArePieces q rule pieces) (T : TellsMembers q rule pieces j) (S : IsStored q)
    (K : IsKeptRule rule) where
  abbrev built : Query
  built = rewriting_of q rule pieces j

  pub few_members : length j.members ≤ ATOMS
  few_members = let few = members_few q rule pieces j.members P T.join in let size = S.few_atoms in omega (arith, few, size)

  pub answers_low : (v : ℕ) → Contains q.answers (Variable v) → v < j.variables
  answers_low v i = T.names.of_query v (S.safe.answers v i)

  pub Rewrites-built : Rewrites q (rule ∷ []) (members_at pieces j.members) built
  Rewrites-built = record {
    aggregate = T.join.aggregate;
    name = name_of j;
    names = T.names.names;
    answers = refl;
    atoms =
        subst (λ (xs : List Atom). IsSameSet built.atoms (xs ++ atoms_named (side_name j OfQuery) (unmatched q (pairs_at pieces j.members))))
        (copies_named-bodies j rule pieces j.members) (IsSameSet-refl built.atoms);
  }

  pub IsSafe-built : IsSafe built
  IsSafe-built =
      IsSafe-rewritten q (rule ∷ []) (members_at pieces j.members) built Rewrites-built S.safe
      (λ m c. let (p, i, e) = Contains-from_map (piece_member pieces) j.members m c in
      subst (λ (n : Member). 0 < length (rule_at (rule ∷ []) n.rule).body) e K.some_body)

  pub few_built : length built.atoms < 2 ^ 32
  few_built =
      let rest = atoms_named (side_name j OfQuery) (unmatched q (pairs_at pieces j.members)) in
      let both : length built.atoms ≡ length (copies_named j rule.body (length j.members)) + length rest =
      length-append (copies_named j rule.body (length j.members)) rest in
      let copies : length (copies_named j rule.body (length j.members)) ≤ 32 * length j.members = length-copies_named j rule.body (length j.members) K.few_body in
      let few = few_members in
      let other : length rest ≡ length (unmatched q (pairs_at pieces j.members)) = length-map (unmatched q (pairs_at pieces j.members)) _ in
      let left = length-unmatched q (pairs_at pieces j.members) in
      let size = S.few_atoms in
      omega (arith, both, copies, few, other, left, size)

  -- what is stored of it is as it must be
  pub IsRewrittenAt-new : (answers : List Term) (atoms : List Atom) (stored : Query) → answers ≡ built.answers → atoms ≡ built.atoms →
      stored ≡ normal_query (record { answers = answers; atoms = atoms }) → length stored.atoms ≤ ATOMS → IsRewrittenAt q rule pieces j.members stored
  IsRewrittenAt-new answers atoms stored d e s few =
      let same : stored ≡ normal_query built = s ∙ ap normal_query (query_path (record { answers = answers; atoms = atoms }) built d e) in
      let size : length stored.atoms ≡ length (each_once built.atoms) =
      ap (λ (r : Query). length r.atoms) same ∙ length-map (each_once built.atoms) _ in
      IsRewrittenAt-stored q rule pieces j.members built Rewrites-built stored same (omega (arith, size))

  -- and what is refused is too wide
  pub IsTooWide-new : (answers : List Term) (atoms : List Atom) (count : ℕ) → answers ≡ built.answers → atoms ≡ built.atoms →
      IsQueryFault (record { answers = answers; atoms = atoms }) (TooManyAtoms count) → IsTooWide q rule count
  IsTooWide-new answers atoms count d e f =
      IsTooWide-rewritten q rule pieces j.members built Rewrites-built count (f.1 ∙ ap (λ (xs : List Atom). length (each_once xs)) e) f.2

  pub no_loose-new : (answers : List Term) (atoms : List Atom) (place : ℕ) → answers ≡ built.answers → atoms ≡ built.atoms →
      IsQueryFault (record { answers = answers; atoms = atoms }) (Unsafe place) → ⊥
  no_loose-new answers atoms place d e f =
      none-from_IsSafe built IsSafe-built place
      (subst (λ (r : Query). IsLooseAt r place) (query_path (record { answers = answers; atoms = atoms }) built d e) f.here)

  -- the parts are those of the rewriting
  pub answers_built : (given answers : List Term) → given ≡ q.answers → answers ≡ map (side_name j OfQuery) given → answers ≡ built.answers
  answers_built given answers s e = e ∙ ap (map (side_name j OfQuery)) s

  pub atoms_built : (body first atoms : List Atom) → body ≡ rule.body → first ≡ copies_named j body (length j.members) →
      atoms ≡ first ++ atoms_named (side_name j OfQuery) (unmatched q (pairs_at pieces j.members)) → atoms ≡ built.atoms
  atoms_built body first atoms s d e =
      e ∙ ap (λ xs. xs ++ atoms_named (side_name j OfQuery) (unmatched q (pairs_at pieces j.members))) (d ∙ ap (λ b. copies_named j b (length j.members)) s)
