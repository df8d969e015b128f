-- The members of an aggregate in another order: copies move with their members, and so do links and classes.
use Rattle.std.proofs.Common.{◌≡◌, ℕ, List, Contains, refl, sym, ap, ◌∙◌, subst}
use Rattle.std.specs.List.{enumerate_from}
use Rattle.ucq_terms.specs.declared.Term.{Term}
use Rattle.ucq_terms.specs.declared.Term.TheVariants.{Constant, Variable}
use Rattle.ucq_terms.specs.Syntax.{Atom, Rule, Query}
use Rattle.ucq_terms.specs.Unifier.{Node, constant, of_query, of_copy, query_node, copy_node, places, unmatched, links, AreJoined, alone, forth, back}
use Rattle.ucq_terms.specs.Rewriting.{Member, rule_at, all_links, all_pairs}
use Rattle.ucq_terms.proofs.Lists.{Contains-from_flat_map}
use Rattle.ucq_terms.proofs.Matched.{Contains-from_links}
use Rattle.ucq_terms.proofs.Members.{matched_at, entry_member, Contains-places_of_all, Contains-all_links}
use Rattle.ucq_terms.proofs.Places.{Contains-places, Contains-unmatched, Contains-from_unmatched}
use Rattle.ucq_step.proofs.Standing.{Stands}

-- the map leads from the place of a member in the first list to its place in the second
pub record Moves (move : ℕ → ℕ) (xs ys : List Member) : Type 0 where
  pub each : (i : ℕ) (m : Member) → Contains {X = ℕ × Member} (enumerate_from 0 xs) (i, m) → Contains {X = ℕ × Member} (enumerate_from 0 ys) (move i, m)

-- a node after the move
abbrev pub moved : (ℕ → ℕ) → Node → Node
moved move (constant c) = constant c
moved move (of_query v) = of_query v
moved move (of_copy i v) = of_copy (move i) v

pub moved-query_node : (move : ℕ → ℕ) (t : Term) → moved move (query_node t) ≡ query_node t
moved-query_node move (Constant c) = refl
moved-query_node move (Variable v) = refl

pub moved-copy_node : (move : ℕ → ℕ) (i : ℕ) (t : Term) → moved move (copy_node i t) ≡ copy_node (move i) t
moved-copy_node move i (Constant c) = refl
moved-copy_node move i (Variable v) = refl

module _ (q : Query) (rules : List Rule) (move : ℕ → ℕ) (xs ys : List Member) (M : Moves move xs ys) where
  pub Stands-moved : (x : Node) → Stands q rules xs x → Stands q rules ys (moved move x)
  Stands-moved (constant c) s = tt
  Stands-moved (of_query v) s = s
  Stands-moved (of_copy i v) (m, e, o) = (m, M.each i m e, o)

  links-moved : (l : Node × Node) → Contains (all_links q rules xs) l → Contains {X = Node × Node} (all_links q rules ys) (moved move l.0, moved move l.1)
  links-moved l c =
      let (p, e, d) = Contains-from_flat_map (λ (p : ℕ × Member). links q p.0 (rule_at rules p.1.rule) p.1.pairs) (enumerate_from 0 xs) l c in
      let (pair, i, k) = Contains-from_links q p.0 (rule_at rules p.1.rule) p.1.pairs l d in
      let there : Contains {X = Node × Node} (all_links q rules ys) (query_node k.left, copy_node (move p.0) k.right) =
      Contains-all_links q rules ys (move p.0) p.1 pair k.left k.right (M.each p.0 p.1 e) i k.at in
      let first : query_node k.left ≡ moved move l.0 = sym (moved-query_node move k.left) ∙ ap (moved move) k.left_is in
      let second : copy_node (move p.0) k.right ≡ moved move l.1 = sym (moved-copy_node move p.0 k.right) ∙ ap (moved move) k.right_is in
      subst (λ (y : Node). Contains {X = Node × Node} (all_links q rules ys) (moved move l.0, y)) second
      (subst (λ (x : Node). Contains {X = Node × Node} (all_links q rules ys) (x, copy_node (move p.0) k.right)) first there)

  pub AreJoined-moved : (x y : Node) → AreJoined (all_links q rules xs) x y → AreJoined (all_links q rules ys) (moved move x) (moved move y)
  AreJoined-moved x y alone = alone
  AreJoined-moved x y (forth {y = z} c h) = forth (links-moved (x, z) c) (AreJoined-moved z y h)
  AreJoined-moved x y (back {y = z} c h) = back (links-moved (z, x) c) (AreJoined-moved z y h)

  -- a place that a member matches is matched after the move
  pub matched-moved : (place : ℕ) → Contains (places (all_pairs xs)) place → Contains (places (all_pairs ys)) place
  matched-moved place c =
      let r = matched_at xs place c in
      Contains-places_of_all ys r.member place (entry_member ys (move r.copy) r.member (M.each r.copy r.member r.entry))
      (subst (λ (n : ℕ). Contains (places r.member.pairs) n) r.at (Contains-places r.member.pairs r.pair r.matched))

  pub unmatched-moved : (a : Atom) → Contains (unmatched q (all_pairs ys)) a → Contains (unmatched q (all_pairs xs)) a
  unmatched-moved a c =
      let (place, l, e, n) = Contains-from_unmatched q (all_pairs ys) a c in
      subst (λ (b : Atom). Contains (unmatched q (all_pairs xs)) b) e (Contains-unmatched q (all_pairs xs) place l (λ i. n (matched-moved place i)))
