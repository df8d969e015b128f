-- The links of a choice.
use Rattle.std.proofs.Common.{◌≡◌, ◌<◌, ◌+◌, ◌++◌, ℕ, List, length, refl, ap, ◌∙◌, take, Option, Some, None}
use Rattle.std.proofs.lemmas.List.{append-nil}
use Rattle.std.proofs.lemmas.Grind.{flat_map-append}
use Rattle.ucq_terms.specs.Syntax.{Query, Rule}
use Rattle.ucq_terms.specs.Unifier.{atom_at, links}
use Rattle.ucq_classes.specs.Classes.{atom_links}
use Rattle.ucq_unify.specs.inner.Growing.{pairs_of, head_at}
use Rattle.ucq_unify.specs.inner.Classes.{place_links}
use Rattle.ucq_unify.proofs.Choices.{pair_at, pairs_of-more}

-- the links of a choice's first places, and of one more
pub links_of-more : (q : Query) (rule : Rule) (choice : List (Option ℕ)) (i : ℕ) → i < length choice →
    links q 0 rule (pairs_of (take (i + 1) choice)) ≡ links q 0 rule (pairs_of (take i choice)) ++ place_links q rule i (head_at choice i)
links_of-more q rule choice i l =
    ap (links q 0 rule) (pairs_of-more choice i l) ∙
    (flat_map-append (λ (p : ℕ × ℕ). atom_links (atom_at q.atoms p.0) 0 (atom_at rule.heads p.1)) (pairs_of (take i choice)) (pair_at i (head_at choice i)) ∙
    ap (λ ls. links q 0 rule (pairs_of (take i choice)) ++ ls) (at (head_at choice i)))
  where
    at : (o : Option ℕ) → links q 0 rule (pair_at i o) ≡ place_links q rule i o
    at None = refl
    at (Some head) = append-nil (atom_links (atom_at q.atoms i) 0 (atom_at rule.heads head))
