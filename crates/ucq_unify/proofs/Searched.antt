-- What the steps of the search add to the pieces found.
use Rattle.std.proofs.Common.{◌≡◌, ◌<◌, ◌+◌, ◌++◌, ◌∷◌, [], ℕ, List, length, Option, None, sym, ap, ◌∙◌, subst, append_assoc, arith}
use Rattle.std.proofs.lemmas.List.{append-nil}
use Rattle.ucq_terms.specs.Syntax.{Query, Rule}
use Rattle.ucq_terms.specs.Unifier.{KeepsPredicate, IsPieceUnifier}
use Rattle.ucq_terms.proofs.Lists.{first_element}
use Rattle.ucq_unify.specs.Pieces.{AreSinglePieces}
use Rattle.ucq_unify.specs.inner.Growing.{pairs_of, head_at, with_head, IsGrown, IsRooted}
use Rattle.ucq_unify.specs.inner.Search.{IsBlockedChoice, IsNextPlace, HasFound, HasBranched, HasRooted}
use Rattle.ucq_unify.proofs.Found.{searched_none, searched_closed, searched_open, branched_none, branched_skip, branched_more, rooted_none, rooted_more}
use Rattle.ucq_unify.proofs.Choices.{no_heads-no_pairs}

pub found_none : (q : Query) (rule : Rule) (root : ℕ) (choice : List (Option ℕ)) (before : List (List (ℕ × ℕ))) → IsBlockedChoice q rule root choice →
    HasFound q rule root choice before before
found_none q rule root choice before b = record {
  more = [];
  added = sym (append-nil before);
  searched = searched_none q rule root choice b.none;
}

pub found_closed : (q : Query) (rule : Rule) (root : ℕ) (choice : List (Option ℕ)) (before after : List (List (ℕ × ℕ))) → IsGrown q rule root choice →
    IsPieceUnifier q rule (pairs_of choice) → after ≡ before ++ pairs_of choice ∷ [] → HasFound q rule root choice before after
found_closed q rule root choice before after g U e = record {
  more = pairs_of choice ∷ [];
  added = e;
  searched = searched_closed q rule root choice g U;
}

pub found_open : (q : Query) (rule : Rule) (root : ℕ) (choice : List (Option ℕ)) (place : ℕ) (before after : List (List (ℕ × ℕ))) →
    IsNextPlace q rule root choice place → HasBranched q rule root choice place (length rule.heads) before after → HasFound q rule root choice before after
found_open q rule root choice place before after n b = record {
  more = b.more;
  added = b.added;
  searched = searched_open q rule root choice place b.more n.within n.calls b.branched;
}

pub has_branched_none : (q : Query) (rule : Rule) (root : ℕ) (choice : List (Option ℕ)) (place : ℕ) (before : List (List (ℕ × ℕ))) →
    HasBranched q rule root choice place 0 before before
has_branched_none q rule root choice place before = record {
  more = [];
  added = sym (append-nil before);
  branched = branched_none q rule root choice place;
}

pub has_branched_skip : (q : Query) (rule : Rule) (root : ℕ) (choice : List (Option ℕ)) (place tried : ℕ) (before after : List (List (ℕ × ℕ))) →
    (KeepsPredicate q rule (place, tried) → ⊥) → HasBranched q rule root choice place tried before after →
    HasBranched q rule root choice place (tried + 1) before after
has_branched_skip q rule root choice place tried before after n b = record {
  more = b.more;
  added = b.added;
  branched = branched_skip q rule root choice place tried b.more n b.branched;
}

pub has_branched_more : (q : Query) (rule : Rule) (root : ℕ) (choice : List (Option ℕ)) (place tried : ℕ) (before middle after : List (List (ℕ × ℕ))) →
    place < length choice → head_at choice place ≡ None → HasBranched q rule root choice place tried before middle →
    HasFound q rule root (with_head choice place tried) middle after → HasBranched q rule root choice place (tried + 1) before after
has_branched_more q rule root choice place tried before middle after l f b s = record {
  more = b.more ++ s.more;
  added = s.added ∙ (ap (λ (xs : List (List (ℕ × ℕ))). xs ++ s.more) b.added ∙ append_assoc before b.more s.more);
  branched = branched_more q rule root choice place tried b.more s.more l f b.branched s.searched;
}

pub has_rooted_none : (q : Query) (rule : Rule) (pieces : List (List (ℕ × ℕ))) → pieces ≡ [] → HasRooted q rule 0 pieces
has_rooted_none q rule pieces e = record { rooted = subst (λ (xs : List (List (ℕ × ℕ))). IsRooted q rule 0 xs) (sym e) (rooted_none q rule) }

pub has_rooted_more : (q : Query) (rule : Rule) (tried : ℕ) (choice : List (Option ℕ)) (before after : List (List (ℕ × ℕ))) →
    ((k : ℕ) → head_at choice k ≡ None) → HasRooted q rule tried before → HasBranched q rule tried choice tried (length rule.heads) before after →
    HasRooted q rule (tried + 1) after
has_rooted_more q rule tried choice before after none t b = record {
  rooted = subst (λ (xs : List (List (ℕ × ℕ))). IsRooted q rule (tried + 1) xs) (sym b.added)
      (rooted_more q rule tried choice before b.more (no_heads-no_pairs choice none) t.rooted b.branched);
}

-- where no atoms have one predicate, there is no piece
pub no_pieces : (q : Query) (rule : Rule) → ((pair : ℕ × ℕ) → ¬ KeepsPredicate q rule pair) → AreSinglePieces q rule []
no_pieces q rule none = record {
  single = λ piece h. absurd (omega (arith, h.1));
  all = λ piece s. let m = s.unifier.matching in let first = first_element piece m.nonempty in absurd (none first.0 (m.each first.0 first.1));
  once = λ i j d a b. absurd (omega (arith, b));
}
