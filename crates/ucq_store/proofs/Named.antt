-- The rows of a store have no names but those of the problem.
use Rattle.std.proofs.Common.{◌≡◌, ℕ, zero, suc, ◌<◌, inl, inr, List, length, arith, subst}
use Rattle.std.proofs.lemmas.Bool.{cases_lt}
use Rattle.ucq_terms.specs.Syntax.{Problem}
use Rattle.ucq_terms.proofs.Lists.{All-from_contains}
use Rattle.ucq_chase.specs.Names.{IsHeldQuery, IsHeldProblem}
use Rattle.ucq_chase.proofs.Names.{one_step_keeps_names, core_keeps_names}
use Rattle.ucq_antichain.specs.declared.Row.{Row}
use Rattle.ucq_antichain.specs.Rows.{query_at, live_queries}
use Rattle.ucq_store.specs.Laws.{IsFromEarlier, IsCutListing, DerivedKeepsNames, ListingKeepsNames, LiveKeepNames}
use Rattle.ucq_store.proofs.Listing.{cut_listing}
use Rattle.ucq_store.proofs.Live.{live_is_row, member_is_live}

pub derived_keeps_names : DerivedKeepsNames
derived_keeps_names count rules q core rules_held held derived =
    core_keeps_names count derived.result core derived.core_of (one_step_keeps_names count rules q derived.result rules_held held derived.step)

module _ (count : ℕ) (problem : Problem) (rows : List Row) (held : IsHeldProblem count problem) (listing : IsCutListing problem rows) where
  -- the rows before that number
  rows_below : (n row : ℕ) → row < n → row < length rows → IsHeldQuery count (query_at rows row)
  rows_below zero row below l = absurd (omega arith)
  rows_below (suc n) row below l = elim (cases_lt 0 row) [
    | inl positive ↦
        let from : IsFromEarlier problem rows row = listing.later row l positive in
        let parent_below : from.parent < n = omega (arith, from.earlier) in
        let parent_row : from.parent < length rows = omega (arith, from.earlier) in
        derived_keeps_names count problem.rules (query_at rows from.parent) (query_at rows row) held.rules (rows_below n from.parent parent_below parent_row) from.derived
    | inr first ↦
        let is : 0 ≡ row = omega arith in
        subst (λ (k : ℕ). IsHeldQuery count (query_at rows k)) is (core_keeps_names count problem.query (query_at rows 0) listing.first held.query)
  ]

pub listing_keeps_names : ListingKeepsNames
listing_keeps_names count problem rows held listing row l = rows_below count problem rows held listing (suc row) row (omega arith) l

pub live_keep_names : LiveKeepNames
live_keep_names count s held law = All-from_contains (IsHeldQuery count) (live_queries s.rows) (λ q i.
    let (row, live, same) = member_is_live s.rows q i in
    subst (IsHeldQuery count) same (listing_keeps_names count s.problem s.rows held (cut_listing s law) row (live_is_row s.rows row live)))
