-- The live rows of a list, and the list of their queries.
use Rattle.std.proofs.Common.{◌≡◌, ◌≢◌, ℕ, ◌<◌, ◌+◌, inl, inr, refl, sym, ap, ◌∙◌, List, [], ◌∷◌, ◌++◌, Bool, true, false, length, filter, map, take, Any, Contains}
use Rattle.std.proofs.Math.ListN.{get_or-eq_default}
use Rattle.std.proofs.lemmas.Bool.{cases_lt}
use Rattle.std.proofs.lemmas.List.{append-nil, get_or_default, map-append, take_more}
use Rattle.std.proofs.lemmas.List.Elements.{Contains-get_or, filter-append}
use Rattle.ucq_terms.specs.Syntax.{Query}
use Rattle.ucq_terms.specs.Homomorphism.{Covers}
use Rattle.ucq_terms.specs.Union.{AreIncomparable}
use Rattle.ucq_antichain.specs.declared.Row.{Row}
use Rattle.ucq_antichain.specs.Rows.{no_row, row_at, query_at, IsLiveAt, SomeLiveCovers, live_queries}
use Rattle.ucq_terms.proofs.Lists.{Any-from_contains, Contains-map, Contains-from_map, Contains-filter, Contains-from_filter}
use Rattle.ucq_terms.proofs.Maps.{Covers-trans}

-- any two live rows are incomparable
abbrev pub LiveAreIncomparable : List Row → Type 0
LiveAreIncomparable rows =
    (one two : ℕ) → one ≢ two → IsLiveAt rows one → IsLiveAt rows two → AreIncomparable (query_at rows one) (query_at rows two)

-- no row covers a later one
abbrev pub NoneCoversLater : List Row → Type 0
NoneCoversLater rows = (earlier later : ℕ) → earlier < later → later < length rows → ¬ Covers (query_at rows earlier) (query_at rows later)

-- each row is covered by a live one
abbrev pub AllAreCovered : List Row → Type 0
AllAreCovered rows = (row : ℕ) → row < length rows → SomeLiveCovers rows (query_at rows row)

pub live_is_row : (rows : List Row) (row : ℕ) → IsLiveAt rows row → row < length rows
live_is_row rows row live = elim (cases_lt row (length rows)) [
  | inl l ↦ l
  | inr m ↦ let bad : false ≡ true = sym (ap (λ (r : Row). r.live) (get_or-eq_default rows no_row m)) ∙ live in cc
]

pub live_is_member : (rows : List Row) (row : ℕ) → IsLiveAt rows row → Contains (live_queries rows) (query_at rows row)
live_is_member rows row live =
    Contains-map (λ (r : Row). r.query) (filter (λ (r : Row). r.live) rows) (row_at rows row)
    (Contains-filter (λ (r : Row). r.live) rows (row_at rows row) (Contains-get_or rows row no_row (live_is_row rows row live)) live)

pub member_is_live : (rows : List Row) (q : Query) → Contains (live_queries rows) q → (row : ℕ) × IsLiveAt rows row × (query_at rows row ≡ q)
member_is_live rows q i =
    let (r, j, e) = Contains-from_map (λ (r : Row). r.query) (filter (λ (r : Row). r.live) rows) q i in
    let (k, live) = Contains-from_filter (λ (r : Row). r.live) rows r j in
    let (row, l, at) = k in
    let same : row_at rows row ≡ r = sym (get_or_default rows row r no_row l) ∙ at in
    (row, ap (λ (r : Row). r.live) same ∙ live, ap (λ (r : Row). r.query) same ∙ e)

pub any_live : (rows : List Row) (q : Query) → SomeLiveCovers rows q → Any (λ m. Covers m q) (live_queries rows)
any_live rows q c = Any-from_contains (λ m. Covers m q) (live_queries rows) (query_at rows c.row) (live_is_member rows c.row c.live) c.covers

pub live_covers_on : (rows : List Row) (a b : Query) → SomeLiveCovers rows a → Covers a b → SomeLiveCovers rows b
live_covers_on rows a b c on = record { row = c.row; live = c.live; covers = Covers-trans (query_at rows c.row) a b c.covers on }

-- ---- the live queries before a place

one_live : (q : Query) (b : Bool) → b ≡ true → live_queries (record { query = q; live = b } ∷ []) ≡ q ∷ []
one_live q true e = refl
one_live q false e = let bad : false ≡ true = e in cc

one_dead : (q : Query) (b : Bool) → b ≡ false → live_queries (record { query = q; live = b } ∷ []) ≡ []
one_dead q true e = let bad : true ≡ false = e in cc
one_dead q false e = refl

one_more : (rows : List Row) (row : ℕ) → row < length rows → live_queries (take (row + 1) rows) ≡ live_queries (take row rows) ++ live_queries (row_at rows row ∷ [])
one_more rows row l =
    ap live_queries (take_more rows row no_row l)
    ∙ ap (map (λ (r : Row). r.query)) (filter-append (λ (r : Row). r.live) (take row rows) (row_at rows row ∷ []))
    ∙ map-append (λ (r : Row). r.query) (filter (λ (r : Row). r.live) (take row rows)) (filter (λ (r : Row). r.live) (row_at rows row ∷ []))

-- and the one at it, where it is live
pub live_more : (rows : List Row) (row : ℕ) → row < length rows → (row_at rows row).live ≡ true → live_queries (take (row + 1) rows) ≡ live_queries (take row rows) ++ query_at rows row ∷ []
live_more rows row l live = one_more rows row l ∙ ap (λ qs. live_queries (take row rows) ++ qs) (one_live (query_at rows row) (row_at rows row).live live)

pub dead_more : (rows : List Row) (row : ℕ) → row < length rows → (row_at rows row).live ≡ false → live_queries (take (row + 1) rows) ≡ live_queries (take row rows)
dead_more rows row l dead =
    one_more rows row l ∙ ap (λ qs. live_queries (take row rows) ++ qs) (one_dead (query_at rows row) (row_at rows row).live dead) ∙ append-nil (live_queries (take row rows))
