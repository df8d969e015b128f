-- Where live rows are pairwise incomparable, so are the members of the list of their queries.
use Rattle.std.proofs.Common.{◌≡◌, ℕ, ◌<◌, sym, List, IsTrue, length, filter, get_or, AllPairs, arith, subst}
use Rattle.std.proofs.lemmas.List.{get_or_default, get_or-map, length-map}
use Rattle.std.proofs.lemmas.List.Elements.{filter_passes}
use Rattle.std.proofs.lemmas.List.Kept.{AllPairs-filter}
use Rattle.ucq_terms.specs.Syntax.{Query}
use Rattle.ucq_terms.specs.Union.{AreIncomparable}
use Rattle.ucq_antichain.specs.declared.Row.{Row}
use Rattle.ucq_antichain.specs.Rows.{no_row, row_at, live_queries}
use Rattle.ucq_store.proofs.Live.{LiveAreIncomparable}

abbrev IncomparableIfLive : Row → Row → Type 0
IncomparableIfLive a b = IsTrue a.live → IsTrue b.live → AreIncomparable a.query b.query

pairs_of_rows : (rows : List Row) → LiveAreIncomparable rows → AllPairs IncomparableIfLive rows
pairs_of_rows rows apart i j d lt l =
    let a : row_at rows i ≡ get_or rows i d = get_or_default rows i no_row d (omega arith) in
    let b : row_at rows j ≡ get_or rows j d = get_or_default rows j no_row d l in
    subst (λ (x : Row). IncomparableIfLive x (get_or rows j d)) a (subst (λ (y : Row). IncomparableIfLive (row_at rows i) y) b (apart i j (omega arith)))

pub minimal_queries : (rows : List Row) → LiveAreIncomparable rows → AllPairs AreIncomparable (live_queries rows)
minimal_queries rows apart i j d lt l =
    let kept : List Row = filter (λ (r : Row). r.live) rows in
    let m : j < length kept = omega (arith, length-map kept (λ (r : Row). r.query), l) in
    let at : (k : ℕ) → k < length kept → get_or (live_queries rows) k d ≡ (row_at kept k).query = λ k n. get_or-map (λ (r : Row). r.query) kept k no_row d n in
    let pair = AllPairs-filter IncomparableIfLive (λ (r : Row). r.live) rows (pairs_of_rows rows apart) i j no_row lt m in
    let passes = filter_passes (λ (r : Row). r.live) rows in
    subst (λ (a : Query). AreIncomparable a (get_or (live_queries rows) j d)) (sym (at i (omega arith)))
    (subst (λ (b : Query). AreIncomparable (row_at kept i).query b) (sym (at j m)) (pair (passes i no_row (omega arith)) (passes j no_row m)))
