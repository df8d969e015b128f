-- A publication changes no number of candidates.
use Rattle.std.proofs.Common.{◌≡◌, ℕ, ◌+◌, ◌<◌, inl, inr, sym, ap, ◌∙◌, subst, None, List, ◌∷◌, length, map, arith}
use Rattle.std.proofs.lemmas.List.{length-append, length-map}
use Rattle.ucq_terms.specs.Syntax.{Query}
use Rattle.ucq_store.specs.declared.Claim.{Claim}
use Rattle.ucq_store.specs.declared.Published.{Published}
use Rattle.ucq_store.specs.declared.Published.TheVariants as published
use Rattle.ucq_store.specs.declared.reports.Found.{Found}
use Rattle.ucq_store.specs.declared.reports.Found.TheVariants.{Whole}
use Rattle.ucq_store.specs.Store.{Store}
use Rattle.ucq_store.specs.Candidates.{Candidate, used}
use Rattle.ucq_store.specs.Reports.{Report, HasPlace}
use Rattle.ucq_store.specs.Calls.{AreTaken, IsFilled, IsTaken, IsCutFull, IsCutWide, DoesPublish}
use Rattle.ucq_store.proofs.Holding.{length_hold}
use Rattle.ucq_store.proofs.Taking.{length-takes}

length-taken : (s after : Store) (candidates then : List Candidate) → AreTaken s candidates after then → length then ≡ length candidates
length-taken s after candidates then t =
    ap (λ (xs : List Candidate). length xs) t.are ∙
    (length-map t.places used ∙ (length-takes s after t.cores t.places t.takes ∙ sym (length_hold candidates t.cores t.were)))

length-filled : (s after : Store) (candidates then : List Candidate) (left : Query) → IsFilled s candidates left after then → length then ≡ length candidates
length-filled s after candidates then left f =
    let a : length then ≡ length (map used f.places) + length (used None ∷ f.later) =
    ap (λ (xs : List Candidate). length xs) f.are ∙ length-append (map used f.places) (used None ∷ f.later) in
    let b : length candidates ≡ length f.earlier + length (f.at ∷ f.later) =
    ap (λ (xs : List Candidate). length xs) f.were ∙ length-append f.earlier (f.at ∷ f.later) in
    let c : length (map used f.places) ≡ length f.places = length-map f.places used in
    let d : length f.places ≡ length f.seen = length-takes s after f.seen f.places f.takes in
    let e : length f.earlier ≡ length f.seen = length_hold f.earlier f.seen f.held_seen in
    omega arith

-- where as many candidates are there, a place is one still
same_place : (before then : Found) (candidates others : List Candidate) (place : ℕ) → before ≡ Whole candidates → then ≡ Whole others →
    length others ≡ length candidates → HasPlace before place → HasPlace then place
same_place before then candidates others place were are same has =
    let inside : place < length candidates = subst (λ (f : Found). HasPlace f place) were has in
    let still : place < length others = omega arith in
    subst (λ (f : Found). HasPlace f place) (sym are) still

after_taken : (s after : Store) (row place : ℕ) (report then : Report) → IsTaken s row report after then → HasPlace report.found place → HasPlace then.found place
after_taken s after row place report then t has =
    same_place report.found then.found t.candidates t.candidates_then place t.were (ap (λ (r : Report). r.found) t.spent)
    (length-taken s t.taken t.candidates t.candidates_then t.takes) has

after_full : (s after : Store) (place : ℕ) (report then : Report) → IsCutFull s report after then → HasPlace report.found place → HasPlace then.found place
after_full s after place report then t has =
    same_place report.found then.found t.candidates t.candidates_then place t.were (ap (λ (r : Report). r.found) t.spent)
    (length-filled s t.taken t.candidates t.candidates_then t.left t.fills) has

after_wide : (s after : Store) (row place : ℕ) (report then : Report) → IsCutWide s row report after then → HasPlace report.found place → HasPlace then.found place
after_wide s after row place report then t has =
    let none : place < 0 = subst (λ (f : Found). HasPlace f place) t.were has in
    absurd (omega arith)

pub still_has_place : (s after : Store) (claim : Claim) (report then : Report) (answer : Published) (place : ℕ) → DoesPublish s claim report answer after then →
    HasPlace report.found place → HasPlace then.found place
still_has_place s after claim report then published.Cut place (inl was) has = subst (λ (r : Report). HasPlace r.found place) (sym was.0.1) has
still_has_place s after claim report then published.Cut place (inr (due, inl full)) has = after_full s after place report then full has
still_has_place s after claim report then published.Cut place (inr (due, inr wide)) has = after_wide s after claim.row place report then wide has
still_has_place s after claim report then published.Foreign place does has = subst (λ (r : Report). HasPlace r.found place) (sym does.0.1) has
still_has_place s after claim report then (published.Strange state) place does has = subst (λ (r : Report). HasPlace r.found place) (sym does.0.1) has
still_has_place s after claim report then published.Taken place does has = after_taken s after claim.row place report then does.1 has
