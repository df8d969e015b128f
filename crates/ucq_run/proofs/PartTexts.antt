-- Parts and their texts.
use Rattle.std.proofs.Common.{◌≡◌, ◌≤◌, ◌+◌, ◌++◌, ℕ, Bool, true, false, List, [], ◌∷◌, length, take, All, Contains, inl, inr, refl, sym, ap, add-one, ◌∙◌, subst}
use Rattle.std.proofs.Math.Seq.{take-length, take-suc}
use Rattle.std.proofs.lemmas.List.{append-nil}
use Rattle.std.proofs.lemmas.List.Concat.{flat_map-append}
use Rattle.std.proofs.lemmas.List.Elements.{All-append, All-contains, All-from_recursion, All-nil, Contains-append_left, Contains-append_right}
use Rattle.std.proofs.lemmas.Option.{get_or_from_slice_get, slice_get_within}
use Rattle.std.specs.List.{AllZip}
use Rattle.std.specs.Prelude.{Option, Some, None, IfSome, slice_get}
use Rattle.ucq_outside.specs.Causes.{Rose}
use Rattle.ucq_outside.specs.Taken.{SinkChange, change_of, Follows, over_both, TookAll, TookPrefix}
use Rattle.ucq_outside.proofs.Taken.{all_then_all, all_then_prefix, rose_in_one}
use Rattle.ucq_terms.proofs.Lists.{Any-contains, Any-from_contains, Contains-cons_cases, Contains-empty, Contains-first, Contains-rest}
use Rattle.ucq_run.specs.declared.outcome.Outcome.{Outcome}
use Rattle.ucq_run.specs.declared.outcome.Outcome.TheVariants.{Finished, Cut, NoMemory, BadWords, ReadFault, TooLong, Refused, WriteFault}
use Rattle.ucq_run.specs.Compared.{IsComparedText, IsJudgedText}
use Rattle.ucq_run.specs.Parts.{Part, section, compared, judged, PartText, IsSectionText, IsTextOf, AreTextsOf, join, NoneIsCut, SomeIsCut, HasEnoughFor}
use Rattle.ucq_run.specs.Printed.{PrintsAll, PrintsBeginning, PrintsFor, PrintsParts, PrintsSome, ended}
use Rattle.ucq_run.proofs.Written.{GoOn}

-- a text that was taken whole is a prefix of it
pub TookPrefix-whole : (out : SinkChange) (text : List ℕ) → TookAll out text → TookPrefix out text
TookPrefix-whole out text h = go out.taken_after h
  where
    go : (after : Option (List ℕ)) → IfSome after (λ now. (before : List ℕ) × (out.taken_before ≡ Some before) × (now ≡ before ++ text)) →
        IfSome after (λ now. (before : List ℕ) × (count : ℕ) × (out.taken_before ≡ Some before) × (now ≡ before ++ take count text))
    go None h = tt
    go (Some now) h = (h.0, length text, h.1, h.2 ∙ ap (λ t. h.0 ++ t) (sym (take-length text)))

-- a sink that was not touched took nothing
pub took_nothing : (taken : Option (List ℕ)) (faults : ℕ) → TookAll (change_of taken taken faults faults) []
took_nothing None faults = tt
took_nothing (Some bytes) faults = (bytes, refl, sym (append-nil bytes))

-- ---- all parts

-- whatever was printed may be printed where memory is wanting
pub parts_some : (parts : List Part) (out : SinkChange) (o : Outcome) → PrintsParts parts out o → PrintsParts parts out NoMemory
parts_some parts out Finished h = record {
  count = length parts;
  texts = h.texts;
  are = subst (λ (ps : List Part). AreTextsOf ps h.texts) (sym (take-length parts)) h.are;
  took = TookPrefix-whole out (join h.texts) h.took;
}
parts_some parts out Cut h = record {
  count = length parts;
  texts = h.texts;
  are = subst (λ (ps : List Part). AreTextsOf ps h.texts) (sym (take-length parts)) h.are;
  took = TookPrefix-whole out (join h.texts) h.took;
}
parts_some parts out NoMemory h = h
parts_some parts out WriteFault h = h.1
parts_some parts out BadWords h = absurd h
parts_some parts out (ReadFault file at) h = absurd h
parts_some parts out (TooLong file) h = absurd h
parts_some parts out (Refused fault) h = absurd h

-- ---- a budget that is enough

-- a part whose text is cut had no budget that is enough
is_short : (part : Part) (t : PartText) → IsTextOf part t → t.cut ≡ true → ¬ HasEnoughFor part
is_short (section header q) t (text, is, joined) e = (subst (λ (b : Bool). IsSectionText q b text) e is).short
is_short (compared header q number queries) t (text, lines, is, joined) e = (subst (λ (b : Bool). IsComparedText q number queries b text lines) e is).0.short
is_short (judged r) t is e = let o = subst (λ (b : Bool). IsJudgedText r b t.text) e is in λ enough. o.cut.short (enough o.small)

some_short : (parts : List Part) (texts : List PartText) (t : PartText) → AreTextsOf parts texts → Contains texts t → t.cut ≡ true →
    (part : Part) × Contains parts part × (¬ HasEnoughFor part)
some_short [] [] t are i e = absurd (Contains-empty t i)
some_short [] (u ∷ texts) t are i e = absurd are
some_short (part ∷ parts) [] t are i e = absurd are
some_short (part ∷ parts) (u ∷ texts) t are i e = elim (Contains-cons_cases u texts t i) [
  | inl same ↦ (part, Contains-first part parts, is_short part u are.0 (ap (λ (s : PartText). s.cut) same ∙ e))
  | inr j ↦ let (other, k, short) = some_short parts texts t are.1 j e in (other, Contains-rest part parts other k, short)
]

-- so where some part is cut, the budget isn't enough for all
pub cut_is_short : (parts : List Part) (out : SinkChange) → PrintsAll parts out SomeIsCut → ¬ All HasEnoughFor parts
cut_is_short parts out p enough =
    let (t, i, e) = Any-contains (λ (t : PartText). t.cut ≡ true) p.texts p.has in
    let (part, k, short) = some_short parts p.texts t p.are i e in
    short (All-contains HasEnoughFor parts part enough k)

-- ---- part by part

-- some of the texts is cut, or none is
abbrev pub AreCutSo : Bool → List PartText → Type 0
AreCutSo false = NoneIsCut
AreCutSo true = SomeIsCut

-- the texts of the first parts were taken
abbrev pub HasPrinted : List Part → ℕ → SinkChange → Bool → Type 0
HasPrinted parts count out cut = PrintsAll (take count parts) out (AreCutSo cut)

pub nothing_printed : (parts : List Part) (taken : Option (List ℕ)) (faults : ℕ) → HasPrinted parts 0 (change_of taken taken faults faults) false
nothing_printed parts taken faults = record { texts = []; are = tt; has = All-nil (λ (t : PartText). t.cut ≡ false); took = took_nothing taken faults }

zip_more : {A B : Type 0} (R : A → B → Type 0) (xs : List A) (ys : List B) (x : A) (y : B) → AllZip R xs ys → R x y → AllZip R (xs ++ x ∷ []) (ys ++ y ∷ [])
zip_more R [] [] x y h r = (r, tt)
zip_more R [] (z ∷ ys) x y h r = absurd h
zip_more R (z ∷ xs) [] x y h r = absurd h
zip_more R (z ∷ xs) (w ∷ ys) x y h r = (h.0, zip_more R xs ys x y h.1 r)

-- the parts up to one more
parts_more : (parts : List Part) (count : ℕ) (part : Part) → slice_get parts count ≡ Some part → take (count + 1) parts ≡ take count parts ++ part ∷ []
parts_more parts count part at =
    ap (λ n. take n parts) (add-one count) ∙ (take-suc parts count part (slice_get_within parts count part at) ∙
    ap (λ (p : Part). take count parts ++ p ∷ []) (get_or_from_slice_get parts count part part at))

join_more : (texts : List PartText) (t : PartText) → join (texts ++ t ∷ []) ≡ join texts ++ t.text
join_more texts t = flat_map-append (λ (u : PartText). u.text) texts (t ∷ []) ∙ ap (λ l. join texts ++ l) (append-nil t.text)

texts_more : (parts : List Part) (count : ℕ) (part : Part) (texts : List PartText) (t : PartText) → slice_get parts count ≡ Some part →
    AreTextsOf (take count parts) texts → IsTextOf part t → AreTextsOf (take (count + 1) parts) (texts ++ t ∷ [])
texts_more parts count part texts t at are is =
    subst (λ (ps : List Part). AreTextsOf ps (texts ++ t ∷ [])) (sym (parts_more parts count part at)) (zip_more IsTextOf (take count parts) texts part t are is)

abbrev written : List ℕ → Bool → PartText
written text cut = record { text = text; cut = cut }

none_more : (texts : List PartText) (text : List ℕ) → NoneIsCut texts → NoneIsCut (texts ++ written text false ∷ [])
none_more texts text none =
    All-append (λ (t : PartText). t.cut ≡ false) texts (written text false ∷ []) none (All-from_recursion (λ (t : PartText). t.cut ≡ false) (written text false ∷ []) (refl, tt))

some_more : (texts : List PartText) (t : PartText) → SomeIsCut texts → SomeIsCut (texts ++ t ∷ [])
some_more texts t some =
    let (u, i, e) = Any-contains (λ (u : PartText). u.cut ≡ true) texts some in
    Any-from_contains (λ (u : PartText). u.cut ≡ true) (texts ++ t ∷ []) u (Contains-append_left texts (t ∷ []) u i) e

last_cut : (texts : List PartText) (text : List ℕ) → SomeIsCut (texts ++ written text true ∷ [])
last_cut texts text =
    Any-from_contains (λ (u : PartText). u.cut ≡ true) (texts ++ written text true ∷ []) (written text true) (Contains-append_right texts (written text true ∷ []) (written text true) (Contains-first (written text true) [])) refl

kept_cut : (cut : Bool) (texts : List PartText) (text : List ℕ) → AreCutSo cut texts → AreCutSo cut (texts ++ written text false ∷ [])
kept_cut false texts text h = none_more texts text h
kept_cut true texts text h = some_more texts (written text false) h

-- one more part is printed, which isn't cut
pub finished_more : (parts : List Part) (count : ℕ) (part : Part) (first second : SinkChange) (cut : Bool) → slice_get parts count ≡ Some part → Follows first second →
    HasPrinted parts count first cut → PrintsFor part second Finished → HasPrinted parts (count + 1) (over_both first second) cut
finished_more parts count part first second cut at follows p (text, is, took) = record {
  texts = p.texts ++ written text false ∷ [];
  are = texts_more parts count part p.texts (written text false) at p.are is;
  has = kept_cut cut p.texts text p.has;
  took = subst (TookAll (over_both first second)) (sym (join_more p.texts (written text false))) (all_then_all first second (join p.texts) text follows p.took took);
}

-- or which is cut
pub cut_more : (parts : List Part) (count : ℕ) (part : Part) (first second : SinkChange) (cut : Bool) → slice_get parts count ≡ Some part → Follows first second →
    HasPrinted parts count first cut → PrintsFor part second Cut → HasPrinted parts (count + 1) (over_both first second) true
cut_more parts count part first second cut at follows p (text, is, took) = record {
  texts = p.texts ++ written text true ∷ [];
  are = texts_more parts count part p.texts (written text true) at p.are is;
  has = last_cut p.texts text;
  took = subst (TookAll (over_both first second)) (sym (join_more p.texts (written text true))) (all_then_all first second (join p.texts) text follows p.took took);
}

-- where no more is printed, what was printed is a beginning
pub printed_beginning : (parts : List Part) (count : ℕ) (out : SinkChange) (cut : Bool) → HasPrinted parts count out cut → PrintsBeginning parts out
printed_beginning parts count out cut p = record { count = count; texts = p.texts; are = p.are; took = TookPrefix-whole out (join p.texts) p.took }

some_beginning : (parts : List Part) (count : ℕ) (part : Part) (first second : SinkChange) (cut : Bool) → slice_get parts count ≡ Some part → Follows first second →
    HasPrinted parts count first cut → PrintsSome part second → PrintsBeginning parts (over_both first second)
some_beginning parts count part first second cut at follows p (t, is, took) = record {
  count = count + 1;
  texts = p.texts ++ t ∷ [];
  are = texts_more parts count part p.texts t at p.are is;
  took = subst (TookPrefix (over_both first second)) (sym (join_more p.texts t)) (all_then_prefix first second (join p.texts) t.text follows p.took took);
}

nothing_beginning : (parts : List Part) (count : ℕ) (first second : SinkChange) (cut : Bool) → Follows first second → HasPrinted parts count first cut → TookAll second [] →
    PrintsBeginning parts (over_both first second)
nothing_beginning parts count first second cut follows p took = record {
  count = count;
  texts = p.texts;
  are = p.are;
  took = TookPrefix-whole (over_both first second) (join p.texts)
      (subst (TookAll (over_both first second)) (append-nil (join p.texts)) (all_then_all first second (join p.texts) [] follows p.took took));
}

-- the part isn't printed whole
abbrev pub IsUnfinished : Outcome → Type 0
IsUnfinished Finished = ⊥
IsUnfinished Cut = ⊥
IsUnfinished _ = Unit {0}

-- with the part that isn't printed whole all ends
pub unfinished_ends : (parts : List Part) (count : ℕ) (part : Part) (first second : SinkChange) (cut : Bool) (o : Outcome) → slice_get parts count ≡ Some part → GoOn first second →
    HasPrinted parts count first cut → PrintsFor part second o → IsUnfinished o → PrintsParts parts (over_both first second) o
unfinished_ends parts count part first second cut Finished at on p h isnt = absurd isnt
unfinished_ends parts count part first second cut Cut at on p h isnt = absurd isnt
unfinished_ends parts count part first second cut NoMemory at on p (inl nothing) isnt = nothing_beginning parts count first second cut on.follows p nothing
unfinished_ends parts count part first second cut NoMemory at on p (inr some) isnt = some_beginning parts count part first second cut at on.follows p some
unfinished_ends parts count part first second cut WriteFault at on p (rose, some) isnt = (
  rose_in_one first.faults_before first.faults_after second.faults_after on.later (subst (λ n. n ≤ second.faults_after) on.follows.faults on.later_still)
      (inr (subst (λ n. Rose n second.faults_after) on.follows.faults rose)),
  some_beginning parts count part first second cut at on.follows p some,
)
unfinished_ends parts count part first second cut BadWords at on p h isnt = absurd h
unfinished_ends parts count part first second cut (ReadFault file at_byte) at on p h isnt = absurd h
unfinished_ends parts count part first second cut (TooLong file) at on p h isnt = absurd h
unfinished_ends parts count part first second cut (Refused fault) at on p h isnt = absurd h

-- all parts are printed
whole_list : (parts : List Part) (out : SinkChange) (P : List PartText → Type 0) → PrintsAll (take (length parts) parts) out P → PrintsAll parts out P
whole_list parts out P h = record { texts = h.texts; are = subst (λ (ps : List Part). AreTextsOf ps h.texts) (take-length parts) h.are; has = h.has; took = h.took }

pub all_printed : (parts : List Part) (out : SinkChange) (cut : Bool) → HasPrinted parts (length parts) out cut → PrintsParts parts out (ended cut)
all_printed parts out true h = whole_list parts out SomeIsCut h
all_printed parts out false h = whole_list parts out NoneIsCut h

-- what was printed of a part is printed of it for want of memory, too
pub memory_ends : (part : Part) (out : SinkChange) (o : Outcome) → PrintsFor part out o → PrintsFor part out NoMemory
memory_ends part out Finished (text, is, took) = inr (record { text = text; cut = false }, is, TookPrefix-whole out text took)
memory_ends part out Cut (text, is, took) = inr (record { text = text; cut = true }, is, TookPrefix-whole out text took)
memory_ends part out NoMemory h = h
memory_ends part out WriteFault (rose, some) = inr some
memory_ends part out BadWords h = absurd h
memory_ends part out (ReadFault file at) h = absurd h
memory_ends part out (TooLong file) h = absurd h
memory_ends part out (Refused fault) h = absurd h
