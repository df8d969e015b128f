-- Files that were read, one more at a time.
use Rattle.std.proofs.Common.{◌≡◌, ◌<◌, ◌≤◌, ◌+◌, ◌^◌, ℕ, List, [], ◌∷◌, ◌++◌, length, take, get_or, map, sym, ap, subst, ◌∙◌, arith}
use Rattle.std.proofs.lemmas.List.Elements.{all_zip_more}
use Rattle.std.proofs.lemmas.List.Sums.{sum_by-append}
use Rattle.std.proofs.lemmas.Option.{get_or_from_slice_get, slice_get_within, slice_get-map, slice_get-get_or}
use Rattle.std.specs.Prelude.{Option, Some, IfSome, slice_get}
use Rattle.std.specs.Option.{option_map}
use Rattle.ucq_reader.specs.Outcome.{byte_count}
use Rattle.ucq_run.specs.declared.outcome.Outcome.{Outcome}
use Rattle.ucq_run.specs.declared.outcome.Outcome.TheVariants.{Finished, Cut, NoMemory, BadWords, ReadFault as ReadFaultAt, TooLong, Refused, WriteFault}
use Rattle.ucq_run.specs.Inputs.{AreFileTexts}
use Rattle.ucq_run.specs.Causes.{HaveCause, IsRefusal, IsUnreadAt}

pub byte_count-more : (texts : List (List ℕ)) (text : List ℕ) → byte_count (texts ++ text ∷ []) ≡ byte_count texts + length text
byte_count-more texts text =
    let h : byte_count (texts ++ text ∷ []) ≡ byte_count texts + (0 + length text) = sum_by-append length texts (text ∷ []) in
    omega (arith, h)

-- an element's image stands at its place
pub mapped_at : {X Y : Type 0} (f : X → Y) (xs : List X) (i : ℕ) (x : X) (y : Y) → i < length xs → x ≡ get_or xs i x → y ≡ f x → slice_get (map f xs) i ≡ Some y
mapped_at f xs i x y inside is value =
    slice_get-map f xs i ∙ ap (option_map f) (slice_get-get_or xs i x inside) ∙ ap (λ z. Some (f z)) (sym is) ∙ ap Some (sym value)

pub one_more_read : (held : List ℕ → Option (List ℕ)) (names texts : List (List ℕ)) (file : ℕ) (name text : List ℕ) →
    slice_get names file ≡ Some name → AreFileTexts held (take file names) texts → IfSome (held name) (λ file. text ≡ file) → byte_count texts + length text ≤ 2 ^ 26 →
    AreFileTexts held (take (file + 1) names) (texts ++ text ∷ [])
one_more_read held names texts file name text at read told short = record {
  told = all_zip_more (λ (name text : List ℕ). IfSome (held name) (λ file. text ≡ file)) names texts file name text (slice_get_within names file name at) (sym (get_or_from_slice_get names file name name at)) read.told told;
  short = let e = byte_count-more texts text in omega (arith, e, short);
}

-- why a file wasn't read is why none of them stand for an input
pub unread_is_cause : (held : List ℕ → Option (List ℕ)) (names texts : List (List ℕ)) (file : ℕ) (name : List ℕ) (before middle after : ℕ) (outcome : Outcome) →
    slice_get names file ≡ Some name → AreFileTexts held (take file names) texts → before ≤ middle → IsUnreadAt file (held name) (byte_count texts) middle after outcome →
    HaveCause held names before after outcome
unread_is_cause held names texts file name before middle after NoMemory at read later cause = tt
unread_is_cause held names texts file name before middle after (ReadFaultAt number place) at read later cause = (
  let rose = cause.1 in omega arith,
  record { name = name; named = subst (λ (n : ℕ). slice_get names n ≡ Some name) (sym cause.0) at; within = cause.2 },
)
unread_is_cause held names texts file name before middle after (TooLong number) at read later cause = record {
  before = texts;
  read = subst (λ (n : ℕ). AreFileTexts held (take n names) texts) (sym cause.0) read;
  name = name;
  named = subst (λ (n : ℕ). slice_get names n ≡ Some name) (sym cause.0) at;
  long = cause.1;
}
unread_is_cause held names texts file name before middle after Finished at read later cause = absurd cause
unread_is_cause held names texts file name before middle after Cut at read later cause = absurd cause
unread_is_cause held names texts file name before middle after BadWords at read later cause = absurd cause
unread_is_cause held names texts file name before middle after (Refused fault) at read later cause = absurd cause
unread_is_cause held names texts file name before middle after WriteFault at read later cause = absurd cause

-- a refusal of all files that were read
pub refusal_is_cause : (held : List ℕ → Option (List ℕ)) (names texts : List (List ℕ)) (before after : ℕ) (outcome : Outcome) →
    AreFileTexts held names texts → IsRefusal texts outcome → HaveCause held names before after outcome
refusal_is_cause held names texts before after NoMemory read refused = tt
refusal_is_cause held names texts before after (Refused fault) read refused = record { texts = texts; read = read; refused = refused }
refusal_is_cause held names texts before after (ReadFaultAt number place) read refused = absurd refused
refusal_is_cause held names texts before after (TooLong number) read refused = absurd refused
refusal_is_cause held names texts before after Finished read refused = absurd refused
refusal_is_cause held names texts before after Cut read refused = absurd refused
refusal_is_cause held names texts before after BadWords read refused = absurd refused
refusal_is_cause held names texts before after WriteFault read refused = absurd refused
