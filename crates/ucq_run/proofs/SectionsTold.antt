-- Where the section of a query stands in what was printed, and what it begins with.
use Rattle.std.proofs.Common.{◌≡◌, ◌≢◌, ◌∙◌, ℕ, zero, suc, ◌+◌, ◌<◌, ◌≤◌, ◌^◌, ◌⊎◌, Bool, true, false, List, [], ◌∷◌, ◌++◌, length, map, take, drop, All, Contains, inl, inr, refl, sym, ap, ap₂, subst, append_assoc, arith}
use Rattle.std.proofs.Math.Seq.{split_at}
use Rattle.std.proofs.lemmas.List.{append-nil}
use Rattle.std.proofs.lemmas.List.Concat.{flat_map-append}
use Rattle.std.proofs.lemmas.List.Elements.{All-append, All-cons, All-contains, All-nil, All-take}
use Rattle.std.proofs.lemmas.Option.{get_or_from_slice_get, slice_get_within}
use Rattle.std.specs.List.{AllZip, enumerate_from, flat_map}
use Rattle.std.specs.Prelude.{Option, Some, slice_get}
use Rattle.ucq_terms.specs.Syntax.{Query}
use Rattle.ucq_reader.specs.declared.input.Asked.{Asked}
use Rattle.ucq_reader.specs.Input.{InputValue}
use Rattle.ucq_print.specs.Laws.{AreReadableNames, ArePrintable, ComparingLinesStandApart, Headed, headed_lines, HeaderIsLine, HeadersAreNoAnswers, IsHeaded, IsLabelLine, IsLine, SectionsAreTold, TextsAreSections}
use Rattle.ucq_print.specs.Texts.{answered_lines, finished_lines, lines_text, section_line}
use Rattle.ucq_words.specs.declared.values.Mode.{Mode}
use Rattle.ucq_words.specs.declared.values.Mode.TheVariants.{Plain, Within}
use Rattle.ucq_words.specs.Settings.{JobValue, files, make, SettingsValue}
use Rattle.ucq_run.specs.Finished.{Question, question_of, IsPrintedIn}
use Rattle.ucq_run.specs.Inputs.{job_form, problem_of}
use Rattle.ucq_run.specs.Laws.{HasSection, IsBehindHeader, IsSectionOf}
use Rattle.ucq_run.specs.Parts.{PartText, IsSectionText, IsTextOf, AreTextsOf, compared_of, header_of, join, judged_of, parts_in, parts_of, section_of}
use Rattle.ucq_run.proofs.FurtherLines.{AreFurther, BeginApart, BeginsNoAnswers, HasFurther, HasLines, IsOwnText, behind_header_text, both_apart, both_further, both_lines, cut_has_lines, headers_apart, no_answers, nothing_further, own_of_compared, own_of_section, rules_further}

-- ---- numbers

small_number : (qs : List Asked) (number : ℕ) (asked : Asked) → length qs ≤ 64 → slice_get qs number ≡ Some asked → number < 2 ^ 64
small_number qs number asked few at = let within = slice_get_within qs number asked at in omega (arith, few, within)

slice_get_contains : {A : Type 0} (xs : List A) (k : ℕ) (x : A) → slice_get xs k ≡ Some x → Contains xs x
slice_get_contains xs k x at = (k, slice_get_within xs k x at, get_or_from_slice_get xs k x x at)

-- an element beside one that has a number
numbered_right : {A B : Type 0} (R : ℕ × A → B → Type 0) (n : ℕ) (xs : List A) (ys : List B) (k : ℕ) (y : B) → AllZip R (enumerate_from n xs) ys → slice_get ys k ≡ Some y →
    (x : A) × (slice_get xs k ≡ Some x) × R (n + k, x) y
numbered_right R n [] [] k y h at = absurd cc
numbered_right R n [] (z ∷ ys) k y h at = absurd h
numbered_right R n (x ∷ xs) [] k y h at = absurd h
numbered_right {A} {B} R n (x ∷ xs) (z ∷ ys) zero y h at =
    let same : z ≡ y = cc in
    (x, refl, subst (λ (m : ℕ). R (m, x) y) (omega arith) (subst (λ (b : B). R (n, x) b) same h.0))
numbered_right {A} {B} R n (x ∷ xs) (z ∷ ys) (suc k) y h at =
    let (found, here, r) = numbered_right R (n + 1) xs ys k y h.1 at in
    (found, here, subst (λ (m : ℕ). R (m, found) y) (omega arith) r)

-- and the one that it stands beside
numbered_left : {A B : Type 0} (R : ℕ × A → B → Type 0) (n : ℕ) (xs : List A) (ys : List B) (k : ℕ) (x : A) → AllZip R (enumerate_from n xs) ys → slice_get xs k ≡ Some x →
    (y : B) × (slice_get ys k ≡ Some y) × R (n + k, x) y
numbered_left R n [] ys k x h at = absurd cc
numbered_left R n (z ∷ xs) [] k x h at = absurd h
numbered_left {A} {B} R n (z ∷ xs) (y ∷ ys) zero x h at =
    let same : z ≡ x = cc in
    (y, refl, subst (λ (m : ℕ). R (m, x) y) (omega arith) (subst (λ (a : A). R (n, a) y) same h.0))
numbered_left {A} {B} R n (z ∷ xs) (y ∷ ys) (suc k) x h at =
    let (found, here, r) = numbered_left R (n + 1) xs ys k x h.1 at in
    (found, here, subst (λ (m : ℕ). R (m, x) found) (omega arith) r)

-- lists beside each other, where one of them is mapped or joined
zip_mapped : {A B D : Type 0} (R : B → D → Type 0) (S : A → D → Type 0) (f : A → B) → ((x : A) (y : D) → R (f x) y → S x y) → (xs : List A) (ys : List D) → AllZip R (map f xs) ys →
    AllZip S xs ys
zip_mapped R S f step [] [] h = tt
zip_mapped R S f step [] (y ∷ ys) h = absurd h
zip_mapped R S f step (x ∷ xs) [] h = absurd h
zip_mapped R S f step (x ∷ xs) (y ∷ ys) h = (step x y h.0, zip_mapped R S f step xs ys h.1)

zip_apart : {A B : Type 0} (R : A → B → Type 0) (xs zs : List A) (ys : List B) → AllZip R (xs ++ zs) ys →
    (front : List B) × (back : List B) × (ys ≡ front ++ back) × AllZip R xs front × AllZip R zs back
zip_apart R [] zs ys h = ([], ys, refl, tt, h)
zip_apart R (x ∷ xs) zs [] h = absurd h
zip_apart R (x ∷ xs) zs (y ∷ ys) h =
    let (front, back, is, one, two) = zip_apart R xs zs ys h.1 in
    (y ∷ front, back, ap (λ l. y ∷ l) is, (h.0, one), two)

all_front : {A : Type 0} (P : A → Type 0) (xs ys : List A) → All P (xs ++ ys) → All P xs
all_front P [] ys h = All-nil P
all_front P (x ∷ xs) ys h = All-cons P x xs (h 0 x (omega arith)) (all_front P xs ys (λ k d l. h (suc k) d (omega (arith, l))))

-- ---- one query, or several

one_or_several : (qs : List Asked) → ((one : Asked) × (qs ≡ one ∷ [])) ⊎ (length qs ≢ 1)
one_or_several [] = inr (λ e. omega (arith, e))
one_or_several (one ∷ []) = inl (one, refl)
one_or_several (one ∷ two ∷ rest) = inr (λ e. omega (arith, e))

section_behind : (qs : List Asked) (number : ℕ) (asked : Asked) (text part : List ℕ) → length qs ≢ 1 → IsSectionOf qs number asked text part → IsBehindHeader number asked text part
section_behind [] number asked text part several h = h
section_behind (one ∷ []) number asked text part several h = absurd (several refl)
section_behind (one ∷ two ∷ rest) number asked text part several h = h

behind_section : (qs : List Asked) (number : ℕ) (asked : Asked) (text part : List ℕ) → length qs ≢ 1 → IsBehindHeader number asked text part → IsSectionOf qs number asked text part
behind_section [] number asked text part several h = h
behind_section (one ∷ []) number asked text part several h = absurd (several refl)
behind_section (one ∷ two ∷ rest) number asked text part several h = h

-- the same section, of the queries of an input of the same meaning
pub section_moves : (xs ys : List Asked) (number : ℕ) (x y : Asked) (text part : List ℕ) → length xs ≡ length ys → x.label ≡ y.label → IsSectionOf xs number x text part →
    IsSectionOf ys number y text part
section_moves xs ys number x y text part size label h = elim (one_or_several xs) [
  | inl one ↦ only ys (sym size ∙ ap length one.1) (subst (λ (qs : List Asked). IsSectionOf qs number x text part) one.1 h)
  | inr several ↦
      let b : IsBehindHeader number x text part = section_behind xs number x text part several h in
      behind_section ys number y text part (λ e. several (size ∙ e))
      (record { before = b.before; lines = b.lines; stands = b.stands ∙ ap (λ (l : Option (List ℕ)). lines_text b.before ++ (section_line number l ++ part)) label })
]
  where
    only : (ys : List Asked) → length ys ≡ 1 → text ≡ part → IsSectionOf ys number y text part
    only [] e same = absurd (omega (arith, e))
    only (one ∷ []) e same = same
    only (one ∷ two ∷ rest) e same = absurd (omega (arith, e))

-- ---- headers

-- the headers of several queries
several_headers : (qs : List Asked) → length qs ≢ 1 → (number : ℕ) (asked : Asked) → header_of qs number asked ≡ section_line number asked.label
several_headers [] h number asked = refl
several_headers (one ∷ []) h number asked = absurd (h refl)
several_headers (one ∷ two ∷ rest) h number asked = refl

headed_are_lines : HeaderIsLine → (ss : List Headed) → All IsHeaded ss → All IsLine (flat_map headed_lines ss)
headed_are_lines line [] h = All-nil IsLine
headed_are_lines line (s ∷ ss) h =
    let first : IsHeaded s = h 0 s (omega arith) in
    All-append IsLine (headed_lines s) (flat_map headed_lines ss)
    (All-cons IsLine (section_line s.number s.label) s.lines (line s.number s.label first.small first.label) first.lines.lines)
    (headed_are_lines line ss (λ k d l. h (suc k) d (omega (arith, l))))

-- ---- sections of an input

-- it begins with its own text, finished or cut, behind which no answers begin
pub record HasOwn (C : Bool → Type 0) (settings : SettingsValue) (input : InputValue) (asked : Asked) (text : List ℕ) : Type 0 where
  pub cut : Bool
  pub allowed : C cut
  pub own : List ℕ
  pub is : IsSectionText (question_of settings input asked.query) cut own
  pub after : List ℕ
  pub begins : text ≡ own ++ after
  pub ends : BeginsNoAnswers after

-- with its header told apart
record IsHeadedSection (C : Bool → Type 0) (settings : SettingsValue) (input : InputValue) (q : ℕ × Asked) (s : Headed) : Type 0 where
  number : s.number ≡ q.0
  label : s.label ≡ q.1.label
  headed : IsHeaded s
  cut : Bool
  allowed : C cut
  own : List (List ℕ)
  section : IsSectionText (question_of settings input q.1.query) cut (lines_text own)
  further : List (List ℕ)
  apart : BeginApart further
  lines : s.lines ≡ own ++ further

-- what is asked of files whose names are readable, within the limits
pub record IsOfFiles (settings : SettingsValue) (input : InputValue) : Type 0 where
  pub given : List (List ℕ)
  pub job : settings.job ≡ files given
  pub readable : AreReadableNames input.names
  pub budget : settings.budget ≤ 65536
  pub rules : length input.rules ≤ 4096
  pub queries : length input.queries ≤ 64
  pub labels : All (λ (a : Asked). IsLabelLine a.label) input.queries

module _ (sections : TextsAreSections) (apart : HeadersAreNoAnswers) (comparing : ComparingLinesStandApart) (C : Bool → Type 0) (settings : SettingsValue) (input : InputValue) (of : IsOfFiles settings input) where
  abbrev question : Asked → Question
  question asked = question_of settings input asked.query

  finished_has_lines : (answers : Bool) (j : JobValue) (given : List (List ℕ)) (q : Question) (union : List Query) (text : List ℕ) → j ≡ files given → AreReadableNames q.names →
      ArePrintable q.names union → IsPrintedIn (job_form answers j) q union text → HasLines text
  finished_has_lines answers (make number) given q union text e clear printable printed = absurd cc
  finished_has_lines true (files names) given q union text e clear printable (tuples, are, held, is) =
      record { lines = answered_lines q.names union tuples; are = (sections q.names clear).1 union tuples printable held; is = is }
  finished_has_lines false (files names) given q union text e clear printable is =
      record { lines = finished_lines q.names union; are = (sections q.names clear).0 union printable; is = is }

  section_has_lines : (asked : Asked) (cut : Bool) (text : List ℕ) → IsSectionText (question asked) cut text → HasLines text
  section_has_lines asked false text is = finished_has_lines settings.answers settings.job of.given (question asked) is.union text of.job of.readable is.printable is.printed
  section_has_lines asked true text is = cut_has_lines sections input.names (problem_of input asked.query) settings.budget text of.readable of.budget of.rules is.cut

  -- with more lines behind it
  headed_section : (header : List ℕ) (q : ℕ × Asked) (t : PartText) (more : List (List ℕ)) → AreFurther more → C t.cut → header ≡ section_line q.0 q.1.label → q.0 < 2 ^ 64 →
      IsLabelLine q.1.label → IsOwnText header (question q.1) t →
      (s : Headed) × IsHeadedSection C settings input q s × (t.text ++ lines_text more ≡ lines_text (headed_lines s))
  headed_section header q t more more_further allowed e small label o =
      let l : HasLines o.own = section_has_lines q.1 t.cut o.own o.section in
      let further : AreFurther (o.further ++ more) = both_further o.further more o.are more_further in
      let s : Headed = record { number = q.0; label = q.1.label; lines = l.lines ++ (o.further ++ more) } in (
        s,
        record {
          number = refl;
          label = refl;
          headed = record { small = small; label = label; lines = both_lines l.lines (o.further ++ more) l.are further.are };
          cut = t.cut;
          allowed = allowed;
          own = l.lines;
          section = subst (IsSectionText (question q.1) t.cut) l.is o.section;
          further = o.further ++ more;
          apart = further.apart;
          lines = refl;
        },
        behind_header_text t.text header (section_line q.0 q.1.label) o.own l.lines o.further more o.is e l.is,
      )

  abbrev IsOwnOf : List Asked → ℕ × Asked → PartText → Type 0
  IsOwnOf all q t = IsOwnText (header_of all q.0 q.1) (question q.1) t

  record AreHeaded (n : ℕ) (qs : List Asked) (text : List ℕ) : Type 0 where
    headed : List Headed
    each : AllZip (IsHeadedSection C settings input) (enumerate_from n qs) headed
    all : All IsHeaded headed
    is : text ≡ lines_text (flat_map headed_lines headed)

  -- what stands behind all sections belongs to the last one
  are_headed : (all : List Asked) → length all ≢ 1 → (n : ℕ) (q : Asked) (qs : List Asked) (texts : List PartText) (more : List (List ℕ)) → AreFurther more → n + length (q ∷ qs) ≤ 64 →
      All (λ (a : Asked). IsLabelLine a.label) (q ∷ qs) → All (λ (t : PartText). C t.cut) texts → AllZip (IsOwnOf all) (enumerate_from n (q ∷ qs)) texts →
      AreHeaded n (q ∷ qs) (join texts ++ lines_text more)
  are_headed all several n q qs [] more further bound labels allowed are = absurd are
  are_headed all several n q [] (t ∷ u ∷ texts) more further bound labels allowed are = absurd are.1
  are_headed all several n q [] (t ∷ []) more further bound labels allowed are =
      let (s, headed, text) =
      headed_section (header_of all n q) (n, q) t more further (allowed 0 t (omega arith)) (several_headers all several n q) (omega (arith, bound)) (labels 0 q (omega arith)) are.0 in
      record {
        headed = s ∷ [];
        each = (headed, tt);
        all = All-cons IsHeaded s [] headed.headed (All-nil IsHeaded);
        is = ap (λ (l : List ℕ). l ++ lines_text more) (append-nil t.text) ∙ (text ∙ ap lines_text (sym (append-nil (headed_lines s))));
      }
  are_headed all several n q (r ∷ qs) (t ∷ texts) more further bound labels allowed are =
      let (s, headed, text) =
      headed_section (header_of all n q) (n, q) t [] nothing_further (allowed 0 t (omega arith)) (several_headers all several n q) (omega (arith, bound)) (labels 0 q (omega arith)) are.0 in
      let rest : AreHeaded (n + 1) (r ∷ qs) (join texts ++ lines_text more) =
      are_headed all several (n + 1) r qs texts more further (omega (arith, bound)) (λ k d l. labels (suc k) d (omega (arith, l))) (λ k d l. allowed (suc k) d (omega (arith, l))) are.1 in
      record {
        headed = s ∷ rest.headed;
        each = (headed, rest.each);
        all = All-cons IsHeaded s rest.headed headed.headed rest.all;
        is =
            append_assoc t.text (join texts) (lines_text more) ∙
            (ap₂ (λ (x y : List ℕ). x ++ y) (sym (append-nil t.text) ∙ text) rest.is ∙ sym (flat_map-append (λ (line : List ℕ). line) (headed_lines s) (flat_map headed_lines rest.headed)));
      }

  -- where there is a query
  some_headed : (all : List Asked) → length all ≢ 1 → (qs : List Asked) (number : ℕ) (asked : Asked) → slice_get qs number ≡ Some asked → (texts : List PartText) (more : List (List ℕ)) →
      AreFurther more → length qs ≤ 64 → All (λ (a : Asked). IsLabelLine a.label) qs → All (λ (t : PartText). C t.cut) texts → AllZip (IsOwnOf all) (enumerate_from 0 qs) texts →
      AreHeaded 0 qs (join texts ++ lines_text more)
  some_headed all several [] number asked at texts more further few labels allowed are = absurd cc
  some_headed all several (q ∷ qs) number asked at texts more further few labels allowed are = are_headed all several 0 q qs texts more further (omega (arith, few)) labels allowed are

  -- the text of a headed section, and what follows
  own_of : (asked : Asked) (text : List ℕ) (s : Headed) (q : ℕ × Asked) (later : List Headed) → q.1 ≡ asked → IsHeadedSection C settings input q s →
      text ≡ lines_text (s.lines ++ flat_map headed_lines later) → HasOwn C settings input asked text
  own_of asked text s q later same headed is =
      let after : List (List ℕ) = headed.further ++ flat_map headed_lines later in
      record {
        cut = headed.cut;
        allowed = headed.allowed;
        own = lines_text headed.own;
        is = subst (λ (a : Asked). IsSectionText (question a) headed.cut (lines_text headed.own)) same headed.section;
        after = lines_text after;
        begins =
            is ∙ (ap (λ (ls : List (List ℕ)). lines_text (ls ++ flat_map headed_lines later)) headed.lines ∙
            (ap lines_text (append_assoc headed.own headed.further (flat_map headed_lines later)) ∙ flat_map-append (λ (line : List ℕ). line) headed.own after));
        ends = no_answers after (both_apart headed.further (flat_map headed_lines later) headed.apart (headers_apart apart later));
      }

  some_same : (x y : Asked) → Some x ≡ Some y → x ≡ y
  some_same x y e = cc

  module _ (texts : List PartText) (allowed : All (λ (t : PartText). C t.cut) texts) (of_parts : AreTextsOf (parts_of settings input) texts) where
    -- the texts of the sections, and what stands behind them
    record AreLaidOut : Type 0 where
      front : List PartText
      may : All (λ (t : PartText). C t.cut) front
      own : AllZip (IsOwnOf input.queries) (enumerate_from 0 input.queries) front
      more : List (List ℕ)
      further : AreFurther more
      is : join texts ≡ join front ++ lines_text more

    laid_out_in : (mode : Mode) → AreTextsOf (parts_in mode input.queries input.rules (question_of settings input) input.names settings.budget) texts → AreLaidOut
    laid_out_in Plain h = record {
      front = texts;
      may = allowed;
      own = zip_mapped IsTextOf (IsOwnOf input.queries) (section_of input.queries (question_of settings input))
          (λ q t is. own_of_section (header_of input.queries q.0 q.1) (question q.1) t is) (enumerate_from 0 input.queries) texts h;
      more = [];
      further = nothing_further;
      is = sym (append-nil (join texts));
    }
    laid_out_in Within h =
        let (front, back, both, sections_are, rules_are) =
        zip_apart IsTextOf (map (compared_of input.queries (question_of settings input)) (enumerate_from 0 input.queries))
        (map (judged_of input.names input.rules settings.budget) (enumerate_from 0 input.rules)) texts h in
        let more : HasFurther (join back) =
        rules_further comparing sections input.names input.rules settings.budget 0 input.rules back of.readable of.budget of.rules rules_are in
        record {
          front = front;
          may = all_front (λ (t : PartText). C t.cut) front back (subst (All (λ (t : PartText). C t.cut)) both allowed);
          own = zip_mapped IsTextOf (IsOwnOf input.queries) (compared_of input.queries (question_of settings input))
              (λ q t is. own_of_compared comparing (header_of input.queries q.0 q.1) (question q.1) q.0 input.queries t of.readable is) (enumerate_from 0 input.queries) front sections_are;
          more = more.lines;
          further = more.further;
          is = ap join both ∙ (flat_map-append (λ (t : PartText). t.text) front back ∙ ap (λ (l : List ℕ). join front ++ l) more.is);
        }

    laid_out : AreLaidOut
    laid_out = laid_out_in settings.mode of_parts

    headed_all : (number : ℕ) (asked : Asked) → length input.queries ≢ 1 → slice_get input.queries number ≡ Some asked → AreHeaded 0 input.queries (join texts)
    headed_all number asked several at =
        subst (AreHeaded 0 input.queries) (sym laid_out.is)
        (some_headed input.queries several input.queries number asked at laid_out.front laid_out.more laid_out.further of.queries of.labels laid_out.may laid_out.own)

    behind_header : SectionsAreTold → (number : ℕ) (asked : Asked) (text : List ℕ) → AreHeaded 0 input.queries (join texts) → slice_get input.queries number ≡ Some asked →
        IsBehindHeader number asked (join texts) text → HasOwn C settings input asked text
    behind_header told number asked text h at b =
        let here : IsLabelLine asked.label = All-contains (λ (a : Asked). IsLabelLine a.label) input.queries asked of.labels (slice_get_contains input.queries number asked at) in
        let (place, s, found, same, label, rest) = told h.headed b.before number asked.label text h.all b.lines (small_number input.queries number asked of.queries at) here (sym h.is ∙ b.stands) in
        let (other, there, headed) = numbered_right (IsHeadedSection C settings input) 0 input.queries h.headed place s h.each found in
        let zero : 0 + place ≡ place = omega arith in
        let one : place ≡ number = sym zero ∙ (sym headed.number ∙ same) in
        let query : other ≡ asked = some_same other asked (sym there ∙ (ap (slice_get input.queries) one ∙ at)) in
        own_of asked text s (0 + place, other) (drop (place + 1) h.headed) query headed rest

    -- the one query's section is the whole text
    only_section : (number : ℕ) (asked one : Asked) → AllZip (IsOwnOf (one ∷ [])) ((0, one) ∷ []) laid_out.front → slice_get (one ∷ []) number ≡ Some asked → HasOwn C settings input asked (join texts)
    only_section number asked one h at = go number laid_out.front laid_out.may h at laid_out.is
      where
        go : (number : ℕ) (front : List PartText) → All (λ (t : PartText). C t.cut) front → AllZip (IsOwnOf (one ∷ [])) ((0, one) ∷ []) front → slice_get (one ∷ []) number ≡ Some asked →
            join texts ≡ join front ++ lines_text laid_out.more → HasOwn C settings input asked (join texts)
        go (suc number) front may h at is = absurd cc
        go zero [] may h at is = absurd h
        go zero (t ∷ u ∷ rest) may h at is = absurd h.1
        go zero (t ∷ []) may h at is =
            let same : one ≡ asked = cc in
            let o = h.0 in
            let after : List (List ℕ) = o.further ++ laid_out.more in
            record {
              cut = t.cut;
              allowed = may 0 t (omega arith);
              own = o.own;
              is = subst (λ (a : Asked). IsSectionText (question a) t.cut o.own) same o.section;
              after = lines_text after;
              begins =
                  is ∙ (ap (λ (l : List ℕ). l ++ lines_text laid_out.more) (append-nil t.text ∙ o.is) ∙
                  (append_assoc o.own (lines_text o.further) (lines_text laid_out.more) ∙
                  ap (λ (l : List ℕ). o.own ++ l) (sym (flat_map-append (λ (l : List ℕ). l) o.further laid_out.more))));
              ends = no_answers after (both_apart o.further laid_out.more o.are.apart laid_out.further.apart);
            }

    one_section : (number : ℕ) (asked one : Asked) → input.queries ≡ one ∷ [] → slice_get input.queries number ≡ Some asked → HasOwn C settings input asked (join texts)
    one_section number asked one e at =
        only_section number asked one (subst (λ (qs : List Asked). AllZip (IsOwnOf qs) (enumerate_from 0 qs) laid_out.front) e laid_out.own)
        (subst (λ (qs : List Asked). slice_get qs number ≡ Some asked) e at)

    -- wherever the section of a query stands, it begins so
    pub section_begins : SectionsAreTold → (number : ℕ) (asked : Asked) (text : List ℕ) → HasSection input number asked (join texts) text → HasOwn C settings input asked text
    section_begins told number asked text h = elim (one_or_several input.queries) [
      | inl one ↦ subst (λ (l : List ℕ). HasOwn C settings input asked l)
          (subst (λ (qs : List Asked). IsSectionOf qs number asked (join texts) text) one.1 h.stands) (one_section number asked one.0 one.1 h.query)
      | inr several ↦ behind_header told number asked text (headed_all number asked several h.query) h.query (section_behind input.queries number asked (join texts) text several h.stands)
    ]

    -- the section of a query of several
    section_there : HeaderIsLine → (number : ℕ) (asked : Asked) → AreHeaded 0 input.queries (join texts) → slice_get input.queries number ≡ Some asked →
        (text : List ℕ) × IsBehindHeader number asked (join texts) text × HasOwn C settings input asked text
    section_there line number asked h at =
        let (s, there, headed) = numbered_left (IsHeadedSection C settings input) 0 input.queries h.headed number asked h.each at in
        let before = flat_map headed_lines (take number h.headed) in
        let later = drop (suc number) h.headed in
        let text = lines_text (s.lines ++ flat_map headed_lines later) in
        let split : h.headed ≡ take number h.headed ++ s ∷ later =
        split_at h.headed number s (slice_get_within h.headed number s there)
        ∙ ap (λ (x : Headed). take number h.headed ++ x ∷ later) (get_or_from_slice_get h.headed number s s there) in
        let lines : flat_map headed_lines h.headed ≡ before ++ (headed_lines s ++ flat_map headed_lines later) =
        ap (flat_map headed_lines) split ∙ flat_map-append headed_lines (take number h.headed) (s ∷ later) in
        let zero : 0 + number ≡ number = omega arith in
        let header : section_line s.number s.label ≡ section_line number asked.label = ap₂ section_line (headed.number ∙ zero) headed.label in (
          text,
          record {
            before = before;
            lines = headed_are_lines line (take number h.headed) (All-take IsHeaded number h.headed h.all);
            stands =
                h.is ∙ (ap lines_text lines ∙ (flat_map-append (λ (l : List ℕ). l) before (headed_lines s ++ flat_map headed_lines later)
                ∙ ap (λ (x : List ℕ). lines_text before ++ (x ++ text)) header));
          },
          own_of asked text s (0 + number, asked) later refl headed refl,
        )

    -- and each query has a section
    pub has_section : HeaderIsLine → (number : ℕ) (asked : Asked) → slice_get input.queries number ≡ Some asked →
        (text : List ℕ) × HasSection input number asked (join texts) text × HasOwn C settings input asked text
    has_section line number asked at = elim (one_or_several input.queries) [
      | inl one ↦ (join texts, record { query = at; stands = subst (λ (qs : List Asked). IsSectionOf qs number asked (join texts) (join texts)) (sym one.1) refl }, one_section number asked one.0 one.1 at)
      | inr several ↦
          let (text, behind, own) = section_there line number asked (headed_all number asked several at) at in
          (text, record { query = at; stands = behind_section input.queries number asked (join texts) text several behind }, own)
    ]
