-- A text of sections tells its sections.
use Rattle.std.proofs.Common.{◌≡◌, ℕ, zero, suc, ◌+◌, ◌<◌, ◌^◌, List, [], ◌∷◌, ◌++◌, drop, All, add-one, refl, sym, ap, ◌∙◌, subst, append_assoc, arith}
use Rattle.std.specs.Prelude.{Option, Some, slice_get}
use Rattle.std.specs.List.{flat_map}
use Rattle.std.proofs.lemmas.List.{append-nil}
use Rattle.std.proofs.lemmas.List.Concat.{flat_map-append}
use Rattle.std.proofs.lemmas.List.Elements.{All-append, All-cons, All-nil}
use Rattle.ucq_print.specs.Texts.{lines_text, section_line}
use Rattle.ucq_print.specs.Laws.{IsLine, BeginsASection, IsLabelLine, Headed, headed_lines, IsHeaded}
use Rattle.ucq_print.proofs.ToldLines.{lines_begin}
use Rattle.ucq_print.proofs.Headers.{header_begins, header_is_line, header_tells}

-- the parts of equal lists of lines
first_line : {l m : List ℕ} {ls ms : List (List ℕ)} → l ∷ ls ≡ m ∷ ms → l ≡ m
first_line e = cc

later_lines : {l m : List ℕ} {ls ms : List (List ℕ)} → l ∷ ls ≡ m ∷ ms → ls ≡ ms
later_lines e = cc

-- the lines of a section are lines, and so are those of sections
section_is_lines : (s : Headed) → IsHeaded s → All IsLine (headed_lines s)
section_is_lines s h = All-cons IsLine (section_line s.number s.label) s.lines (header_is_line s.number s.label h.small h.label) h.lines.lines

sections_are_lines : (sections : List Headed) → All IsHeaded sections → All IsLine (flat_map headed_lines sections)
sections_are_lines [] h = All-nil IsLine
sections_are_lines (s ∷ ss) h =
    All-append IsLine (headed_lines s) (flat_map headed_lines ss) (section_is_lines s (h zero s (omega arith))) (sections_are_lines ss (λ i d b. h (suc i) d (omega (arith, b))))

-- a header behind lines that begin as none does stands behind all of them
pub record StandsBehind (header : List ℕ) (more rest : List (List ℕ)) : Type 0 where
  pub before : List (List ℕ)
  pub is : rest ≡ before ++ header ∷ more

header_behind : (lines before : List (List ℕ)) (header : List ℕ) (more rest : List (List ℕ)) → All (λ line. ¬ BeginsASection line) lines → BeginsASection header →
    lines ++ rest ≡ before ++ header ∷ more → StandsBehind header more rest
header_behind [] before header more rest none begins e = record { before = before; is = e }
header_behind (l ∷ ls) [] header more rest none begins e =
    absurd (none zero l (omega arith) (subst BeginsASection (sym (first_line e)) begins))
header_behind (l ∷ ls) (b ∷ bs) header more rest none begins e =
    header_behind ls bs header more rest (λ i d c. none (suc i) d (omega (arith, c))) begins (later_lines e)

-- the section whose header it is
pub record IsHeaderAmong (sections : List Headed) (header : List ℕ) (more : List (List ℕ)) : Type 0 where
  pub place : ℕ
  pub section : Headed
  pub at : slice_get sections place ≡ Some section
  pub headed : IsHeaded section
  pub is : section_line section.number section.label ≡ header
  pub behind : more ≡ section.lines ++ flat_map headed_lines (drop (suc place) sections)

header_among : (sections : List Headed) (before : List (List ℕ)) (header : List ℕ) (more : List (List ℕ)) → All IsHeaded sections → BeginsASection header →
    flat_map headed_lines sections ≡ before ++ header ∷ more → IsHeaderAmong sections header more
header_among [] [] header more h begins e = absurd cc
header_among [] (b ∷ bs) header more h begins e = absurd cc
header_among (s ∷ ss) [] header more h begins e =
    record { place = zero; section = s; at = refl; headed = h zero s (omega arith); is = first_line e; behind = sym (later_lines e) }
header_among (s ∷ ss) (b ∷ bs) header more h begins e =
    let own : IsHeaded s = h zero s (omega arith) in
    let behind = header_behind s.lines bs header more (flat_map headed_lines ss) own.lines.none begins (later_lines e) in
    let found = header_among ss behind.before header more (λ i d c. h (suc i) d (omega (arith, c))) begins behind.is in
    record { place = suc found.place; section = found.section; at = found.at; headed = found.headed; is = found.is; behind = found.behind }

pub sections_told : (sections : List Headed) (before : List (List ℕ)) (number : ℕ) (label : Option (List ℕ)) (rest : List ℕ) →
    All IsHeaded sections → All IsLine before → number < 2 ^ 64 → IsLabelLine label →
    lines_text (flat_map headed_lines sections) ≡ lines_text before ++ (section_line number label ++ rest) →
    (place : ℕ) × (s : Headed) × (slice_get sections place ≡ Some s) × (s.number ≡ number) × (s.label ≡ label)
    × (rest ≡ lines_text (s.lines ++ flat_map headed_lines (drop (place + 1) sections)))
sections_told sections before number label rest h k small single e =
    let header : List ℕ = section_line number label in
    let one : All IsLine (header ∷ []) = All-cons IsLine header [] (header_is_line number label small single) (All-nil IsLine) in
    let lines : All IsLine (before ++ header ∷ []) = All-append IsLine before (header ∷ []) k one in
    let goes = lines_begin (before ++ header ∷ []) (flat_map headed_lines sections) rest lines (sections_are_lines sections h) (begins header ∙ sym e) in
    let found = header_among sections before header goes.more h (header_begins number label) (goes.lines ∙ append_assoc before (header ∷ []) goes.more) in
    let told = header_tells found.section.number number found.section.label label found.headed.small small found.is in
    let follows : rest ≡ lines_text (found.section.lines ++ flat_map headed_lines (drop (found.place + 1) sections)) =
    goes.rests ∙ (append-nil (lines_text goes.more) ∙ (ap lines_text found.behind ∙
    ap (λ n. lines_text (found.section.lines ++ flat_map headed_lines (drop n sections))) (sym (add-one found.place)))) in
    (found.place, found.section, found.at, told.0, told.1, follows)
  where
    begins : (header : List ℕ) → lines_text (before ++ header ∷ []) ++ rest ≡ lines_text before ++ (header ++ rest)
    begins header =
        ap (λ l. l ++ rest) (flat_map-append (λ (l : List ℕ). l) before (header ∷ []) ∙ ap (λ l. lines_text before ++ l) (append-nil header)) ∙
        append_assoc (lines_text before) header rest
