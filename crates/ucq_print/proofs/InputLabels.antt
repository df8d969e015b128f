-- No label of what files stand for has a line feed.
use Rattle.std.proofs.Common.{◌≡◌, ℕ, List, [], ◌∷◌, ◌++◌, All, Contains, refl, sym, ap, subst, arith}
use Rattle.std.specs.Prelude.{Option, Some, None, Result, Ok, Err}
use Rattle.std.specs.List.{filter_map}
use Rattle.ucq_terms.proofs.Lists.{Contains-first}
use Rattle.ucq_lexer.specs.Bytes.{is_label_byte}
use Rattle.ucq_lexer.specs.Spelling.{IsLabel}
use Rattle.ucq_reader.specs.declared.ReadFault.{ReadFault}
use Rattle.ucq_reader.specs.declared.input.Asked.{Asked}
use Rattle.ucq_reader.specs.Names.{Declared}
use Rattle.ucq_reader.specs.Statement.{label, dot, Statement, a_query, a_sentence, sentence_words}
use Rattle.ucq_reader.specs.Meaning.{Meant, SymbolAsked, Placed, asked_of, files_fault, meant, placed, with_queries}
use Rattle.ucq_reader.specs.Input.{InputValue, IsAskedOf, IsInput}
use Rattle.ucq_print.specs.Laws.{IsLabelLine}
use Rattle.ucq_print.proofs.HeldNames.{All-from_zip}
use Rattle.ucq_print.proofs.InputNames.{IsGoodPlaced, files_good, from_filter_map, unless_ok}
use Rattle.ucq_print.proofs.LineFeeds.{IsSingle, single_both, single_first, single_nothing, single_run}

label_single : (bytes : List ℕ) → IsLabel bytes → IsSingle bytes
label_single bytes (inner, enough, run, is) =
    subst IsSingle (sym is)
    (single_first 91 (inner ++ 93 ∷ []) (λ e. omega (arith, e)) (single_both inner (93 ∷ []) (single_run is_label_byte inner refl run) (single_first 93 [] (λ e. omega (arith, e)) single_nothing)))

label_of_placed : (file number : ℕ) (starts : List ℕ) (ds : Declared) (s : Statement) (q : SymbolAsked) →
    IsGoodPlaced (record { file = file; number = number; starts = starts; before = ds; statement = s }) →
    asked_of (record { file = file; number = number; starts = starts; before = ds; statement = s }) ≡ Some q → IsLabelLine q.label
label_of_placed file number starts ds (a_sentence l (a_query answers body)) q good e = subst IsLabelLine (label_is q e) (is_line l good)
  where
    label_is : (q : SymbolAsked) → asked_of (record { file = file; number = number; starts = starts; before = ds; statement = a_sentence l (a_query answers body) }) ≡ Some q → l ≡ q.label
    label_is q e = cc

    is_line : (l : Option (List ℕ)) → IsGoodPlaced (record { file = file; number = number; starts = starts; before = ds; statement = a_sentence l (a_query answers body) }) → IsLabelLine l
    is_line None good = tt
    is_line (Some bytes) good = (label_single bytes (good.words (label bytes) (Contains-first (label bytes) (sentence_words (a_query answers body) ++ dot ∷ [])))).free
label_of_placed file number starts ds _ q good e = absurd cc

meant_queries : (all : List Placed) (qs : List SymbolAsked) (m : Meant) → with_queries all qs ≡ Ok m → m.queries ≡ qs
meant_queries all [] m e = absurd cc
meant_queries all (q ∷ more) m e = sym (ap queries_or_none e)
  where
    queries_or_none : Result Meant ReadFault → List SymbolAsked
    queries_or_none (Ok m) = m.queries
    queries_or_none (Err fault) = []

pub input_labels : (files : List (List ℕ)) (input : InputValue) → IsInput files input → All (λ (asked : Asked). IsLabelLine asked.label) input.queries
input_labels files input (m, (reads, are, outcome), numbered) =
    let whole = unless_ok (files_fault 0 reads) (meant (placed 0 reads)) m (sym outcome) in
    let counted = unless_ok _ _ m whole.1 in
    let queries : m.queries ≡ filter_map asked_of (placed 0 reads) = meant_queries (placed 0 reads) _ m counted.1 in
    All-from_zip (IsAskedOf input.names) (λ (asked : Asked). IsLabelLine asked.label) m.queries input.queries numbered.queries (λ q asked i of.
    let (p, k, e) = from_filter_map asked_of (placed 0 reads) q (subst (λ (qs : List SymbolAsked). Contains qs q) queries i) in
    subst IsLabelLine (sym of.label) (label_of_placed p.file p.number p.starts p.before p.statement q (files_good 0 files reads are whole.0 p k) e))
