-- Finished sections of runs over the same files print one union, up to renaming.
use Rattle.std.proofs.Common.{◌≡◌, ◌∙◌, ◌⊎◌, ℕ, List, [], ◌∷◌, ◌++◌, length, map, All, Bool, true, false, inl, inr, refl, sym, ap, subst, append_assoc, arith}
use Rattle.std.specs.Prelude.{Option, Some, IfSome}
use Rattle.std.specs.List.{AllZip, enumerate_from}
use Rattle.std.proofs.lemmas.List.Elements.{length_all_zip}
use Rattle.std.proofs.lemmas.List.{append_cancel_left, append-nil}
use Rattle.ucq_terms.specs.Syntax.{HasEachOnce, Query}
use Rattle.ucq_terms.specs.Union.{IsExact}
use Rattle.ucq_chase.proofs.Kept.{numbering_keeps_exact}
use Rattle.ucq_chase.proofs.Unions.{exact_is_unique}
use Rattle.ucq_reader.specs.declared.input.Asked.{Asked}
use Rattle.ucq_reader.specs.Meaning.{SymbolAsked}
use Rattle.ucq_reader.specs.Input.{InputValue, IsAskedOf, IsInput, HasNumbersOf}
use Rattle.ucq_reader.specs.Made.{made}
use Rattle.ucq_print.specs.Laws.{AreReadableNames, ArePrintable, ArePrintableTuples, ComparingLinesStandApart, HeaderIsLine, HeadersAreNoAnswers, SectionsAreTold, TextsAreSections, TextsDiffer}
use Rattle.ucq_print.specs.Texts.{lines_text, answer_lines, answered_text, atom_count, finished_text, summary_text}
use Rattle.ucq_print.proofs.InputNames.{input_names}
use Rattle.ucq_print.proofs.Unions.{answered_apart, answered_shape, beginning_apart}
use Rattle.ucq_words.specs.declared.values.Mode.{Mode}
use Rattle.ucq_words.specs.declared.values.Mode.TheVariants.{Plain}
use Rattle.ucq_words.specs.Settings.{JobValue, files, make, SettingsValue, OneSettings}
use Rattle.ucq_run.specs.declared.outcome.Outcome.{Outcome}
use Rattle.ucq_run.specs.declared.outcome.Outcome.TheVariants.{Finished, Cut, NoMemory, BadWords, ReadFault, TooLong, Refused, WriteFault}
use Rattle.ucq_run.specs.Outcomes.{status_of}
use Rattle.ucq_run.specs.Inputs.{Call, IsAsked, IsInputOf, job_form, problem_of}
use Rattle.ucq_run.specs.Cuts.{IsCutText}
use Rattle.ucq_run.specs.Finished.{AreChaseAnswers, Question, question_of, IsPrintedIn, IsFinishedText}
use Rattle.ucq_outside.specs.Taken.{SinkChange, TookAll}
use Rattle.ucq_run.specs.Parts.{section, section_of, PartText, AreTextsOf, IsSectionText, join, NoneIsCut, parts_in, parts_of}
use Rattle.ucq_run.specs.Printed.{Prints}
use Rattle.ucq_run.specs.Run.{HoldsFiles}
use Rattle.ucq_run.specs.Laws.{AskForMade, BeginsWithAnswers, BeginsWithUnion, FinishedRunPrintsUnions, FinishedSectionsAgree, HasSection, IsFinishedRun, IsRunTaking, IsSectionOf, MadeRunsAgree, PrintedAnswersAreExact, PrintedUnionIsExact}
use Rattle.ucq_run.proofs.Asking.{budget_within, made_is_plain}
use Rattle.ucq_run.proofs.InputLimits.{few_queries, few_rules}
use Rattle.ucq_print.proofs.InputLabels.{input_labels}
use Rattle.ucq_run.proofs.OneProblem.{AreSameAsked, AreSameInput, answers_of_files, exact_of_asked, same_at, same_input, same_of_files}
use Rattle.ucq_run.proofs.OneSize.{one_size, one_atom_count}
use Rattle.ucq_run.proofs.FurtherLines.{BeginsNoAnswers}
use Rattle.ucq_run.proofs.SectionsTold.{HasOwn, IsOfFiles, has_section, section_begins, section_moves}
use Rattle.ucq_run.proofs.Unknowns.{answers_move, one_answers}
use Rattle.ucq_run.proofs.Decided.{asked_told}

-- the output took one text
one_text : (out : SinkChange) (before text taken : List ℕ) → out.taken_before ≡ Some before → out.taken_after ≡ Some (before ++ text) → TookAll out taken → taken ≡ text
one_text out before text taken e f took =
    let (first, g, h) = subst (λ (now : Option (List ℕ)). IfSome now (λ now. (first : List ℕ) × (out.taken_before ≡ Some first) × (now ≡ first ++ taken))) f took in
    let same : first ≡ before = some_same first before (sym g ∙ e) in
    append_cancel_left before taken text (ap (λ (l : List ℕ). l ++ taken) (sym same) ∙ sym h)
  where
    some_same : (a b : List ℕ) → Some a ≡ Some b → a ≡ b
    some_same a b e = cc

-- ---- what a run took

-- what was asked, and the texts of its parts, which were taken
record WasTaken (call : Call) (status : ℕ) (text : List ℕ) : Type 0 where
  settings : SettingsValue
  input : InputValue
  asked : IsAsked call settings input
  texts : List PartText
  are : AreTextsOf (parts_of settings input) texts
  has : status ≡ 0 → NoneIsCut texts
  is : join texts ≡ text

-- a status that is neither
neither : (status n : ℕ) → status ≡ n → (status ≡ 0) ⊎ (status ≡ 5) → (n ≡ 0 → ⊥) → (n ≡ 5 → ⊥) → ⊥
neither status n e (inl zero) other five = other (sym e ∙ zero)
neither status n e (inr five) other fifth = fifth (sym e ∙ five)

-- statuses 0 and 5 are those of finished and cut runs alone
module _ (call : Call) (out : SinkChange) (before text : List ℕ) (told_before : out.taken_before ≡ Some before) (told_after : out.taken_after ≡ Some (before ++ text)) where
  taken_so : (o : Outcome) (status : ℕ) → status ≡ status_of o → (status ≡ 0) ⊎ (status ≡ 5) → Prints call out o → WasTaken call status text
  taken_so Finished status e ended (inl p) = record {
    settings = p.settings;
    input = p.input;
    asked = p.asked;
    texts = p.prints.texts;
    are = p.prints.are;
    has = λ zero. p.prints.has;
    is = one_text out before text (join p.prints.texts) told_before told_after p.prints.took;
  }
  taken_so Cut status e ended (inl p) = record {
    settings = p.settings;
    input = p.input;
    asked = p.asked;
    texts = p.prints.texts;
    are = p.prints.are;
    has = λ zero. absurd (omega (arith, e, zero));
    is = one_text out before text (join p.prints.texts) told_before told_after p.prints.took;
  }
  taken_so Finished status e ended (inr p) = absurd p.0
  taken_so Cut status e ended (inr p) = absurd p.0
  taken_so NoMemory status e ended p = absurd (neither status 1 e ended (λ f. omega (arith, f)) (λ f. omega (arith, f)))
  taken_so BadWords status e ended p = absurd (neither status 2 e ended (λ f. omega (arith, f)) (λ f. omega (arith, f)))
  taken_so (ReadFault file at) status e ended p = absurd (neither status 3 e ended (λ f. omega (arith, f)) (λ f. omega (arith, f)))
  taken_so (TooLong file) status e ended p = absurd (neither status 4 e ended (λ f. omega (arith, f)) (λ f. omega (arith, f)))
  taken_so (Refused fault) status e ended p = absurd (neither status 4 e ended (λ f. omega (arith, f)) (λ f. omega (arith, f)))
  taken_so WriteFault status e ended p = absurd (neither status 6 e ended (λ f. omega (arith, f)) (λ f. omega (arith, f)))

was_taken : (call : Call) (status : ℕ) (text : List ℕ) → (status ≡ 0) ⊎ (status ≡ 5) → IsRunTaking call status text → WasTaken call status text
was_taken call status text ended r = taken_so call r.out r.before text r.told_before r.told_after r.run.outcome status r.run.status ended r.run.prints

-- the job that is asked is that of the files that are told
job_named : OneSettings → (call : Call) (settings : SettingsValue) (input : InputValue) (texts : List (List ℕ)) → IsAsked call settings input → (told : HoldsFiles call texts) →
    settings.job ≡ files told.names
job_named one call settings input texts asked told =
    ap (λ (s : SettingsValue). s.job) (one call.words settings told.named.settings asked.stand told.named.stand) ∙ told.named.job

-- ---- what a section tells

-- what is printed of a finished union of files begins with the finished text
begins_so : (answers : Bool) (job : JobValue) (names : List (List ℕ)) (q : Question) (union : List Query) (text : List ℕ) → job ≡ files names → AreReadableNames q.names →
    IsPrintedIn (job_form answers job) q union text → (rest : List ℕ) × (text ≡ finished_text q.names union ++ rest)
begins_so answers (make number) names q union text e readable printed = absurd cc
begins_so true (files given) names q union text e readable (tuples, are, held, is) = (lines_text (answer_lines q.names tuples), is ∙ answered_shape q.names readable union tuples)
begins_so false (files given) names q union text e readable is = ([], is ∙ sym (append-nil (finished_text q.names union)))

abbrev no_query : Query
no_query = record { answers = []; atoms = [] }

-- no text begins as a cut one and as a finished one
no_cut : TextsDiffer → (q : Question) (own after rest : List ℕ) (union : List Query) → IsCutText q.names q.problem q.budget own → own ++ after ≡ finished_text q.names union ++ rest → ⊥
no_cut differ q own after rest union (inl c) e = (differ q.names union q.budget 0 0 c.rows [] c.left rest after).0 (sym e ∙ ap (λ (l : List ℕ). l ++ after) c.printed)
no_cut differ q own after rest union (inr c) e = (differ q.names union 0 c.row c.rule c.rows [] no_query rest after).1 (sym e ∙ ap (λ (l : List ℕ). l ++ after) c.printed)

module _ (differ : TextsDiffer) (C : Bool → Type 0) (settings : SettingsValue) (input : InputValue) (of : IsOfFiles settings input) (asked : Asked) (text : List ℕ) where
  abbrev question : Question
  question = question_of settings input asked.query

  union_so : (cut : Bool) (own after : List ℕ) → IsSectionText question cut own → text ≡ own ++ after → (union : List Query) → BeginsWithUnion input.names text union → IsExact question.problem union
  union_so true own after is e union b = absurd (no_cut differ question own after b.rest union is.cut (sym e ∙ b.begins))
  union_so false own after is e union b =
      let (more, begins) = begins_so settings.answers settings.job of.given question is.union own of.job of.readable is.printed in
      let whole : finished_text input.names is.union ++ (more ++ after) ≡ finished_text input.names union ++ b.rest =
      sym (append_assoc (finished_text input.names is.union) more after) ∙ (ap (λ (l : List ℕ). l ++ after) (sym begins) ∙ (sym e ∙ b.begins)) in
      let tells = beginning_apart input.names of.readable is.union union (more ++ after) b.rest is.printable b.printable whole in
      numbering_keeps_exact question.problem is.union union tells.front is.exact

  -- a union with whose finished text the piece begins is exact
  pub own_union : HasOwn C settings input asked text → (union : List Query) → BeginsWithUnion input.names text union → IsExact question.problem union
  own_union h union b = union_so h.cut h.own h.after h.is h.begins union b

  answers_in : (answers : Bool) (job : JobValue) (union other : List Query) (tuples : List (List ℕ)) (own after rest : List ℕ) → job ≡ files of.given →
      ArePrintable input.names union → ArePrintable input.names other → ArePrintableTuples input.names tuples → IsPrintedIn (job_form answers job) question union own → BeginsNoAnswers after →
      own ++ after ≡ answered_text input.names other tuples ++ rest → AreChaseAnswers input.names question.problem input.facts tuples
  answers_in answers (make number) union other tuples own after rest e h k i printed ends same = absurd cc
  answers_in true (files given) union other tuples own after rest e h k i (found, are, held, is) ends same =
      let tells = answered_apart input.names of.readable union other found tuples after rest h k held i (ap (λ (l : List ℕ). l ++ after) (sym is) ∙ same) in
      subst (AreChaseAnswers input.names question.problem input.facts) tells.1 are
  answers_in false (files given) union other tuples own after rest e h k i is ends same =
      let shape : answered_text input.names other tuples ++ rest ≡ finished_text input.names other ++ (lines_text (answer_lines input.names tuples) ++ rest) =
      ap (λ (l : List ℕ). l ++ rest) (answered_shape input.names of.readable other tuples) ∙ append_assoc (finished_text input.names other) (lines_text (answer_lines input.names tuples)) rest in
      let begins = beginning_apart input.names of.readable union other after (lines_text (answer_lines input.names tuples) ++ rest) h k
      (ap (λ (l : List ℕ). l ++ after) (sym is) ∙ (same ∙ shape)) in
      absurd (ends input.names tuples rest begins.rest)

  answers_so : (cut : Bool) (own after : List ℕ) → IsSectionText question cut own → BeginsNoAnswers after → text ≡ own ++ after → (union : List Query) (tuples : List (List ℕ)) →
      BeginsWithAnswers input.names text union tuples → BeginsWithUnion input.names text union → AreChaseAnswers input.names question.problem input.facts tuples
  answers_so true own after is ends e union tuples b u = absurd (no_cut differ question own after u.rest union is.cut (sym e ∙ u.begins))
  answers_so false own after is ends e union tuples b u =
      answers_in settings.answers settings.job is.union union tuples own after b.rest of.job is.printable b.printable b.printable_tuples is.printed ends (sym e ∙ b.begins)

  -- a text with answers begins with the union
  pub union_before : (union : List Query) (tuples : List (List ℕ)) → BeginsWithAnswers input.names text union tuples → BeginsWithUnion input.names text union
  union_before union tuples b = record {
    printable = b.printable;
    rest = lines_text (answer_lines input.names tuples) ++ b.rest;
    begins =
        b.begins ∙ (ap (λ (l : List ℕ). l ++ b.rest) (answered_shape input.names of.readable union tuples)
        ∙ append_assoc (finished_text input.names union) (lines_text (answer_lines input.names tuples)) b.rest);
  }

  -- and the answers with which it begins are those of the chase
  pub own_answers : HasOwn C settings input asked text → (union : List Query) (tuples : List (List ℕ)) → BeginsWithAnswers input.names text union tuples →
      AreChaseAnswers input.names question.problem input.facts tuples
  own_answers h union tuples b = answers_so h.cut h.own h.after h.is h.ends h.begins union tuples b (union_before union tuples b)

-- ---- the laws

-- what was asked of the files that are told
record HasRead (call : Call) (status : ℕ) (text : List ℕ) (texts : List (List ℕ)) : Type 0 where
  taken : WasTaken call status text
  is : IsInput texts taken.input
  of : IsOfFiles taken.settings taken.input

module _ (one : OneSettings) where
  has_read : (call : Call) (status : ℕ) (text : List ℕ) (texts : List (List ℕ)) → (status ≡ 0) ⊎ (status ≡ 5) → HoldsFiles call texts →
      IsRunTaking call status text → HasRead call status text texts
  has_read call status text texts ended told run =
      let t : WasTaken call status text = was_taken call status text ended run in
      let is : IsInput texts t.input = (asked_told one call t.settings t.input texts t.asked told).1 in
      record {
        taken = t;
        is = is;
        of = record {
          given = told.names;
          job = job_named one call t.settings t.input texts t.asked told;
          readable = input_names texts t.input is;
          budget = (budget_within call.words t.settings t.asked.stand).high;
          rules = few_rules texts t.input is;
          queries = few_queries texts t.input is;
          labels = input_labels texts t.input is;
        };
      }

abbrev any_cut : Bool → Type 0
any_cut cut = Unit {0}

abbrev not_cut : Bool → Type 0
not_cut cut = cut ≡ false

turned : {x y : Asked} → AreSameAsked x y → AreSameAsked y x
turned same = record { label = sym same.label; query = record { forth = same.query.back; back = same.query.forth } }

same_length : (xs ys : List Asked) → AllZip AreSameAsked xs ys → length xs ≡ length ys
same_length xs ys h = length_all_zip AreSameAsked xs ys h

-- the section of a query, in the input that was asked
record HasText (call : Call) (status : ℕ) (text : List ℕ) (texts : List (List ℕ)) (input : InputValue) (asked : Asked) (piece : List ℕ) : Type 0 where
  read : HasRead call status text texts
  same : AreSameInput read.taken.input input
  other : Asked
  asks : AreSameAsked other asked
  own : HasOwn any_cut read.taken.settings read.taken.input other piece

module _ (one : OneSettings) (told : SectionsAreTold) (sections : TextsAreSections) (apart : HeadersAreNoAnswers) (comparing : ComparingLinesStandApart) where
  has_text : (call : Call) (status : ℕ) (text : List ℕ) (texts : List (List ℕ)) (input : InputValue) (number : ℕ) (asked : Asked) (piece : List ℕ) → (status ≡ 0) ⊎ (status ≡ 5) →
      HoldsFiles call texts → IsInput texts input → IsRunTaking call status text → HasSection input number asked text piece → HasText call status text texts input asked piece
  has_text call status text texts input number asked piece ended held is run h =
      let r : HasRead call status text texts = has_read one call status text texts ended held run in
      let back : AreSameInput input r.taken.input = same_of_files texts input r.taken.input is r.is in
      let (other, at, asks) = same_at input.queries r.taken.input.queries number asked back.queries h.query in
      let stands : HasSection r.taken.input number other (join r.taken.texts) piece = record {
        query = at;
        stands = subst (λ (l : List ℕ). IsSectionOf r.taken.input.queries number other l piece) (sym r.taken.is)
            (section_moves input.queries r.taken.input.queries number asked other text piece (same_length input.queries r.taken.input.queries back.queries) asks.label h.stands);
      } in
      record {
        read = r;
        same = same_of_files texts r.taken.input input r.is is;
        other = other;
        asks = turned asks;
        own = section_begins sections apart comparing any_cut r.taken.settings r.taken.input r.of r.taken.texts (λ k d l. tt) r.taken.are told number other piece stands;
      }

  pub printed_union_is_exact : TextsDiffer → PrintedUnionIsExact
  printed_union_is_exact differ call texts input text piece number asked union held is (status, ended, run) h begins =
      let t : HasText call status text texts input asked piece = has_text call status text texts input number asked piece ended held is run h in
      let there : BeginsWithUnion t.read.taken.input.names piece union = subst (λ (names : List (List ℕ)). BeginsWithUnion names piece union) (sym t.same.names) begins in
      exact_of_asked t.read.taken.input input t.other asked union t.same.rules t.asks
      (own_union differ any_cut t.read.taken.settings t.read.taken.input t.read.of t.other piece t.own union there)

  pub finished_sections_agree : TextsDiffer → FinishedSectionsAgree
  finished_sections_agree differ call other texts input text text_other piece section_other number asked xs ys held held_other is run run_other h h_other begins begins_other =
      exact_is_unique (problem_of input asked.query) xs ys
      (printed_union_is_exact differ call texts input text piece number asked xs held is run h begins)
      (printed_union_is_exact differ other texts input text_other section_other number asked ys held_other is run_other h_other begins_other)

  pub printed_answers_are_exact : TextsDiffer → PrintedAnswersAreExact
  printed_answers_are_exact differ call texts input text piece number asked union tuples held is (status, ended, run) h begins =
      let t : HasText call status text texts input asked piece = has_text call status text texts input number asked piece ended held is run h in
      let a : InputValue = t.read.taken.input in
      let there : BeginsWithAnswers a.names piece union tuples = subst (λ (names : List (List ℕ)). BeginsWithAnswers names piece union tuples) (sym t.same.names) begins in
      let unions : BeginsWithUnion a.names piece union = union_before differ any_cut t.read.taken.settings a t.read.of t.other piece union tuples there in
      let exact : IsExact (problem_of a t.other.query) union = own_union differ any_cut t.read.taken.settings a t.read.of t.other piece t.own union unions in
      let exact_here : IsExact (problem_of input asked.query) union = exact_of_asked a input t.other asked union t.same.rules t.asks exact in
      let answers : AreChaseAnswers a.names (problem_of a t.other.query) a.facts tuples =
      own_answers differ any_cut t.read.taken.settings a t.read.of t.other piece t.own union tuples there in
      (exact_here, answers_of_files texts a input (problem_of a t.other.query) (problem_of input asked.query) union tuples t.read.is is exact exact_here answers)

  -- the union of a piece that isn't cut
  finished_union : (settings : SettingsValue) (input : InputValue) (of : IsOfFiles settings input) (asked : Asked) (piece : List ℕ) → HasOwn not_cut settings input asked piece →
      (union : List Query) × BeginsWithUnion input.names piece union × IsExact (problem_of input asked.query) union
  finished_union settings input of asked piece h =
      let is : IsFinishedText (question_of settings input asked.query) h.own = subst (λ (b : Bool). IsSectionText (question_of settings input asked.query) b h.own) h.allowed h.is in
      let (more, begins) = begins_so settings.answers settings.job of.given (question_of settings input asked.query) is.union h.own of.job of.readable is.printed in (
        is.union,
        record {
          printable = is.printable;
          rest = more ++ h.after;
          begins = h.begins ∙ (ap (λ (l : List ℕ). l ++ h.after) begins ∙ append_assoc (finished_text input.names is.union) more h.after);
        },
        is.exact,
      )

  pub finished_run_prints_unions : HeaderIsLine → FinishedRunPrintsUnions
  finished_run_prints_unions line call texts input text number asked held is run at =
      let r : HasRead call 0 text texts = has_read one call 0 text texts (inl refl) held run in
      let same : AreSameInput r.taken.input input = same_of_files texts r.taken.input input r.is is in
      let (other, there, asks) = same_at input.queries r.taken.input.queries number asked (same_of_files texts input r.taken.input is r.is).queries at in
      let (piece, stands, own) = has_section sections apart comparing not_cut r.taken.settings r.taken.input r.of r.taken.texts (r.taken.has refl) r.taken.are line number other there in
      let (union, begins, exact) = finished_union r.taken.settings r.taken.input r.of other piece own in (
        piece,
        union,
        record {
          query = at;
          stands = section_moves r.taken.input.queries input.queries number other asked text piece (same_length r.taken.input.queries input.queries same.queries) (sym asks.label)
              (subst (λ (l : List ℕ). IsSectionOf r.taken.input.queries number other l piece) r.taken.is stands.stands);
        },
        subst (λ (names : List (List ℕ)). BeginsWithUnion names piece union) same.names begins,
        exact_of_asked r.taken.input input other asked union same.rules (turned asks) exact,
      )

-- ---- made inputs

-- one query is asked of what is made
made_query : (number : ℕ) (input : InputValue) → HasNumbersOf (made number) input → (asked : Asked) × (input.queries ≡ asked ∷ [])
made_query number input h = go (made number).queries input.queries refl h.queries
  where
    go : (ms : List SymbolAsked) (qs : List Asked) → length ms ≡ 1 → AllZip (IsAskedOf input.names) ms qs → (asked : Asked) × (qs ≡ asked ∷ [])
    go [] qs e zip = absurd (omega (arith, e))
    go (m ∷ n ∷ ms) qs e zip = absurd (omega (arith, e))
    go (m ∷ []) [] e zip = absurd zip
    go (m ∷ []) (q ∷ []) e zip = (q, refl)
    go (m ∷ []) (q ∷ r ∷ qs) e zip = absurd zip.1

-- the one finished section
only_finished : (settings : SettingsValue) (input : InputValue) (asked : Asked) (texts : List PartText) → settings.mode ≡ Plain → input.queries ≡ asked ∷ [] → AreTextsOf (parts_of settings input) texts → NoneIsCut texts →
    IsFinishedText (question_of settings input asked.query) (join texts)
only_finished settings input asked texts plain e are none =
    let sections : AreTextsOf (map (section_of input.queries (question_of settings input)) (enumerate_from 0 input.queries)) texts =
    subst (λ (mode : Mode). AreTextsOf (parts_in mode input.queries input.rules (question_of settings input) input.names settings.budget) texts) plain are in
    go texts (subst (λ (qs : List Asked). AreTextsOf (map (section_of qs (question_of settings input)) (enumerate_from 0 qs)) texts) e sections) none
  where
    go : (texts : List PartText) → AreTextsOf (section [] (question_of settings input asked.query) ∷ []) texts → NoneIsCut texts → IsFinishedText (question_of settings input asked.query) (join texts)
    go [] h none = absurd h
    go (t ∷ u ∷ rest) h none = absurd h.1
    go (t ∷ []) h none =
        let (text, is, joined) = h.0 in
        let finished : IsFinishedText (question_of settings input asked.query) text =
        subst (λ (b : Bool). IsSectionText (question_of settings input asked.query) b text) (none 0 t (omega arith)) is in
        subst (IsFinishedText (question_of settings input asked.query)) (sym (append-nil t.text ∙ joined)) finished

-- what a finished run on a made input prints
record HasCounted (number : ℕ) (text : List ℕ) : Type 0 where
  input : InputValue
  numbered : HasNumbersOf (made number) input
  asked : Asked
  query : input.queries ≡ asked ∷ []
  union : List Query
  exact : IsExact (problem_of input asked.query) union
  once : All (λ (member : Query). HasEachOnce member.atoms) union
  tuples : List (List ℕ)
  answers : AreChaseAnswers input.names (problem_of input asked.query) input.facts tuples
  is : text ≡ summary_text (length union) (atom_count union) (length tuples)

counted_so : (answers : Bool) (job : JobValue) (number : ℕ) (held : List ℕ → Option (List ℕ)) (input : InputValue) (budget : ℕ) (text : List ℕ) → job ≡ make number →
    IsInputOf held job input →
    ((asked : Asked) → input.queries ≡ asked ∷ [] →
    IsFinishedText (record { form = job_form answers job; names = input.names; problem = problem_of input asked.query; facts = input.facts; budget = budget }) text) →
    HasCounted number text
counted_so answers (files names) number held input budget text e has finished = absurd cc
counted_so answers (make other) number held input budget text e has finished =
    let same : other ≡ number = cc in
    let numbered : HasNumbersOf (made number) input = subst (λ (n : ℕ). HasNumbersOf (made n) input) same has in
    let (asked, query) = made_query number input numbered in
    let f = finished asked query in
    let (once, (tuples, are, is)) = f.printed in
    record {
      input = input;
      numbered = numbered;
      asked = asked;
      query = query;
      union = f.union;
      exact = f.exact;
      once = once;
      tuples = tuples;
      answers = are;
      is = is;
    }

has_counted : OneSettings → (call : Call) (number : ℕ) (text : List ℕ) → AskForMade call.words number → IsFinishedRun call text → HasCounted number text
has_counted one call number text asks run =
    let a : WasTaken call 0 text = was_taken call 0 text (inl refl) run in
    let job : a.settings.job ≡ make number = ap (λ (s : SettingsValue). s.job) (one call.words a.settings asks.settings a.asked.stand asks.stand) ∙ asks.job in
    counted_so a.settings.answers a.settings.job number call.held a.input a.settings.budget text job a.asked.has
    (λ asked query. subst (IsFinishedText (question_of a.settings a.input asked.query)) a.is (only_finished a.settings a.input asked a.texts (made_is_plain call.words a.settings number a.asked.stand job) query a.are (a.has refl)))

pub made_runs_agree : OneSettings → MadeRunsAgree
made_runs_agree one call other number text text_other asks asks_other run run_other =
    let a : HasCounted number text = has_counted one call number text asks run in
    let b : HasCounted number text_other = has_counted one other number text_other asks_other run_other in
    let same : AreSameInput a.input b.input = same_input (made number) a.input b.input a.numbered b.numbered in
    let query : AreSameAsked a.asked b.asked =
    (subst (λ (qs : List Asked). AllZip AreSameAsked (a.asked ∷ []) qs) b.query (subst (λ (qs : List Asked). AllZip AreSameAsked qs b.input.queries) a.query same.queries)).0 in
    let problem = problem_of b.input b.asked.query in
    let exact : IsExact problem a.union = exact_of_asked a.input b.input a.asked b.asked a.union same.rules query a.exact in
    let moved : AreChaseAnswers b.input.names problem b.input.facts a.tuples =
    answers_move (made number) a.input b.input (problem_of a.input a.asked.query) problem a.union a.tuples a.numbered b.numbered a.exact exact a.answers in
    let size : length a.union ≡ length b.union = one_size problem a.union b.union exact b.exact in
    let atoms : atom_count a.union ≡ atom_count b.union = one_atom_count problem a.union b.union exact b.exact a.once b.once in
    let tuples : a.tuples ≡ b.tuples = one_answers b.input.names problem b.input.facts a.tuples b.tuples moved b.answers in
    a.is ∙
    (ap (λ (n : ℕ). summary_text n (atom_count a.union) (length a.tuples)) size ∙
    (ap (λ (n : ℕ). summary_text (length b.union) n (length a.tuples)) atoms ∙
    (ap (λ (ts : List (List ℕ)). summary_text (length b.union) (atom_count b.union) (length ts)) tuples ∙
    sym b.is)))
