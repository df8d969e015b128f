-- What was written for a part, and the text of what was solved.
use Rattle.std.proofs.Common.{◌≡◌, ◌≢◌, ◌∙◌, ℕ, ◌<◌, ◌≤◌, ◌^◌, ◌⊎◌, Bool, List, [], length, filter, inl, inr, true, false, refl, sym, ap, subst, arith}
use Rattle.std.proofs.lemmas.List.{get_or_default, length-map}
use Rattle.std.proofs.lemmas.List.Sums.{count_by-le-length, length-filter}
use Rattle.std.specs.Option.{is_some}
use Rattle.std.specs.Prelude.{All, Option, Some, None, IsSome, MatchOption, Result, Ok, Err}
use Rattle.ucq_terms.specs.Syntax.{Atom, HasEachOnce, Problem, Query, Rule}
use Rattle.ucq_terms.specs.Rewriting.{IsOneStepWith, Member}
use Rattle.ucq_terms.specs.Union.{IsExact}
use Rattle.ucq_terms.proofs.Lists.{All-from_contains}
use Rattle.ucq_chase.specs.Names.{IsHeldProblem}
use Rattle.ucq_antichain.specs.declared.Row.{Row}
use Rattle.ucq_antichain.specs.Rows.{live_queries, no_row}
use Rattle.ucq_store.specs.declared.Cut.{Cut as StoreCut}
use Rattle.ucq_store.specs.declared.Cut.TheVariants.{Rows, Wide}
use Rattle.ucq_store.specs.Store.{Store, query_of, IsCut, IsFinished}
use Rattle.ucq_store.specs.Lawful.{IsLawful, IsLawfulByLevels, HasCutCause}
use Rattle.ucq_store.specs.Laws.{CutListing, EnoughBudget, IsEnough}
use Rattle.ucq_store.proofs.Finished.{finished_is_exact, live_are_sound_cores}
use Rattle.ucq_store.proofs.Listing.{cut_listing}
use Rattle.ucq_store.proofs.Live.{live_is_row, member_is_live}
use Rattle.ucq_store.proofs.Named.{derived_keeps_names, listing_keeps_names}
use Rattle.ucq_eval.specs.Laws.{AnswersAreChaseAnswers}
use Rattle.ucq_print.specs.Laws.{ArePrintable, ArePrintableRows, ArePrintableTuples, IsPrintable}
use Rattle.ucq_print.specs.Texts.{lines_text, cut_lines, lines_of_cut}
use Rattle.ucq_print.proofs.Stored.{stored_is_printable}
use Rattle.ucq_outside.specs.Taken.{SinkChange, TookAll}
use Rattle.ucq_run.specs.declared.form.Form.{Form}
use Rattle.ucq_run.specs.declared.form.Form.TheVariants.{Queries, Answers, Counts}
use Rattle.ucq_run.specs.declared.outcome.Outcome.{Outcome}
use Rattle.ucq_run.specs.declared.request.Shared.{Shared}
use Rattle.ucq_run.specs.declared.solving.Solved.{Solved}
use Rattle.ucq_run.specs.declared.writing.Unwritten.{Unwritten}
use Rattle.ucq_run.specs.declared.writing.Unwritten.TheVariants.{Failed, Memory}
use Rattle.ucq_run.specs.inner.Reading.{IsWritten}
use Rattle.ucq_run.specs.inner.Request.{AsksAbout, IsWithinLimits, question_in}
use Rattle.ucq_run.specs.inner.Solved.{IsSolved, form_text, solved_text}
use Rattle.ucq_run.specs.Finished.{AreChaseAnswers, Question, IsPrintedIn, IsFinishedText}
use Rattle.ucq_run.specs.Cuts.{IsCutText, IsCutTextOf, rows_of}
use Rattle.ucq_run.specs.Parts.{Part, IsSectionText, IsTextOf}
use Rattle.ucq_run.specs.Printed.{IsWrittenAs, PrintsFor, ended}
use Rattle.ucq_run.proofs.Solved.{solved_answers}

-- ---- parts

-- a part's text, written whole
prints_whole : (part : Part) (out : SinkChange) (text : List ℕ) (cut : Bool) → IsTextOf part (record { text = text; cut = cut }) → TookAll out text → PrintsFor part out (ended cut)
prints_whole part out text true says took = (text, says, took)
prints_whole part out text false says took = (text, says, took)

-- or in part
pub prints_so : (part : Part) (out : SinkChange) (text : List ℕ) (cut : Bool) (answer : Result (Unit {0}) Unwritten) (outcome : Outcome) →
    IsTextOf part (record { text = text; cut = cut }) → IsWritten out text answer → IsWrittenAs answer (ended cut) outcome → PrintsFor part out outcome
prints_so part out text cut (Ok u) outcome says wrote is = subst (λ (o : Outcome). PrintsFor part out o) (sym is) (prints_whole part out text cut says wrote)
prints_so part out text cut (Err Failed) outcome says wrote is =
    subst (λ (o : Outcome). PrintsFor part out o) (sym is) (wrote.0, (record { text = text; cut = cut }, says, wrote.1))
prints_so part out text cut (Err Memory) outcome says wrote is =
    subst (λ (o : Outcome). PrintsFor part out o) (sym is) (inr (record { text = text; cut = cut }, says, wrote))

-- ---- rows

-- a row of a lawful store is printable where the names of the problem are held
row_is_printable : (names : List (List ℕ)) (s : Store) → IsLawful s → IsHeldProblem (length names) s.problem → (row : ℕ) → row < length s.rows → IsPrintable names (query_of s row)
row_is_printable names s lawful held row l =
    stored_is_printable names (query_of s row) (lawful.rows_are_sound_cores.each row l).stored
    (listing_keeps_names (length names) s.problem s.rows held (cut_listing s lawful) row l)

rows_are_printable : (names : List (List ℕ)) (s : Store) → IsLawful s → IsHeldProblem (length names) s.problem → ArePrintableRows names s.rows
rows_are_printable names s lawful held = record {
  each = λ row d l. subst (λ (r : Row). IsPrintable names r.query) (get_or_default s.rows row no_row d l) (row_is_printable names s lawful held row l);
}

-- and so are its live queries
live_are_printable : (names : List (List ℕ)) (s : Store) → IsLawful s → IsHeldProblem (length names) s.problem → s.budget ≤ 65536 → ArePrintable names (live_queries s.rows)
live_are_printable names s lawful held small = record {
  each = All-from_contains (IsPrintable names) (live_queries s.rows) (λ q i.
      let (row, live, same) = member_is_live s.rows q i in
      subst (IsPrintable names) same (row_is_printable names s lawful held row (live_is_row s.rows row live)));
  few =
      let live = filter (λ (r : Row). r.live) s.rows in
      let within : length s.rows ≤ s.budget = lawful.rows_are_sound_cores.within in
      omega (arith, length-map live (λ (r : Row). r.query), length-filter (λ (r : Row). r.live) s.rows, count_by-le-length (λ (r : Row). r.live) s.rows, within);
}

-- and have each atom once
live_have_once : (s : Store) → IsLawful s → All (λ (member : Query). HasEachOnce member.atoms) (live_queries s.rows)
live_have_once s lawful = All-from_contains (λ (member : Query). HasEachOnce member.atoms) (live_queries s.rows) (λ q i. (live_are_sound_cores s lawful q i).stored.once)

-- ---- cuts

abbrev no_member : Member
no_member = record { rule = 0; pairs = [] }

-- the rule of a rewriting is one of the rules
rule_within : (rules : List Rule) (q r : Query) (rule : ℕ) → IsOneStepWith rules rule q r → rule < length rules
rule_within rules q r rule step =
    let some : 0 < length step.members = step.rewrites.aggregate.nonempty in
    subst (λ (n : ℕ). n < length rules) (step.uses_only 0 no_member some) (step.rewrites.aggregate.each 0 no_member some).rule

-- the text of a cut, with the rows that it lists
abbrev HasCutText : List (List ℕ) → Problem → ℕ → List Row → List ℕ → Type 0
HasCutText names problem budget rows text = (c : IsCutText names problem budget text) × (rows_of names problem budget text c ≡ rows)

-- the text of a cut store
cut_says : CutListing → (names : List (List ℕ)) (s : Store) → IsLawful s → IsHeldProblem (length names) s.problem → IsCut s →
    HasCutText names s.problem s.budget s.rows (lines_text (cut_lines names s))
cut_says listing names s lawful held cut = go s.cut cut lawful.cut_has_cause
  where
    go : (c : Option StoreCut) → IsSome c → HasCutCause s c → HasCutText names s.problem s.budget s.rows (lines_text (lines_of_cut names s.budget s.rows c))
    go None some cause = let bad : false ≡ true = some in cc
    go (Some (Rows left)) some cause = (
      inl (record {
        rows = s.rows;
        left = left;
        listing = listing s lawful;
        left_over = cause;
        printable = rows_are_printable names s lawful held;
        printable_left =
            stored_is_printable names left cause.sound_core.stored
            (derived_keeps_names (length names) s.problem.rules (query_of s cause.row) left held.rules (row_is_printable names s lawful held cause.row cause.row_of).held cause.derived);
        printed = refl;
      }),
      refl,
    )
    go (Some (Wide row rule count)) some cause = (
      inr (record {
        rows = s.rows;
        row = row;
        rule = rule;
        width = count;
        listing = listing s lawful;
        within = lawful.rows_are_sound_cores.within;
        wide = cause;
        rule_of = rule_within s.problem.rules (query_of s row) cause.wide_step.result rule cause.wide_step.step;
        printable = rows_are_printable names s lawful held;
        printed = refl;
      }),
      refl,
    )

-- where the budget is enough the store isn't cut
not_enough : EnoughBudget → (s : Store) → IsLawfulByLevels s → IsCut s → ¬ IsEnough s.problem s.budget
not_enough enough s lawful cut h =
    let bad : false ≡ true = sym (ap is_some (enough s h.last h.members lawful h.ends h.fits).0) ∙ cut in
    cc

-- the text of the cut of a question, with the rows that it lists
abbrev pub TellsRows : Question → List Row → List ℕ → Type 0
TellsRows q rows text = (c : IsCutTextOf q text) × (rows_of q.names q.problem q.budget text c.cut ≡ rows)

-- that of a cut store, for the question of its problem and its budget
pub cut_is_told : CutListing → EnoughBudget → (q : Question) (s : Store) → s.problem ≡ q.problem → s.budget ≡ q.budget → IsLawfulByLevels s → IsHeldProblem (length q.names) s.problem → IsCut s →
    TellsRows q s.rows (lines_text (cut_lines q.names s))
cut_is_told listing enough q s problem budget lawful held cut =
    let text : List ℕ = lines_text (cut_lines q.names s) in
    let (says, rows) = cut_says listing q.names s lawful.lawful held cut in
    let own : TellsRows (record q { problem = s.problem; budget = s.budget }) s.rows text = (record { cut = says; short = not_enough enough s lawful cut }, rows) in
    subst (λ (p : Problem). TellsRows (record q { problem = p }) s.rows text) problem
    (subst (λ (n : ℕ). TellsRows (record q { problem = s.problem; budget = n }) s.rows text) budget own)

-- ---- what was solved

-- the text of a union in a form, with the answers where they are asked for
printed_in : (form : Form) (q : Question) (union : List Query) (tuples : List (List ℕ)) → All (λ (member : Query). HasEachOnce member.atoms) union →
    (form ≢ Queries → AreChaseAnswers q.names q.problem q.facts tuples × ArePrintableTuples q.names tuples) → IsPrintedIn form q union (form_text form q.names union tuples)
printed_in Queries q union tuples once answers = refl
printed_in Answers q union tuples once answers = let (chase, named) = answers (λ e. let bad : Answers ≡ Queries = e in cc) in (tuples, chase, named, refl)
printed_in Counts q union tuples once answers = (once, (tuples, (answers (λ e. let bad : Counts ≡ Queries = e in cc)).0, refl))

-- what was solved of a lawful store's problem, to be printed
pub record IsToPrint (a : Shared) (s : Solved) : Type 0 where
  pub within : IsWithinLimits a
  pub held : IsHeldProblem (length a.names) s.store.problem
  pub solved : IsSolved a s.store.problem s
  pub lawful : IsLawfulByLevels s.store
  pub few : length s.answers.tuples < 2 ^ 64

-- the text of a finished store
pub finished_is_told : AnswersAreChaseAnswers → (a : Shared) (s : Solved) (facts : List Atom) → IsToPrint a s → AsksAbout a facts → IsFinished s.store →
    IsFinishedText (question_in a s.store.problem facts) (form_text a.form a.names (live_queries s.store.rows) s.answers.tuples)
finished_is_told law a s facts p about finished =
    let lawful = p.lawful.lawful in
    let union = live_queries s.store.rows in
    let exact : IsExact s.store.problem union = finished_is_exact s.store lawful finished in
    let small : s.store.budget ≤ 65536 = subst (λ (n : ℕ). n ≤ 65536) (sym p.solved.budget) p.within.small in
    let printable : ArePrintable a.names union = live_are_printable a.names s.store lawful p.held small in
    record {
      union = union;
      exact = exact;
      printable = printable;
      printed =
          printed_in a.form (question_in a s.store.problem facts) union s.answers.tuples (live_have_once s.store lawful)
          (λ asks. solved_answers law a s.store.problem facts union s.answers.tuples about exact printable p.few asks (p.solved.has.answers finished asks));
    }

-- a store is cut as its reader tells
pub is_cut_as_read : {T : Type 0} (s : Store) (cut : Option T) (read : T → StoreCut) → MatchOption cut (s.cut ≡ None) (λ c. s.cut ≡ Some (read c)) → is_some s.cut ≡ is_some cut
is_cut_as_read s None read is = ap is_some is
is_cut_as_read s (Some cut) read is = ap is_some is

-- one that has ended and isn't cut is finished
pub is_finished_of : (s : Store) → IsFinished s ⊎ IsCut s → is_some s.cut ≡ false → IsFinished s
is_finished_of s (inl finished) uncut = finished
is_finished_of s (inr cut) uncut = let bad : false ≡ true = sym uncut ∙ cut in cc

-- the text of what was solved
pub solved_is_told : AnswersAreChaseAnswers → CutListing → EnoughBudget → (a : Shared) (s : Solved) (facts : List Atom) (cut : Bool) → IsToPrint a s → AsksAbout a facts → is_some s.store.cut ≡ cut →
    IsSectionText (question_in a s.store.problem facts) cut (solved_text a s)
solved_is_told law listing enough a s facts true p about is =
    rw is ((cut_is_told listing enough (question_in a s.store.problem facts) s.store refl p.solved.budget p.lawful p.held is).0)
solved_is_told law listing enough a s facts false p about is =
    rw is (finished_is_told law a s facts p about (is_finished_of s.store p.solved.ended is))
