-- What is read and printed decides on the status.
use Rattle.std.proofs.Common.{◌≡◌, ◌≢◌, ◌<◌, ◌≤◌, ◌+◌, ◌^◌, ◌⊎◌, ℕ, zero, suc, List, [], ◌∷◌, length, take, inl, inr, refl, sym, ap, ap₂, subst, ◌∙◌, arith}
use Rattle.std.proofs.lemmas.List.Sums.{sum_by-cons}
use Rattle.std.specs.Prelude.{Option, Some, None, IfSome, Ok, Err, slice_get, All}
use Rattle.std.specs.List.{AllZip}
use Rattle.ucq_outside.specs.Causes.{Rose}
use Rattle.ucq_reader.specs.declared.ReadFault.{ReadFault}
use Rattle.ucq_reader.specs.Input.{InputValue, IsInput, HasNumbersOf, IsRefused}
use Rattle.ucq_reader.specs.Made.{made}
use Rattle.ucq_reader.specs.Outcome.{byte_count}
use Rattle.ucq_reader.proofs.Refusals.{meaning_unique}
use Rattle.ucq_words.specs.Settings.{JobValue, files, make, SettingsValue, StandFor, OneSettings}
use Rattle.ucq_run.specs.declared.outcome.Outcome.{Outcome}
use Rattle.ucq_run.specs.declared.outcome.Outcome.TheVariants.{Finished, Cut, NoMemory, BadWords, ReadFault as ReadFaultAt, TooLong, Refused, WriteFault}
use Rattle.ucq_run.specs.Outcomes.{status_of}
use Rattle.ucq_run.specs.Inputs.{Call, AreFileTexts, IsAsked, IsInputOf, IsReadInput}
use Rattle.ucq_run.specs.Causes.{AreRefusedFor, IsCause, IsTooLong, NameFiles}
use Rattle.ucq_outside.specs.Taken.{SinkChange}
use Rattle.ucq_run.specs.Printed.{PrintsAsked, Prints}
use Rattle.ucq_run.specs.Run.{AreReadable, AreRefused, IsAnswered, IsDecided, IsReported, IsRun, HoldsFiles, TellsFiles, HasEnough, IsFinishedOrWanting, IsFullRun}
use Rattle.ucq_run.specs.Parts.{parts_of, HasEnoughFor}
use Rattle.ucq_run.proofs.PartTexts.{cut_is_short, parts_some}
use Rattle.ucq_run.proofs.OneProblem.{enough_of_input, same_input, same_of_files}

-- files that stand for an input aren't refused
input_or_refusal : (texts : List (List ℕ)) (input : InputValue) (fault : ReadFault) → IsInput texts input → IsRefused texts fault → ⊥
input_or_refusal texts input fault i r = let e = meaning_unique texts (Ok i.0) (Err fault) i.1 r in absurd cc

-- ---- what is told

-- the texts of a shelf that tells them all
all_told : (held : List ℕ → Option (List ℕ)) (names xs ys : List (List ℕ)) → AllZip (λ (name text : List ℕ). IfSome (held name) (λ file. text ≡ file)) names xs → AllZip (λ (name text : List ℕ). held name ≡ Some text) names ys → xs ≡ ys
all_told held [] [] [] h k = refl
all_told held [] [] (y ∷ ys) h k = absurd k
all_told held [] (x ∷ xs) ys h k = absurd h
all_told held (n ∷ names) [] ys h k = absurd h
all_told held (n ∷ names) (x ∷ xs) [] h k = absurd k
all_told held (n ∷ names) (x ∷ xs) (y ∷ ys) h k =
    ap₂ (λ (z : List ℕ) (zs : List (List ℕ)). z ∷ zs) (subst (λ (o : Option (List ℕ)). IfSome o (λ file. x ≡ file)) k.0 h.0) (all_told held names xs ys h.1 k.1)

byte_count-first : (y : List ℕ) (ys : List (List ℕ)) → byte_count (y ∷ ys) ≡ length y + byte_count ys
byte_count-first y ys = sum_by-cons length y ys

-- files that are too long up to one of them are too long together
long_together : (held : List ℕ → Option (List ℕ)) (base limit : ℕ) (names before ys : List (List ℕ)) (file : ℕ) (name : List ℕ) →
    AllZip (λ (name text : List ℕ). IfSome (held name) (λ file. text ≡ file)) (take file names) before →
    AllZip (λ (name text : List ℕ). held name ≡ Some text) names ys →
    slice_get names file ≡ Some name →
    IfSome (held name) (λ bytes. limit < base + byte_count before + length bytes) →
    limit < base + byte_count ys
long_together held base limit [] before ys file name h k at long = absurd cc
long_together held base limit (n ∷ names) before [] file name h k at long = absurd k
long_together held base limit (n ∷ names) [] (y ∷ ys) zero name h k at long =
    let same : n ≡ name = cc in
    let told : limit < base + 0 + length y = subst (λ (o : Option (List ℕ)). IfSome o (λ bytes. limit < base + 0 + length bytes)) k.0 (subst (λ (m : List ℕ). IfSome (held m) (λ bytes. limit < base + 0 + length bytes)) (sym same) long) in
    let all = byte_count-first y ys in
    omega arith
long_together held base limit (n ∷ names) (b ∷ before) (y ∷ ys) zero name h k at long = absurd h
long_together held base limit (n ∷ names) [] (y ∷ ys) (suc file) name h k at long = absurd h
long_together held base limit (n ∷ names) (b ∷ before) (y ∷ ys) (suc file) name h k at long =
    let same : b ≡ y = subst (λ (o : Option (List ℕ)). IfSome o (λ file. b ≡ file)) k.0 h.0 in
    let size : length b ≡ length y = ap length same in
    let begun = byte_count-first b before in
    let moved : IfSome (held name) (λ bytes. limit < base + length y + byte_count before + length bytes) = shifted (held name) long size begun in
    let rest = long_together held (base + length y) limit names before ys file name h.1 k.1 at moved in
    let all = byte_count-first y ys in
    omega (arith, rest, all)
  where
    shifted : (o : Option (List ℕ)) → IfSome o (λ bytes. limit < base + byte_count (b ∷ before) + length bytes) → length b ≡ length y → byte_count (b ∷ before) ≡ length b + byte_count before →
        IfSome o (λ bytes. limit < base + length y + byte_count before + length bytes)
    shifted None h e f = tt
    shifted (Some bytes) h e f = omega (arith, h, e, f)

-- the same from no bytes before
from_none : (o : Option (List ℕ)) (n : ℕ) → IfSome o (λ bytes. 2 ^ 26 < n + length bytes) → IfSome o (λ bytes. 2 ^ 26 < 0 + n + length bytes)
from_none None n h = tt
from_none (Some bytes) n h = omega (arith, h)

-- ---- one settings

module _ (one : OneSettings) where
  -- the words name one list of files
  one_names : (words : List (List ℕ)) (a b : List (List ℕ)) → NameFiles words a → NameFiles words b → a ≡ b
  one_names words a b h k =
      let e : h.settings ≡ k.settings = one words h.settings k.settings h.stand k.stand in
      let f : files a ≡ files b = sym h.job ∙ (ap (λ (s : SettingsValue). s.job) e ∙ k.job) in
      cc

  -- a job that is asked for is the one that is named
  asked_files : (call : Call) (settings : SettingsValue) (input : InputValue) (names : List (List ℕ)) → IsAsked call settings input → NameFiles call.words names → IsReadInput call.held names input
  asked_files call settings input names asked named =
      let e : settings ≡ named.settings = one call.words settings named.settings asked.stand named.stand in
      subst (λ (job : JobValue). IsInputOf call.held job input) (ap (λ (s : SettingsValue). s.job) e ∙ named.job) asked.has

  not_made : (call : Call) (names : List (List ℕ)) (settings : SettingsValue) (number : ℕ) → NameFiles call.words names → StandFor call.words settings → settings.job ≡ make number → ⊥
  not_made call names settings number named stand job =
      let e : settings ≡ named.settings = one call.words settings named.settings stand named.stand in
      let f : make number ≡ files names = sym job ∙ (ap (λ (s : SettingsValue). s.job) e ∙ named.job) in
      absurd cc

  -- the texts that were read are those that are told
  read_are_told : (call : Call) (names xs texts : List (List ℕ)) → NameFiles call.words names → AreFileTexts call.held names xs → HoldsFiles call texts → xs ≡ texts
  read_are_told call names xs texts named read told =
      let same : names ≡ told.names = one_names call.words names told.names named told.named in
      all_told call.held told.names xs texts (subst (λ (ns : List (List ℕ)). AllZip (λ (name text : List ℕ). IfSome (call.held name) (λ file. text ≡ file)) ns xs) same read.told) told.held

  -- what was asked of files that are told is what they stand for
  pub asked_told : (call : Call) (settings : SettingsValue) (input : InputValue) (texts : List (List ℕ)) → IsAsked call settings input → HoldsFiles call texts → (byte_count texts ≤ 2 ^ 26) × IsInput texts input
  asked_told call settings input texts asked told =
      let read = asked_files call settings input told.names asked told.named in
      let same : read.texts ≡ texts = read_are_told call told.names read.texts texts told.named read.read told in
      (subst (λ (ts : List (List ℕ)). byte_count ts ≤ 2 ^ 26) same read.read.short, subst (λ (ts : List (List ℕ)). IsInput ts input) same read.stands_for)

  refused_told : (call : Call) (names texts : List (List ℕ)) (fault : ReadFault) → NameFiles call.words names → AreRefusedFor call.held names fault → HoldsFiles call texts → (byte_count texts ≤ 2 ^ 26) × IsRefused texts fault
  refused_told call names texts fault named refused told =
      let same : refused.texts ≡ texts = read_are_told call names refused.texts texts named refused.read told in
      (subst (λ (ts : List (List ℕ)). byte_count ts ≤ 2 ^ 26) same refused.read.short, subst (λ (ts : List (List ℕ)). IsRefused ts fault) same refused.refused)

  long_told : (call : Call) (names texts : List (List ℕ)) (file : ℕ) → NameFiles call.words names → IsTooLong call.held names file → HoldsFiles call texts → 2 ^ 26 < byte_count texts
  long_told call names texts file named long told =
      let same : told.names ≡ names = one_names call.words told.names names told.named named in
      let rest = long_together call.held 0 (2 ^ 26) names long.before texts file long.name long.read.told (subst (λ (ns : List (List ℕ)). AllZip (λ (name text : List ℕ). call.held name ≡ Some text) ns texts) same told.held) long.named (from_none (call.held long.name) (byte_count long.before) long.long) in
      omega arith

  -- an input that was asked for isn't refused
  asked_or_refused : (call : Call) (out : SinkChange) (o : Outcome) (texts : List (List ℕ)) → PrintsAsked call out o → HoldsFiles call texts → AreRefused texts → ⊥
  asked_or_refused call out o texts p told refused =
      let read = asked_told call p.settings p.input texts p.asked told in
      elim refused [
        | inl long ↦ let short = read.0 in omega arith
        | inr h ↦ input_or_refusal texts p.input h.1.0 read.1 h.1.1
      ]

  -- ---- status 2

  bad_words : (call : Call) (o : Outcome) → status_of o ≡ 2 → IsCause call o → (settings : SettingsValue) → StandFor call.words settings → ⊥
  bad_words call Finished e cause = absurd (omega arith)
  bad_words call Cut e cause = absurd (omega arith)
  bad_words call NoMemory e cause = absurd (omega arith)
  bad_words call BadWords e cause = cause
  bad_words call (ReadFaultAt file at) e cause = absurd (omega arith)
  bad_words call (TooLong file) e cause = absurd (omega arith)
  bad_words call (Refused fault) e cause = absurd (omega arith)
  bad_words call WriteFault e cause = absurd (omega arith)

  only_bad_words : (call : Call) (out : SinkChange) (o : Outcome) → status_of o ≢ 1 → IsCause call o → Prints call out o → ((settings : SettingsValue) → StandFor call.words settings → ⊥) → status_of o ≡ 2
  only_bad_words call out o other cause (inl p) none = absurd (none p.settings p.asked.stand)
  only_bad_words call out Finished other cause (inr h) none = absurd h.0
  only_bad_words call out Cut other cause (inr h) none = absurd h.0
  only_bad_words call out NoMemory other cause (inr h) none = absurd (other refl)
  only_bad_words call out BadWords other cause (inr h) none = refl
  only_bad_words call out (ReadFaultAt file at) other cause (inr h) none = absurd (none cause.1.settings cause.1.stand)
  only_bad_words call out (TooLong file) other cause (inr h) none = absurd (none cause.1.settings cause.1.stand)
  only_bad_words call out (Refused fault) other cause (inr h) none = absurd (none cause.1.settings cause.1.stand)
  only_bad_words call out WriteFault other cause (inr h) none = absurd h.0

  -- ---- status 4

  refused_files : (call : Call) (o : Outcome) (texts : List (List ℕ)) → TellsFiles call texts → status_of o ≡ 4 → IsCause call o → AreRefused texts
  refused_files call Finished texts told e cause = absurd (omega arith)
  refused_files call Cut texts told e cause = absurd (omega arith)
  refused_files call NoMemory texts told e cause = absurd (omega arith)
  refused_files call BadWords texts told e cause = absurd (omega arith)
  refused_files call (ReadFaultAt number at) texts told e cause = absurd (omega arith)
  refused_files call (TooLong file) texts told e cause = inl (long_told call cause.0 texts file cause.1 cause.2 told.files)
  refused_files call (Refused fault) texts told e cause = let r = refused_told call cause.0 texts fault cause.1 cause.2 told.files in inr (r.0, (fault, r.1))
  refused_files call WriteFault texts told e cause = absurd (omega arith)

  only_refused : (call : Call) (out : SinkChange) (o : Outcome) (texts : List (List ℕ)) → TellsFiles call texts → status_of o ≢ 1 → IsCause call o → Prints call out o → AreRefused texts → status_of o ≡ 4
  only_refused call out o texts told other cause (inl p) refused = absurd (asked_or_refused call out o texts p told.files refused)
  only_refused call out Finished texts told other cause (inr h) refused = absurd h.0
  only_refused call out Cut texts told other cause (inr h) refused = absurd h.0
  only_refused call out NoMemory texts told other cause (inr h) refused = absurd (other refl)
  only_refused call out BadWords texts told other cause (inr h) refused = absurd (cause told.files.named.settings told.files.named.stand)
  only_refused call out (ReadFaultAt number at) texts told other cause (inr h) refused = absurd (told.sure cause.2.0)
  only_refused call out (TooLong number) texts told other cause (inr h) refused = refl
  only_refused call out (Refused fault) texts told other cause (inr h) refused = refl
  only_refused call out WriteFault texts told other cause (inr h) refused = absurd h.0

  -- ---- answers

  -- a rise of the output's faults shows where the outcome is a fault of it
  write_fault : (call : Call) (out : SinkChange) → Prints call out WriteFault → Rose out.faults_before out.faults_after
  write_fault call out (inl p) = p.prints.0
  write_fault call out (inr h) = absurd h.0

  -- Files that stand for a problem are answered, where shelf and output don't fail.
  only_answered : (call : Call) (out : SinkChange) (o : Outcome) (texts : List (List ℕ)) → TellsFiles call texts → ¬ Rose out.faults_before out.faults_after → AreReadable texts →
      IsCause call o → Prints call out o → IsAnswered (status_of o)
  only_answered call out Finished texts told sure readable cause prints = inl (inl refl)
  only_answered call out Cut texts told sure readable cause prints = inl (inr refl)
  only_answered call out NoMemory texts told sure readable cause prints = inr refl
  only_answered call out BadWords texts told sure readable cause prints = absurd (cause told.files.named.settings told.files.named.stand)
  only_answered call out (ReadFaultAt number at) texts told sure readable cause prints = absurd (told.sure cause.2.0)
  only_answered call out (TooLong file) texts told sure readable cause prints =
      let long = long_told call cause.0 texts file cause.1 cause.2 told.files in
      let short = readable.0 in
      absurd (omega arith)
  only_answered call out (Refused fault) texts told sure readable cause prints =
      let r = refused_told call cause.0 texts fault cause.1 cause.2 told.files in
      absurd (input_or_refusal texts readable.1.0 fault readable.1.1 r.1)
  only_answered call out WriteFault texts told sure readable cause prints = absurd (sure (write_fault call out prints))

  -- And so is an input that is made.
  only_made : (call : Call) (out : SinkChange) (o : Outcome) (settings : SettingsValue) (number : ℕ) → StandFor call.words settings → settings.job ≡ make number → ¬ Rose out.faults_before out.faults_after →
      IsCause call o → Prints call out o → IsAnswered (status_of o)
  only_made call out Finished settings number stand job sure cause prints = inl (inl refl)
  only_made call out Cut settings number stand job sure cause prints = inl (inr refl)
  only_made call out NoMemory settings number stand job sure cause prints = inr refl
  only_made call out BadWords settings number stand job sure cause prints = absurd (cause settings stand)
  only_made call out (ReadFaultAt file at) settings number stand job sure cause prints = absurd (not_made call cause.0 settings number cause.1 stand job)
  only_made call out (TooLong file) settings number stand job sure cause prints = absurd (not_made call cause.0 settings number cause.1 stand job)
  only_made call out (Refused fault) settings number stand job sure cause prints = absurd (not_made call cause.0 settings number cause.1 stand job)
  only_made call out WriteFault settings number stand job sure cause prints = absurd (sure (write_fault call out prints))

  -- ---- a budget that is enough

  -- a cut comes only where the budget isn't enough for all that was asked
  cut_was_short : (call : Call) (out : SinkChange) (o : Outcome) → status_of o ≡ 5 → Prints call out o → (p : PrintsAsked call out o) × ¬ All HasEnoughFor (parts_of p.settings p.input)
  cut_was_short call out Cut e (inl p) = (p, cut_is_short (parts_of p.settings p.input) out p.prints)
  cut_was_short call out Cut e (inr h) = absurd h.0
  cut_was_short call out Finished e prints = absurd (omega arith)
  cut_was_short call out NoMemory e prints = absurd (omega arith)
  cut_was_short call out BadWords e prints = absurd (omega arith)
  cut_was_short call out (ReadFaultAt file at) e prints = absurd (omega arith)
  cut_was_short call out (TooLong file) e prints = absurd (omega arith)
  cut_was_short call out (Refused fault) e prints = absurd (omega arith)
  cut_was_short call out WriteFault e prints = absurd (omega arith)

  not_cut : (status : ℕ) → (status ≡ 5 → ⊥) → IsAnswered status → IsFinishedOrWanting status
  not_cut status other (inl (inl e)) = inl e
  not_cut status other (inl (inr e)) = absurd (other e)
  not_cut status other (inr e) = inr e

  only_finished : (call : Call) (out : SinkChange) (o : Outcome) (texts : List (List ℕ)) (settings : SettingsValue) (input : InputValue) → TellsFiles call texts →
      ¬ Rose out.faults_before out.faults_after → byte_count texts ≤ 2 ^ 26 → IsInput texts input → HasEnough call settings input →
      IsCause call o → Prints call out o → IsFinishedOrWanting (status_of o)
  only_finished call out o texts settings input told sure short is enough cause prints =
      not_cut (status_of o) (λ e.
      let (p, isnt) = cut_was_short call out o e prints in
      let same : settings ≡ p.settings = one call.words settings p.settings enough.stand p.asked.stand in
      isnt (enough_of_input p.settings input p.input (same_of_files texts input p.input is (asked_told call p.settings p.input texts p.asked told.files).1)
      (subst (λ (s : SettingsValue). All HasEnoughFor (parts_of s input)) same enough.enough)))
      (only_answered call out o texts told sure (short, (input, is)) cause prints)

  only_finished_made : (call : Call) (out : SinkChange) (o : Outcome) (settings : SettingsValue) (number : ℕ) (input : InputValue) → settings.job ≡ make number →
      ¬ Rose out.faults_before out.faults_after → IsInputOf call.held settings.job input → HasEnough call settings input →
      IsCause call o → Prints call out o → IsFinishedOrWanting (status_of o)
  only_finished_made call out o settings number input job sure is enough cause prints =
      not_cut (status_of o) (λ e.
      let (p, isnt) = cut_was_short call out o e prints in
      let same : settings ≡ p.settings = one call.words settings p.settings enough.stand p.asked.stand in
      let here : HasNumbersOf (made number) input = subst (λ (j : JobValue). IsInputOf call.held j input) job is in
      let asked : HasNumbersOf (made number) p.input = subst (λ (j : JobValue). IsInputOf call.held j p.input) (sym (ap (λ (s : SettingsValue). s.job) same) ∙ job) p.asked.has in
      isnt (enough_of_input p.settings input p.input (same_input (made number) input p.input here asked)
      (subst (λ (s : SettingsValue). All HasEnoughFor (parts_of s input)) same enough.enough)))
      (only_made call out o settings number enough.stand job sure cause prints)

  -- A run's status is decided so.
  pub IsDecided-run : (call : Call) (out err : SinkChange) (answer : ℕ) → IsRun call out err answer → IsDecided call out answer
  IsDecided-run call out err answer r = subst (λ (n : ℕ). IsDecided call out n) (sym r.status) (record {
    words = λ other. (λ e. bad_words call r.outcome e r.cause, only_bad_words call out r.outcome other r.cause r.prints);
    refused = λ texts told other. (λ e. refused_files call r.outcome texts told e r.cause, only_refused call out r.outcome texts told other r.cause r.prints);
    answered = λ texts told sure readable. only_answered call out r.outcome texts told sure readable r.cause r.prints;
    finished = λ texts settings input told sure short is enough. only_finished call out r.outcome texts settings input told sure short is enough r.cause r.prints;
    made = λ settings number stand job sure. only_made call out r.outcome settings number stand job sure r.cause r.prints;
    finished_made = λ settings number input job sure is enough. only_finished_made call out r.outcome settings number input job sure is enough r.cause r.prints;
  })

-- ---- what is reported

-- whatever was printed may be printed where memory is wanting
asked_some : (call : Call) (out : SinkChange) (o : Outcome) → PrintsAsked call out o → PrintsAsked call out NoMemory
asked_some call out o p = record { settings = p.settings; input = p.input; asked = p.asked; prints = parts_some (parts_of p.settings p.input) out o p.prints }

prints_some : (call : Call) (out : SinkChange) (o : Outcome) → Prints call out o → Prints call out NoMemory
prints_some call out o (inl p) = inl (asked_some call out o p)
prints_some call out o (inr h) = inr (tt, h.1)

-- An outcome that has its cause, and is reported, is a run.
reported_is_run : (call : Call) (out err : SinkChange) (o : Outcome) (answer : ℕ) → IsCause call o → Prints call out o → IsReported err o answer → IsRun call out err answer
reported_is_run call out err o answer cause prints r = go r.same
  where
    go : (r.told ≡ o) ⊎ (r.told ≡ NoMemory) → IsRun call out err answer
    go (inl e) = record {
      outcome = r.told;
      status = r.status;
      cause = subst (λ (t : Outcome). IsCause call t) (sym e) cause;
      prints = subst (λ (t : Outcome). Prints call out t) (sym e) prints;
      line = r.line;
    }
    go (inr h) = record {
      outcome = r.told;
      status = r.status;
      cause = subst (λ (t : Outcome). IsCause call t) (sym h) tt;
      prints = subst (λ (t : Outcome). Prints call out t) (sym h) (prints_some call out o prints);
      line = r.line;
    }

-- And its status is decided.
pub reported_is_full_run : OneSettings → (call : Call) (out err : SinkChange) (o : Outcome) (answer : ℕ) → IsCause call o → Prints call out o → IsReported err o answer → IsFullRun call out err answer
reported_is_full_run one call out err o answer cause prints r =
    let run = reported_is_run call out err o answer cause prints r in
    record { run = run; decided = IsDecided-run one call out err answer run }
