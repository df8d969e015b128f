-- The files are read in turn.
use Rattle.std.proofs.Common.{◌≡◌, ℕ, ◌+◌, ◌<◌, ◌≤◌, List, [], ◌∷◌, ◌++◌, length, drop, get_or, Option, Some, None, refl, sym, ap, subst, ◌∙◌, append_assoc, arith}
use Rattle.std.proofs.lemmas.List.{append-nil, at_drop_more, at_drop_all, length-map, get_or-map}
use Rattle.std.proofs.lemmas.List.Sums.{sum_by-cons, sum_by-append}
use Rattle.std.specs.declared.vec.Vec.{Vec}
use Rattle.std.specs.declared.alloc.Global.{Global}
use Rattle.ucq_reader.specs.declared.ReadFault.{ReadFault}
use Rattle.ucq_reader.specs.Statement.{spelling}
use Rattle.ucq_reader.specs.Meaning.{Placed, FileRead, parsed, placed_from, placed, file_fault, files_fault, first_of, unless, meant, meaning}
use Rattle.ucq_reader.specs.Input.{InputValue, IsGoneOn, AreRead, HasNumbersOf, IsInput, IsRefused}
use Rattle.ucq_reader.specs.Gathered.{GatheredValue, IsGathered}
use Rattle.ucq_reader.specs.Outcome.{word_count, byte_count, texts, IsFileTaken, IsFileFault, IsDecidedBy}

-- the files before the one of this number have been taken
pub record IsReadTo (files : List (List ℕ)) (file : ℕ) (g : GatheredValue) : Type 0 where
  pub reads : List FileRead
  pub all : List Placed
  pub goes_on : (later : List FileRead) → AreRead file (drop file files) later → AreRead 0 files (reads ++ later)
  pub faultless : (later : List FileRead) → files_fault 0 (reads ++ later) ≡ files_fault file later
  pub placing : (later : List FileRead) → placed 0 (reads ++ later) ≡ all ++ placed file later
  pub gathered : IsGathered all g
  pub few : word_count all + byte_count (drop file files) ≤ byte_count files
  pub names : length g.names + byte_count (drop file files) ≤ byte_count files
  pub unknowns : g.unknowns + byte_count (drop file files) ≤ byte_count files
  pub asked : g.asked + byte_count (drop file files) ≤ byte_count files

pub start : (files : List (List ℕ)) (g : GatheredValue) → IsGathered [] g → g.names ≡ [] → g.unknowns ≡ 0 → g.asked ≡ 0 → IsReadTo files 0 g
start files g h names unknowns asked = record {
  reads = [];
  all = [];
  goes_on = λ later r. r;
  faultless = λ later. refl;
  placing = λ later. refl;
  gathered = h;
  few = omega arith;
  names = omega (arith, ap length names);
  unknowns = omega (arith, unknowns);
  asked = omega (arith, asked);
}

-- ---- the next file

-- the file of the code at this place
pub text_here : (files : List (Vec ℕ Global)) (file : ℕ) (v : Vec ℕ Global) → file < length files → v ≡ get_or files file v → drop file (texts files) ≡ v.items ∷ drop (file + 1) (texts files)
text_here files file v h is = at_drop_more (λ (xs : List (List ℕ)). xs) (texts files) file v.items (omega (arith, length-map files (λ (f : Vec ℕ Global). f.items), h)) ∙ ap (λ (x : List ℕ). x ∷ drop (file + 1) (texts files)) (get_or-map (λ (f : Vec ℕ Global). f.items) files file v v.items h ∙ ap (λ (w : Vec ℕ Global). w.items) (sym is))

-- how many bytes are left
bytes_here : (files : List (List ℕ)) (file : ℕ) (text : List ℕ) → drop file files ≡ text ∷ drop (file + 1) files → byte_count (drop file files) ≡ length text + byte_count (drop (file + 1) files)
bytes_here files file text e = ap byte_count e ∙ sum_by-cons length text (drop (file + 1) files)

-- so the next file is small, and there is room
pub record HasRoom (text : List ℕ) (g : GatheredValue) (bytes : ℕ) : Type 0 where
  pub small : length text ≤ bytes
  pub names : length g.names + length text ≤ bytes
  pub unknowns : g.unknowns + length text ≤ bytes
  pub asked : g.asked + length text ≤ bytes

pub room : (files : List (List ℕ)) (file : ℕ) (g : GatheredValue) (text : List ℕ) → IsReadTo files file g → drop file files ≡ text ∷ drop (file + 1) files → HasRoom text g (byte_count files)
room files file g text t e = let here = bytes_here files file text e in record { small = omega (arith, t.few, here); names = omega (arith, t.names, here); unknowns = omega (arith, t.unknowns, here); asked = omega (arith, t.asked, here) }

no_fault_here : (file : ℕ) (read : FileRead) (later : List FileRead) → file_fault file read ≡ None → files_fault file (read ∷ later) ≡ files_fault (file + 1) later
no_fault_here file read later e = ap (λ (o : Option ReadFault). first_of (o ∷ files_fault (file + 1) later ∷ [])) e ∙ alone (files_fault (file + 1) later)
  where
    alone : (o : Option ReadFault) → first_of (o ∷ []) ≡ o
    alone None = refl
    alone (Some fault) = refl

-- one more file is taken
pub step : (files : List (List ℕ)) (file : ℕ) (old new : GatheredValue) (text : List ℕ) → IsReadTo files file old → drop file files ≡ text ∷ drop (file + 1) files → IsFileTaken file text old new → IsReadTo files (file + 1) new
step files file old new text t e done =
    let read = parsed done.statements done.places in
    let here = bytes_here files file text e in
    let more = placed_from file 0 done.places [] done.statements in
    let words = sum_by-append (λ (p : Placed). length (spelling p.statement)) t.all more in
    record {
      reads = t.reads ++ read ∷ [];
      all = t.all ++ more;
      goes_on = λ later r. subst (AreRead 0 files) (sym (append_assoc t.reads (read ∷ []) later)) (t.goes_on (read ∷ later) (subst (λ (xs : List (List ℕ)). AreRead file xs (read ∷ later)) (sym e) (done.read, subst (λ (o : Option ReadFault). IsGoneOn o later (AreRead (file + 1) (drop (file + 1) files) later)) (sym done.clear) r)));
      faultless = λ later. ap (files_fault 0) (append_assoc t.reads (read ∷ []) later) ∙ (t.faultless (read ∷ later) ∙ no_fault_here file read later done.clear);
      placing = λ later. ap (placed 0) (append_assoc t.reads (read ∷ []) later) ∙ (t.placing (read ∷ later) ∙ sym (append_assoc t.all more (placed (file + 1) later)));
      gathered = done.taken t.all t.gathered;
      few = omega (arith, t.few, here, words, done.few);
      names = omega (arith, t.names, here, done.grown.names);
      unknowns = omega (arith, t.unknowns, here, done.grown.unknowns);
      asked = omega (arith, t.asked, here, done.grown.asked);
    }

-- the file's refusal is that of the files
pub refused : (files : List (List ℕ)) (file : ℕ) (g : GatheredValue) (text : List ℕ) → IsReadTo files file g → drop file files ≡ text ∷ drop (file + 1) files → (f : ReadFault) → IsFileFault file text f → IsRefused files f
refused files file g text t e f (read, is, fault) = (
  t.reads ++ read ∷ [],
  t.goes_on (read ∷ []) (subst (λ (xs : List (List ℕ)). AreRead file xs (read ∷ [])) (sym e) (is, subst (λ (o : Option ReadFault). IsGoneOn o [] (AreRead (file + 1) (drop (file + 1) files) [])) (sym fault) refl)),
  sym (ap (λ (o : Option ReadFault). unless o (meant (placed 0 (t.reads ++ read ∷ [])))) (t.faultless (read ∷ []) ∙ ap (λ (o : Option ReadFault). first_of (o ∷ files_fault (file + 1) [] ∷ [])) fault)),
)

-- ---- all files

all_read : (files : List (List ℕ)) (file : ℕ) (g : GatheredValue) (t : IsReadTo files file g) → length files ≤ file → AreRead 0 files (t.reads ++ [])
all_read files file g t h = t.goes_on [] (subst (λ (xs : List (List ℕ)). AreRead file xs []) (sym (at_drop_all (λ (xs : List (List ℕ)). xs) files file h)) tt)

means : (files : List (List ℕ)) (file : ℕ) (g : GatheredValue) (t : IsReadTo files file g) → meaning (t.reads ++ []) ≡ meant t.all
means files file g t = ap (λ (o : Option ReadFault). unless o (meant (placed 0 (t.reads ++ [])))) (t.faultless []) ∙ ap meant (t.placing [] ∙ append-nil t.all)

pub whole_refused : (files : List (List ℕ)) (file : ℕ) (g : GatheredValue) (t : IsReadTo files file g) → length files ≤ file → (f : ReadFault) → IsDecidedBy t.all g (Some f) → IsRefused files f
whole_refused files file g t h f w = (t.reads ++ [], all_read files file g t h, sym (means files file g t ∙ w))

-- the parts are those that were gathered
pub record ArePartsOf (g : GatheredValue) (input : InputValue) : Type 0 where
  pub names : input.names ≡ g.names
  pub rules : input.rules ≡ g.rules
  pub facts : input.facts ≡ g.facts
  pub queries : input.queries ≡ g.queries

pub parts : (g : GatheredValue) (input : InputValue) → ArePartsOf g input → record { names = g.names; rules = g.rules; queries = g.queries; facts = g.facts } ≡ input
parts g input p = λ i. record { names = sym p.names i; rules = sym p.rules i; queries = sym p.queries i; facts = sym p.facts i }

pub whole_input : (files : List (List ℕ)) (file : ℕ) (g : GatheredValue) (t : IsReadTo files file g) → length files ≤ file → IsDecidedBy t.all g None → (input : InputValue) → ArePartsOf g input → IsInput files input
whole_input files file g t h (m, e, numbered) input p = (m, (t.reads ++ [], all_read files file g t h, sym (means files file g t ∙ e)), subst (HasNumbersOf m) (parts g input p) numbered)
