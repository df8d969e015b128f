-- Every constant of an answer has a name.
use Rattle.std.proofs.Common.{◌<◌, ◌^◌, ℕ, List, length, All, Contains, sym, subst}
use Rattle.std.proofs.lemmas.List.Elements.{All-contains}
use Rattle.ucq_terms.specs.declared.Term.{Term}
use Rattle.ucq_terms.specs.declared.Term.TheVariants.{Constant, Variable}
use Rattle.ucq_terms.specs.Syntax.{Atom, Query, Problem, OccursIn, IsSubset, term_image, atoms_image}
use Rattle.ucq_terms.specs.Homomorphism.{MapsInto}
use Rattle.ucq_terms.specs.Chase.{IsKnownIn, IsChaseAnswer}
use Rattle.ucq_terms.specs.Union.{IsSound, IsExact}
use Rattle.ucq_terms.proofs.Images.{OccursIn-image}
use Rattle.ucq_terms.proofs.Lists.{All-from_contains, Contains-map, Contains-from_map}
use Rattle.ucq_terms.proofs.Subsets.{OccursIn-atom}
use Rattle.ucq_chase.specs.Names.{IsHeldTerm, IsHeldAtom, AreHeldAtoms, IsHeldQuery}
use Rattle.ucq_chase.proofs.Steps.{OccursIn-known}
use Rattle.ucq_eval.specs.Answers.{constants}
use Rattle.ucq_print.specs.Laws.{ArePrintable, ArePrintableTuples, IsPrintable}
use Rattle.ucq_run.specs.Finished.{AreChaseAnswers}

-- a term of held atoms is held
occurs_held : (count : ℕ) (atoms : List Atom) (t : Term) → AreHeldAtoms count atoms → OccursIn atoms t → IsHeldTerm count t
occurs_held count atoms t h o =
    let (a, i, j) = OccursIn-atom atoms t o in All-contains (IsHeldTerm count) a.terms t (All-contains (IsHeldAtom count) atoms a h i).terms j

-- where the answers of a held query go in held facts
image_held : (count : ℕ) (q : Query) (facts : List Atom) (h : ℕ → Term) → IsHeldQuery count q → AreHeldAtoms count facts → IsSubset (atoms_image h q.atoms) facts →
    All (IsKnownIn q.atoms) q.answers → (s : Term) → Contains q.answers s → IsHeldTerm count (term_image h s)
image_held count q facts h held facts_held into known (Constant c) i = All-contains (IsHeldTerm count) q.answers (Constant c) held.answers i
image_held count q facts h held facts_held into known (Variable v) i =
    occurs_held count facts (h v) facts_held (OccursIn-image h q.atoms facts (Variable v) into (OccursIn-known q.atoms v q.answers known i))

mapped_held : (count : ℕ) (q : Query) (facts : List Atom) (tuple : List Term) → IsHeldQuery count q → AreHeldAtoms count facts → All (IsKnownIn q.atoms) q.answers →
    MapsInto q facts tuple → All (IsHeldTerm count) tuple
mapped_held count q facts tuple held facts_held known m = All-from_contains (IsHeldTerm count) tuple (λ t i.
    let (s, j, e) = Contains-from_map (term_image m.mapping) q.answers t (subst (λ (ts : List Term). Contains ts t) (sym m.homomorphism.answers) i) in
    subst (IsHeldTerm count) e (image_held count q facts m.mapping held facts_held m.homomorphism.atoms known s j))

answer_held : (names : List (List ℕ)) (problem : Problem) (union : List Query) (facts : List Atom) (tuple : List Term) → IsExact problem union → ArePrintable names union →
    AreHeldAtoms (length names) facts → IsChaseAnswer problem facts tuple → All (IsHeldTerm (length names)) tuple
answer_held names problem union facts tuple exact printable facts_held answer =
    let (k, q, l, e, m) = exact.complete.finds facts tuple answer in
    let printed : IsPrintable names q = All-contains (IsPrintable names) union q printable.each (k, l, e) in
    let sound : IsSound problem q = All-contains (IsSound problem) union q exact.sound (k, l, e) in
    mapped_held (length names) q facts tuple printed.held facts_held sound.known m

pub answers_are_held : (names : List (List ℕ)) (problem : Problem) (union : List Query) (facts : List Atom) (tuples : List (List ℕ)) → IsExact problem union → ArePrintable names union →
    AreHeldAtoms (length names) facts → AreChaseAnswers names problem facts tuples → All (All (λ c. c < length names)) tuples
answers_are_held names problem union facts tuples exact printable facts_held chased = All-from_contains (All (λ c. c < length names)) tuples (λ tuple i.
    let held : All (IsHeldTerm (length names)) (constants tuple) =
    answer_held names problem union facts (constants tuple) exact printable facts_held ((chased.each tuple).0 i) in
    All-from_contains (λ c. c < length names) tuple (λ c j. All-contains (IsHeldTerm (length names)) (constants tuple) (Constant c) held (Contains-map Constant tuple c j)))

-- so the answers that were found are printable
pub printed_answers : (names : List (List ℕ)) (problem : Problem) (union : List Query) (facts : List Atom) (tuples : List (List ℕ)) → IsExact problem union →
    ArePrintable names union → AreHeldAtoms (length names) facts → length tuples < 2 ^ 64 → AreChaseAnswers names problem facts tuples →
    AreChaseAnswers names problem facts tuples × ArePrintableTuples names tuples
printed_answers names problem union facts tuples exact printable facts_held few chased =
    (chased, record { held = answers_are_held names problem union facts tuples exact printable facts_held chased; few = few })
