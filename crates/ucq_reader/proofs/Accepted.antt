-- A statement without a refusal has none wherever it stands.
use Rattle.std.proofs.Common.{◌≡◌, ℕ, true, false, Bool, cond, List, [], ◌∷◌, length, Option, Some, None, refl, ap, ◌∙◌, arith}
use Rattle.std.specs.Prelude.{zip}
use Rattle.std.specs.List.{find}
use Rattle.ucq_reader.specs.Statement.{Word, Statement, a_section, a_prefix, a_base, a_top, a_sentence, a_fact, a_rule, a_query, a_constraint, spelling}
use Rattle.ucq_reader.specs.Names.{Declared, is_undeclared}
use Rattle.ucq_reader.specs.Meaning.{Placed, mapped, first_of, unknown_prefix, not_built, passed_limit, limit, first_loose, unsafe_answer, written_atoms, written_answers, statement_fault}
use Rattle.ucq_reader.specs.Gathered.{IsAccepted}

mapped_none : {A B : Type 0} (f : A → B) (o : Option A) → mapped f o ≡ None → o ≡ None
mapped_none f None e = refl
mapped_none f (Some a) e = absurd cc

none_mapped : {A B : Type 0} (f : A → B) (o : Option A) → o ≡ None → mapped f o ≡ None
none_mapped f o e = ap (mapped f) e

first_none : {A : Type 0} (o : Option A) (rest : List (Option A)) → first_of (o ∷ rest) ≡ None → (o ≡ None) × (first_of rest ≡ None)
first_none None rest e = (refl, e)
first_none (Some a) rest e = absurd cc

none_first : {A : Type 0} (o : Option A) (rest : List (Option A)) → o ≡ None → first_of rest ≡ None → first_of (o ∷ rest) ≡ None
none_first o rest e f = ap (λ p. first_of (p ∷ rest)) e ∙ f

-- no word passes the test, whatever stands beside the words
no_word : (test : Word → Bool) (ws : List Word) (places others : List ℕ) → length places ≡ length ws → find (λ (w : Word × ℕ). test w.0) (zip ws places) ≡ None → find (λ (w : Word × ℕ). test w.0) (zip ws others) ≡ None
no_word test [] places others l e = refl
no_word test (w ∷ ws) [] others l e = absurd (omega arith)
no_word test (w ∷ ws) (p ∷ ps) [] l e = refl
no_word test (w ∷ ws) (p ∷ ps) (q ∷ qs) l e = go (test w) e (no_word test ws ps qs (omega arith))
  where
    go : (b : Bool) → cond b (Some (w, p)) (find (λ (v : Word × ℕ). test v.0) (zip ws ps)) ≡ None → (find (λ (v : Word × ℕ). test v.0) (zip ws ps) ≡ None → find (λ (v : Word × ℕ). test v.0) (zip ws qs) ≡ None) → cond b (Some (w, q)) (find (λ (v : Word × ℕ). test v.0) (zip ws qs)) ≡ None
    go true f later = absurd cc
    go false f later = later f

abbrev at : ℕ → ℕ → List ℕ → Declared → Statement → Placed
at file number starts ds s = record { file = file; number = number; starts = starts; before = ds; statement = s }

built_anywhere : (file number file' number' : ℕ) (starts starts' : List ℕ) (ds : Declared) (s : Statement) → not_built (at file number starts ds s) ≡ None → not_built (at file' number' starts' ds s) ≡ None
built_anywhere file number file' number' starts starts' ds (a_section section) e = refl
built_anywhere file number file' number' starts starts' ds (a_prefix name bytes dotted) e = refl
built_anywhere file number file' number' starts starts' ds (a_base bytes dotted) e = absurd cc
built_anywhere file number file' number' starts starts' ds (a_top name dotted) e = absurd cc
built_anywhere file number file' number' starts starts' ds (a_sentence l (a_fact atoms)) e = refl
built_anywhere file number file' number' starts starts' ds (a_sentence l (a_rule head body)) e = refl
built_anywhere file number file' number' starts starts' ds (a_sentence l (a_query answers body)) e = refl
built_anywhere file number file' number' starts starts' ds (a_sentence l (a_constraint body)) e = absurd cc

pub accepted : (file number : ℕ) (starts : List ℕ) (ds : Declared) (s : Statement) → length starts ≡ length (spelling s) → statement_fault (at file number starts ds s) ≡ None → IsAccepted ds s
accepted file number starts ds s l e = λ file' number' starts'.
    let p = at file number starts ds s in
    let q = at file' number' starts' ds s in
    let unknown = first_none (unknown_prefix p) (not_built p ∷ limit p ∷ unsafe_answer p ∷ []) e in
    let built = first_none (not_built p) (limit p ∷ unsafe_answer p ∷ []) unknown.1 in
    let limited = first_none (limit p) (unsafe_answer p ∷ []) built.1 in
    let safe = first_none (unsafe_answer p) [] limited.1 in
    none_first (unknown_prefix q) (not_built q ∷ limit q ∷ unsafe_answer q ∷ []) (none_mapped _ _ (no_word (is_undeclared ds) (spelling s) starts starts' l (mapped_none _ _ unknown.0)))
    (none_first (not_built q) (limit q ∷ unsafe_answer q ∷ []) (built_anywhere file number file' number' starts starts' ds s built.0)
    (none_first (limit q) (unsafe_answer q ∷ []) (none_mapped _ (passed_limit q) (mapped_none _ (passed_limit p) limited.0))
    (none_first (unsafe_answer q) [] (none_mapped _ _ (mapped_none _ (first_loose (written_atoms s) (written_answers s)) safe.0)) refl)))
