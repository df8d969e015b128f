-- What a statement without refusals keeps to.
use Rattle.std.proofs.Common.{◌≡◌, ℕ, ◌+◌, ◌≤◌, ◌<◌, Bool, true, false, cond, not, ◌||◌, ◌≢◌, List, [], ◌∷◌, map, length, nat_lt, Contains, refl, sym, ap, ◌∙◌, subst, arith, inl, inr}
use Rattle.std.specs.Prelude.{Option, Some, None}
use Rattle.std.specs.List.{find, list_any, enumerate_from}
use Rattle.std.specs.Str.{bytes_eq}
use Rattle.std.proofs.lemmas.Bool.{ltb-false}
use Rattle.std.proofs.lemmas.List.{length-map}
use Rattle.ucq_terms.proofs.Equality.{eq_same}
use Rattle.ucq_terms.proofs.Lists.{Contains-first, Contains-rest, Contains-cons_cases, Contains-empty, Contains-map, Contains-from_map, Contains-flat_map, All-from_contains}
use Rattle.ucq_terms.proofs.Texts.{IsEquality-bytes_eq}
use Rattle.ucq_reader.specs.declared.syntax.AtomForm.{AtomForm}
use Rattle.ucq_reader.specs.declared.syntax.Several.{Several as SeveralForm}
use Rattle.ucq_reader.specs.declared.ReadFault.TheVariants.{Limit, Unsafe}
use Rattle.ucq_reader.specs.declared.Which.{Which}
use Rattle.ucq_reader.specs.declared.Which.TheVariants as which
use Rattle.ucq_reader.specs.Statement.{TermSyntax, a_variable, a_name, an_integer, a_text, AtomSyntax, Several, a_constraint, a_sentence, Statement}
use Rattle.ucq_reader.specs.Names.{Declared}
use Rattle.ucq_reader.specs.Meaning.{variable, SymbolAtom, Placed, listed, symbol, symbol_atom, first_of, mapped, first_above, is_variable, has_variable, is_loose}
use Rattle.ucq_reader.specs.Meaning.{unknown_prefix, not_built, limit, passed_limit, first_loose, unsafe_answer, written_atoms, written_answers, limited_atoms, texts_of}
use Rattle.ucq_reader.specs.Input.{terms_in}
use Rattle.ucq_reader.specs.View.{term_view, atom_view, atoms_view}
use Rattle.ucq_reader.specs.Gathered.{IsAccepted}
use Rattle.ucq_reader.specs.Building.{HasFewTerms, HaveFewTerms, IsSafeQuery}

-- four that are no refusals
none_of_four : {A : Type 0} (a b c d : Option A) → first_of (a ∷ b ∷ c ∷ d ∷ []) ≡ None → (a ≡ None) × (b ≡ None) × (c ≡ None) × (d ≡ None)
none_of_four None None None None h = (refl, refl, refl, refl)
none_of_four None None None (Some x) h = absurd cc
none_of_four None None (Some x) d h = absurd cc
none_of_four None (Some x) c d h = absurd cc
none_of_four (Some x) b c d h = absurd cc

mapped_none : {A B : Type 0} (f : A → B) (o : Option A) → mapped f o ≡ None → o ≡ None
mapped_none f None h = refl
mapped_none f (Some a) h = absurd cc

find_none : {A : Type 0} (p : A → Bool) (xs : List A) → find p xs ≡ None → (x : A) → Contains xs x → p x ≡ false
find_none p [] h x i = absurd (Contains-empty x i)
find_none p (y ∷ ys) h x i = go (λ k j. find_none p ys k x j) (p y) refl h
  where
    go : (find p ys ≡ None → Contains ys x → p x ≡ false) → (b : Bool) → p y ≡ b → cond b (Some y) (find p ys) ≡ None → p x ≡ false
    go r true e k = absurd cc
    go r false e k = elim (Contains-cons_cases y ys x i) [ inl f ↦ ap p (sym f) ∙ e | inr j ↦ r k j ]

pub within_limit : (most : ℕ) (counts : List ℕ) → first_above most counts ≡ None → (n : ℕ) → Contains counts n → n ≤ most
within_limit most counts h n i = ltb-false most n (find_none (λ k. nat_lt most k) counts h n i)

any_member : {A : Type 0} (p : A → Bool) (xs : List A) → list_any p xs ≡ true → (x : A) × Contains xs x × (p x ≡ true)
any_member p [] h = absurd cc
any_member {A} p (y ∷ ys) h = go (λ k. any_member p ys k) (p y) refl h
  where
    go : (list_any p ys ≡ true → (x : A) × Contains ys x × (p x ≡ true)) → (b : Bool) → p y ≡ b → (b || list_any p ys) ≡ true → (x : A) × Contains (y ∷ ys) x × (p x ≡ true)
    go r true e k = (y, Contains-first y ys, e)
    go r false e k = let (x, i, f) = r k in (x, Contains-rest y ys x i, f)

enumerated : {A : Type 0} (n : ℕ) (xs : List A) (x : A) → Contains xs x → (k : ℕ) × Contains (enumerate_from n xs) (k, x)
enumerated n [] x i = absurd (Contains-empty x i)
enumerated {A} n (y ∷ ys) x i = elim (Contains-cons_cases y ys x i) [
  | inl e ↦ (n, subst (λ z. Contains {X = ℕ × A} ((n, y) ∷ enumerate_from (n + 1) ys) (n, z)) e (Contains-first {X = ℕ × A} (n, y) (enumerate_from (n + 1) ys)))
  | inr j ↦ let (k, h) = enumerated (n + 1) ys x j in (k, Contains-rest {X = ℕ × A} (n, y) (enumerate_from (n + 1) ys) (k, x) h)
]

-- ---- the limits

-- what a statement keeps that is built and keeps the limits
pub record KeepsLimits (s : Statement) : Type 0 where
  pub built : (l : Option (List ℕ)) (body : Several AtomSyntax) → s ≢ a_sentence l (a_constraint body)
  pub arity : (a : AtomSyntax) → Contains (written_atoms s) a → length (listed a.terms) ≤ 16
  pub answers : length (written_answers s) ≤ 16
  pub atoms : (atoms : List AtomSyntax) → Contains (limited_atoms s) atoms → length atoms ≤ 32
  pub safe : (t : TermSyntax) → Contains (written_answers s) t → is_loose (written_atoms s) t ≡ false

-- the statement, in some place
abbrev here : Declared → Statement → Placed
here ds s = record { file = 0; number = 0; starts = []; before = ds; statement = s }

pub accepted_limits : (ds : Declared) (s : Statement) → IsAccepted ds s → KeepsLimits s
accepted_limits ds s accepted =
    let p = here ds s in
    let counts : AtomSyntax → ℕ = λ (a : AtomSyntax). length (listed a.terms) in
    let none = none_of_four (unknown_prefix p) (not_built p) (limit p) (unsafe_answer p) (accepted 0 0 []) in
    let names = first_above 1024 (map length (texts_of p)) in
    let arities = first_above 16 (map counts (written_atoms s)) in
    let answers = first_above 16 (length (written_answers s) ∷ []) in
    let atoms = first_above 32 (map length (limited_atoms s)) in
    let passed = mapped_none (λ (passed : Which × ℕ). Limit 0 0 passed.0 passed.1) (passed_limit p) none.2 in
    let limits = none_of_four (mapped (λ (n : ℕ). (which.Name, n)) names) (mapped (λ (n : ℕ). (which.Arity, n)) arities) (mapped (λ (n : ℕ). (which.Answers, n)) answers) (mapped (λ (n : ℕ). (which.Atoms, n)) atoms) passed in
    let loose = find (λ (a : ℕ × TermSyntax). is_loose (written_atoms s) a.1) (enumerate_from 0 (written_answers s)) in
    record {
      built = λ l body e. let none : not_built (here ds (a_sentence l (a_constraint body))) ≡ None = subst (λ t. not_built (here ds t) ≡ None) e none.1 in absurd cc;
      arity = λ a i.
          within_limit 16 (map counts (written_atoms s)) (mapped_none (λ (n : ℕ). (which.Arity, n)) arities limits.1) (counts a) (Contains-map counts (written_atoms s) a i);
      answers = within_limit 16 (length (written_answers s) ∷ []) (mapped_none (λ (n : ℕ). (which.Answers, n)) answers limits.2) (length (written_answers s)) (Contains-first (length (written_answers s)) []);
      atoms = λ xs i. within_limit 32 (map length (limited_atoms s)) (mapped_none (λ (n : ℕ). (which.Atoms, n)) atoms limits.3) (length xs) (Contains-map length (limited_atoms s) xs i);
      safe = λ t i.
          let (k, j) = enumerated 0 (written_answers s) t i in
          find_none (λ (a : ℕ × TermSyntax). is_loose (written_atoms s) a.1) (enumerate_from 0 (written_answers s)) (mapped_none (λ (a : ℕ × TermSyntax). a.0) loose (mapped_none (λ (n : ℕ). Unsafe 0 0 n) (first_loose (written_atoms s) (written_answers s)) none.3)) (k, t) j;
    }

-- ---- lists of atoms as the code holds them

-- the lengths of a list and of what is seen of it
pub few_atoms : (text : List ℕ) (forms : SeveralForm AtomForm) → length (listed (atoms_view text forms)) ≤ 32 → length forms.others.items < 32
few_atoms text forms l = omega (arith, length-map forms.others.items (atom_view text))

few_terms : (text : List ℕ) (form : AtomForm) → length (listed (atom_view text form).terms) ≤ 16 → HasFewTerms form
few_terms text form l = omega (arith, length-map form.terms.others.items (term_view text))

pub have_few_terms : (text : List ℕ) (forms : SeveralForm AtomForm) → ((a : AtomSyntax) → Contains (listed (atoms_view text forms)) a → length (listed a.terms) ≤ 16) → HaveFewTerms forms
have_few_terms text forms h = (
  few_terms text forms.first (h (atom_view text forms.first) (Contains-first (atom_view text forms.first) (map (atom_view text) forms.others.items))),
  All-from_contains HasFewTerms forms.others.items
      (λ form i. few_terms text form (h (atom_view text form) (Contains-rest (atom_view text forms.first) (map (atom_view text) forms.others.items) (atom_view text form) (Contains-map (atom_view text) forms.others.items form i)))),
)

-- ---- safe queries

-- a variable's symbol is that of no other term
only_variable : (ds : Declared) (t : TermSyntax) (x : List ℕ) → symbol ds t ≡ variable x → t ≡ a_variable x
only_variable ds (a_variable y) x e = let f : y ≡ x = cc in ap a_variable f
only_variable ds (a_name n) x e = absurd cc
only_variable ds (an_integer y) x e = absurd cc
only_variable ds (a_text y) x e = absurd cc

is_variable_term : (x : List ℕ) (t : TermSyntax) → is_variable x t ≡ true → t ≡ a_variable x
is_variable_term x (a_variable y) e = ap a_variable (sym (eq_same bytes_eq IsEquality-bytes_eq x y e))
is_variable_term x (a_name n) e = absurd cc
is_variable_term x (an_integer y) e = absurd cc
is_variable_term x (a_text y) e = absurd cc

not_false : (b : Bool) → not b ≡ false → b ≡ true
not_false true h = refl
not_false false h = absurd cc

-- a variable that isn't loose stands in an atom
stands_there : (ds : Declared) (atoms : List AtomSyntax) (x : List ℕ) → list_any (has_variable x) atoms ≡ true → Contains (terms_in (map (symbol_atom ds) atoms)) (variable x)
stands_there ds atoms x h =
    let (a, i, f) = any_member (has_variable x) atoms h in
    let (t, j, g) = any_member (is_variable x) (listed a.terms) f in
    Contains-flat_map (λ (b : SymbolAtom). b.terms) (map (symbol_atom ds) atoms) (symbol_atom ds a) (variable x) (Contains-map (symbol_atom ds) atoms a i)
    (subst (λ s. Contains (map (symbol ds) (listed a.terms)) s) (ap (symbol ds) (is_variable_term x t g)) (Contains-map (symbol ds) (listed a.terms) t j))

pub safe_query : (ds : Declared) (answers : List TermSyntax) (atoms : List AtomSyntax) → ((t : TermSyntax) → Contains answers t → is_loose atoms t ≡ false) →
    IsSafeQuery (record { answers = map (symbol ds) answers; atoms = map (symbol_atom ds) atoms })
safe_query ds answers atoms h = record {
  stands = λ x i.
      let (t, j, e) = Contains-from_map (symbol ds) answers (variable x) i in
      let found : is_loose atoms (a_variable x) ≡ false = subst (λ s. is_loose atoms s ≡ false) (only_variable ds t x e) (h t j) in
      stands_there ds atoms x (not_false (list_any (has_variable x) atoms) found);
}
