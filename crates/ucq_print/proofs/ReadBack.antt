-- A text is read back: what two equal texts print is one.
use Rattle.std.proofs.Common.{◌≡◌, ◌≢◌, ℕ, zero, suc, ◌<◌, ◌^◌, List, [], ◌∷◌, ◌++◌, length, refl, sym, ap, ap₂, ◌∙◌, append_assoc, arith, inl, inr, All}
use Rattle.std.specs.Prelude.{codes, decimal}
use Rattle.std.specs.List.{flat_map}
use Rattle.std.proofs.lemmas.Bool.{cases_order}
use Rattle.ucq_terms.specs.declared.Term.{Term}
use Rattle.ucq_terms.specs.declared.Term.TheVariants.{Constant, Variable}
use Rattle.ucq_terms.specs.Syntax.{Atom, Query}
use Rattle.ucq_terms.proofs.Pairwise.{AllPairs-at}
use Rattle.ucq_terms.specs.Names.{name_text}
use Rattle.ucq_eval.specs.Tuples.{joined}
use Rattle.ucq_print.specs.Texts.{term_text, terms_text, atom_text, answers_text, numbered_text}
use Rattle.ucq_print.specs.Laws.{IsNameText, AreReadableNames}
use Rattle.ucq_print.proofs.Spelled.{AreOne, Stops, heads_differ, tails, open_stops, close_stops, comma_stops, names_apart, begins_otherwise, decimals_apart}

-- what holds of each element, at the first and at the rest
first_of : {X : Type 0} (P : X → Type 0) (x : X) (xs : List X) → All P (x ∷ xs) → P x
first_of P x xs h = h zero x (omega arith)

rest_of : {X : Type 0} (P : X → Type 0) (x : X) (xs : List X) → All P (x ∷ xs) → All P xs
rest_of P x xs h = λ k d l. h (suc k) d (omega (arith, l))

-- a term that is printed: a constant has a name, and a variable's number is small
abbrev pub IsPrintedTerm : List (List ℕ) → Term → Type 0
IsPrintedTerm names (Constant c) = c < length names
IsPrintedTerm names (Variable v) = v < 2 ^ 64

pub record IsPrintedAtom (names : List (List ℕ)) (a : Atom) : Type 0 where
  pub name : a.name < length names
  pub terms : All (IsPrintedTerm names) a.terms

pub record IsPrinted (names : List (List ℕ)) (q : Query) : Type 0 where
  pub answers : All (IsPrintedTerm names) q.answers
  pub atoms : All (IsPrintedAtom names) q.atoms

module _ (names : List (List ℕ)) (readable : AreReadableNames names) where
  spelled : (n : ℕ) → n < length names → IsNameText (name_text names n)
  spelled n h = readable.spelled n [] h

  -- names by their numbers
  number_apart : (m n : ℕ) (x y : List ℕ) → m < length names → n < length names → Stops x → Stops y → name_text names m ++ x ≡ name_text names n ++ y → AreOne m n x y
  number_apart m n x y h k i j e =
      let one = names_apart (name_text names m) (name_text names n) x y (spelled m h) (spelled n k) i j e in
      record { front = same one.front; rest = one.rest }
    where
      differ : m ≢ n → name_text names m ≡ name_text names n → ⊥
      differ other f = AllPairs-at (λ (a b : List ℕ). a ≢ b) names m n [] (λ a b g. λ f. g (sym f)) readable.different h k other f

      same : name_text names m ≡ name_text names n → m ≡ n
      same f = elim (cases_order m n) [
        | inl g ↦ g
        | inr (inl g) ↦ absurd (differ (λ q. omega arith) f)
        | inr (inr g) ↦ absurd (differ (λ q. omega arith) f)
      ]

  -- terms
  constant_is_no_variable : (c v : ℕ) (x y : List ℕ) → c < length names → name_text names c ++ x ≡ (88 ∷ decimal v) ++ y → ⊥
  constant_is_no_variable c v x y h e = begins_otherwise 88 (name_text names c) x (decimal v ++ y) refl (spelled c h) e

  term_apart : (t u : Term) (x y : List ℕ) → IsPrintedTerm names t → IsPrintedTerm names u → Stops x → Stops y → term_text names t ++ x ≡ term_text names u ++ y → AreOne t u x y
  term_apart (Constant c) (Constant d) x y h k i j e =
      let one = number_apart c d x y h k i j e in record { front = ap Constant one.front; rest = one.rest }
  term_apart (Constant c) (Variable v) x y h k i j e = absurd (constant_is_no_variable c v x y h e)
  term_apart (Variable v) (Constant c) x y h k i j e = absurd (constant_is_no_variable c v y x k (sym e))
  term_apart (Variable v) (Variable w) x y h k i j e =
      let numbers : decimal v ++ i.byte ∷ i.after ≡ decimal w ++ j.byte ∷ j.after = ap (λ l. decimal v ++ l) (sym i.is) ∙ (tails e ∙ ap (λ l. decimal w ++ l) j.is) in
      let one = decimals_apart v w i.byte j.byte i.after j.after h k i.stop.digit j.stop.digit numbers in
      record { front = ap Variable one.front; rest = i.is ∙ (one.rest ∙ sym j.is) }

  term_is_no_close : (t : Term) (x y : List ℕ) → IsPrintedTerm names t → term_text names t ++ x ≡ 41 ∷ y → ⊥
  term_is_no_close (Constant c) x y h e = begins_otherwise 41 (name_text names c) x y refl (spelled c h) e
  term_is_no_close (Variable v) x y h e = heads_differ 88 41 (decimal v ++ x) y (λ f. omega arith) e

  -- further terms, up to the closing parenthesis
  abbrev more : List Term → List ℕ
  more ts = flat_map (λ (t : Term). codes "," ++ term_text names t) ts

  more_stops : (ts : List Term) (x : List ℕ) → Stops (more ts ++ 41 ∷ x)
  more_stops [] x = record { byte = 41; after = x; stop = close_stops; is = refl }
  more_stops (t ∷ ts) x = record { byte = 44; after = (term_text names t ++ more ts) ++ 41 ∷ x; stop = comma_stops; is = refl }

  more_apart : (ts us : List Term) (x y : List ℕ) → All (IsPrintedTerm names) ts → All (IsPrintedTerm names) us → more ts ++ 41 ∷ x ≡ more us ++ 41 ∷ y → AreOne ts us x y
  more_apart [] [] x y h k e = record { front = refl; rest = tails e }
  more_apart [] (u ∷ us) x y h k e = absurd (heads_differ 41 44 x ((term_text names u ++ more us) ++ 41 ∷ y) (λ f. omega arith) e)
  more_apart (t ∷ ts) [] x y h k e = absurd (heads_differ 44 41 ((term_text names t ++ more ts) ++ 41 ∷ x) y (λ f. omega arith) e)
  more_apart (t ∷ ts) (u ∷ us) x y h k e =
      let whole : term_text names t ++ (more ts ++ 41 ∷ x) ≡ term_text names u ++ (more us ++ 41 ∷ y) =
      sym (append_assoc (term_text names t) (more ts) (41 ∷ x)) ∙ (tails e ∙ append_assoc (term_text names u) (more us) (41 ∷ y)) in
      let one = term_apart t u (more ts ++ 41 ∷ x) (more us ++ 41 ∷ y) (first_of (IsPrintedTerm names) t ts h) (first_of (IsPrintedTerm names) u us k) (more_stops ts x) (more_stops us y) whole in
      let others = more_apart ts us x y (rest_of (IsPrintedTerm names) t ts h) (rest_of (IsPrintedTerm names) u us k) one.rest in
      record { front = ap₂ (λ (a : Term) (b : List Term). a ∷ b) one.front others.front; rest = others.rest }

  abbrev inside : List Term → List ℕ
  inside ts = joined (codes ",") (term_text names) ts

  inside_apart : (ts us : List Term) (x y : List ℕ) → All (IsPrintedTerm names) ts → All (IsPrintedTerm names) us → inside ts ++ 41 ∷ x ≡ inside us ++ 41 ∷ y → AreOne ts us x y
  inside_apart [] [] x y h k e = record { front = refl; rest = tails e }
  inside_apart [] (u ∷ us) x y h k e =
      absurd (term_is_no_close u (more us ++ 41 ∷ y) x (first_of (IsPrintedTerm names) u us k) (sym (append_assoc (term_text names u) (more us) (41 ∷ y)) ∙ sym e))
  inside_apart (t ∷ ts) [] x y h k e =
      absurd (term_is_no_close t (more ts ++ 41 ∷ x) y (first_of (IsPrintedTerm names) t ts h) (sym (append_assoc (term_text names t) (more ts) (41 ∷ x)) ∙ e))
  inside_apart (t ∷ ts) (u ∷ us) x y h k e =
      let whole : term_text names t ++ (more ts ++ 41 ∷ x) ≡ term_text names u ++ (more us ++ 41 ∷ y) =
      sym (append_assoc (term_text names t) (more ts) (41 ∷ x)) ∙ (e ∙ append_assoc (term_text names u) (more us) (41 ∷ y)) in
      let one = term_apart t u (more ts ++ 41 ∷ x) (more us ++ 41 ∷ y) (first_of (IsPrintedTerm names) t ts h) (first_of (IsPrintedTerm names) u us k) (more_stops ts x) (more_stops us y) whole in
      let others = more_apart ts us x y (rest_of (IsPrintedTerm names) t ts h) (rest_of (IsPrintedTerm names) u us k) one.rest in
      record { front = ap₂ (λ (a : Term) (b : List Term). a ∷ b) one.front others.front; rest = others.rest }

  terms_shape : (ts : List Term) (x : List ℕ) → terms_text names ts ++ x ≡ 40 ∷ (inside ts ++ 41 ∷ x)
  terms_shape ts x = append_assoc (40 ∷ inside ts) (41 ∷ []) x

  pub terms_apart : (ts us : List Term) (x y : List ℕ) → All (IsPrintedTerm names) ts → All (IsPrintedTerm names) us → terms_text names ts ++ x ≡ terms_text names us ++ y → AreOne ts us x y
  terms_apart ts us x y h k e = inside_apart ts us x y h k (tails (sym (terms_shape ts x) ∙ (e ∙ terms_shape us y)))

  -- atoms
  atom_apart : (a b : Atom) (x y : List ℕ) → IsPrintedAtom names a → IsPrintedAtom names b → atom_text names a ++ x ≡ atom_text names b ++ y → AreOne a b x y
  atom_apart a b x y h k e =
      let whole : name_text names a.name ++ (terms_text names a.terms ++ x) ≡ name_text names b.name ++ (terms_text names b.terms ++ y) =
      sym (append_assoc (name_text names a.name) (terms_text names a.terms) x) ∙ (e ∙ append_assoc (name_text names b.name) (terms_text names b.terms) y) in
      let one = number_apart a.name b.name (terms_text names a.terms ++ x) (terms_text names b.terms ++ y) h.name k.name (stops a x) (stops b y) whole in
      let terms = terms_apart a.terms b.terms x y h.terms k.terms one.rest in
      record { front = ap₂ (λ (n : ℕ) (ts : List Term). let atom : Atom = record { name = n; terms = ts } in atom) one.front terms.front; rest = terms.rest }
    where
      stops : (c : Atom) (z : List ℕ) → Stops (terms_text names c.terms ++ z)
      stops c z = record { byte = 40; after = inside c.terms ++ 41 ∷ z; stop = open_stops; is = terms_shape c.terms z }

  abbrev more_atoms : List Atom → List ℕ
  more_atoms atoms = flat_map (λ (a : Atom). codes ", " ++ atom_text names a) atoms

  more_atoms_apart : (ps qs : List Atom) (x y : List ℕ) → All (IsPrintedAtom names) ps → All (IsPrintedAtom names) qs → more_atoms ps ++ 46 ∷ x ≡ more_atoms qs ++ 46 ∷ y → AreOne ps qs x y
  more_atoms_apart [] [] x y h k e = record { front = refl; rest = tails e }
  more_atoms_apart [] (q ∷ qs) x y h k e = absurd (heads_differ 46 44 x (32 ∷ ((atom_text names q ++ more_atoms qs) ++ 46 ∷ y)) (λ f. omega arith) e)
  more_atoms_apart (p ∷ ps) [] x y h k e = absurd (heads_differ 44 46 (32 ∷ ((atom_text names p ++ more_atoms ps) ++ 46 ∷ x)) y (λ f. omega arith) e)
  more_atoms_apart (p ∷ ps) (q ∷ qs) x y h k e =
      let whole : atom_text names p ++ (more_atoms ps ++ 46 ∷ x) ≡ atom_text names q ++ (more_atoms qs ++ 46 ∷ y) =
      sym (append_assoc (atom_text names p) (more_atoms ps) (46 ∷ x)) ∙ (tails (tails e) ∙ append_assoc (atom_text names q) (more_atoms qs) (46 ∷ y)) in
      let one = atom_apart p q (more_atoms ps ++ 46 ∷ x) (more_atoms qs ++ 46 ∷ y) (first_of (IsPrintedAtom names) p ps h) (first_of (IsPrintedAtom names) q qs k) whole in
      let others = more_atoms_apart ps qs x y (rest_of (IsPrintedAtom names) p ps h) (rest_of (IsPrintedAtom names) q qs k) one.rest in
      record { front = ap₂ (λ (a : Atom) (b : List Atom). a ∷ b) one.front others.front; rest = others.rest }

  abbrev body : List Atom → List ℕ
  body atoms = joined (codes ", ") (atom_text names) atoms

  atom_is_no_dot : (a : Atom) (x y : List ℕ) → IsPrintedAtom names a → atom_text names a ++ x ≡ 46 ∷ y → ⊥
  atom_is_no_dot a x y h e =
      begins_otherwise 46 (name_text names a.name) (terms_text names a.terms ++ x) y refl (spelled a.name h.name) (sym (append_assoc (name_text names a.name) (terms_text names a.terms) x) ∙ e)

  body_apart : (ps qs : List Atom) (x y : List ℕ) → All (IsPrintedAtom names) ps → All (IsPrintedAtom names) qs → body ps ++ 46 ∷ x ≡ body qs ++ 46 ∷ y → AreOne ps qs x y
  body_apart [] [] x y h k e = record { front = refl; rest = tails e }
  body_apart [] (q ∷ qs) x y h k e =
      absurd (atom_is_no_dot q (more_atoms qs ++ 46 ∷ y) x (first_of (IsPrintedAtom names) q qs k) (sym (append_assoc (atom_text names q) (more_atoms qs) (46 ∷ y)) ∙ sym e))
  body_apart (p ∷ ps) [] x y h k e =
      absurd (atom_is_no_dot p (more_atoms ps ++ 46 ∷ x) y (first_of (IsPrintedAtom names) p ps h) (sym (append_assoc (atom_text names p) (more_atoms ps) (46 ∷ x)) ∙ e))
  body_apart (p ∷ ps) (q ∷ qs) x y h k e =
      let whole : atom_text names p ++ (more_atoms ps ++ 46 ∷ x) ≡ atom_text names q ++ (more_atoms qs ++ 46 ∷ y) =
      sym (append_assoc (atom_text names p) (more_atoms ps) (46 ∷ x)) ∙ (e ∙ append_assoc (atom_text names q) (more_atoms qs) (46 ∷ y)) in
      let one = atom_apart p q (more_atoms ps ++ 46 ∷ x) (more_atoms qs ++ 46 ∷ y) (first_of (IsPrintedAtom names) p ps h) (first_of (IsPrintedAtom names) q qs k) whole in
      let others = more_atoms_apart ps qs x y (rest_of (IsPrintedAtom names) p ps h) (rest_of (IsPrintedAtom names) q qs k) one.rest in
      record { front = ap₂ (λ (a : Atom) (b : List Atom). a ∷ b) one.front others.front; rest = others.rest }

  -- answer lists before the arrow
  answers_apart : (ts us : List Term) (x y : List ℕ) → All (IsPrintedTerm names) ts → All (IsPrintedTerm names) us → answers_text names ts ++ 32 ∷ x ≡ answers_text names us ++ 32 ∷ y → AreOne ts us x y
  answers_apart [] [] x y h k e = record { front = refl; rest = tails e }
  answers_apart [] (u ∷ us) x y h k e = absurd (heads_differ 32 40 x (inside (u ∷ us) ++ 41 ∷ (32 ∷ y)) (λ f. omega arith) (e ∙ terms_shape (u ∷ us) (32 ∷ y)))
  answers_apart (t ∷ ts) [] x y h k e = absurd (heads_differ 32 40 y (inside (t ∷ ts) ++ 41 ∷ (32 ∷ x)) (λ f. omega arith) (sym e ∙ terms_shape (t ∷ ts) (32 ∷ x)))
  answers_apart (t ∷ ts) (u ∷ us) x y h k e =
      let one = terms_apart (t ∷ ts) (u ∷ us) (32 ∷ x) (32 ∷ y) h k e in record { front = one.front; rest = tails one.rest }

  regroup : (a b c d e x : List ℕ) → ((((a ++ b) ++ c) ++ d) ++ e) ++ x ≡ a ++ (b ++ (c ++ (d ++ (e ++ x))))
  regroup a b c d e x = simp append_assoc

  numbered_shape : (q : Query) (x : List ℕ) → numbered_text names q ++ x ≡ 63 ∷ (answers_text names q.answers ++ 32 ∷ (58 ∷ (45 ∷ (32 ∷ (body q.atoms ++ 46 ∷ x)))))
  numbered_shape q x = regroup (63 ∷ []) (answers_text names q.answers) (32 ∷ 58 ∷ 45 ∷ 32 ∷ []) (body q.atoms) (46 ∷ []) x

  pub numbered_apart : (p q : Query) (x y : List ℕ) → IsPrinted names p → IsPrinted names q → numbered_text names p ++ x ≡ numbered_text names q ++ y → AreOne p q x y
  numbered_apart p q x y h k e =
      let whole = tails (sym (numbered_shape p x) ∙ (e ∙ numbered_shape q y)) in
      let answers = answers_apart p.answers q.answers (58 ∷ (45 ∷ (32 ∷ (body p.atoms ++ 46 ∷ x)))) (58 ∷ (45 ∷ (32 ∷ (body q.atoms ++ 46 ∷ y)))) h.answers k.answers whole in
      let atoms = body_apart p.atoms q.atoms x y h.atoms k.atoms (tails (tails (tails answers.rest))) in
      record { front = ap₂ (λ (ts : List Term) (b : List Atom). let query : Query = record { answers = ts; atoms = b } in query) answers.front atoms.front; rest = atoms.rest }
