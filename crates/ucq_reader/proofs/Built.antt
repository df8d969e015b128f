-- Texts that get numbers one after another, and the terms and atoms that are built with them.
use Rattle.std.proofs.Common.{◌≡◌, ◌≢◌, ℕ, ◌+◌, ◌<◌, ◌≤◌, List, [], ◌∷◌, ◌++◌, map, length, take, drop, get_or, refl, sym, ap, ap₂, ◌∙◌, subst, arith, append_assoc, Contains}
use Rattle.std.specs.Str.{bytes_eq}
use Rattle.std.proofs.lemmas.List.{append-nil, length-map, map-append, take_more, length-take-le, take-append-drop, length-append}
use Rattle.std.proofs.lemmas.List.Elements.{filter_map-append}
use Rattle.ucq_terms.specs.declared.Term.{Term}
use Rattle.ucq_terms.specs.declared.Term.TheVariants.{Constant, Variable}
use Rattle.ucq_terms.specs.Syntax.{Atom}
use Rattle.ucq_terms.specs.Names.{with_name}
use Rattle.ucq_terms.proofs.Numbering.{with_elements-append, with_elements_keep, length-with_elements, position_keeps, any_from_contains, Contains-with_element}
use Rattle.ucq_terms.proofs.Texts.{IsEquality-bytes_eq}
use Rattle.ucq_terms.proofs.Decide.{atom_path}
use Rattle.ucq_terms.proofs.Lists.{map-map}
use Rattle.ucq_lexer.specs.declared.Token.{Token}
use Rattle.ucq_lexer.specs.declared.Kind.{Kind}
use Rattle.ucq_lexer.specs.declared.Kind.TheVariants.{Variable as VariableToken, Identifier, Prefixed}
use Rattle.ucq_reader.specs.declared.building.Numbers.{Numbers}
use Rattle.ucq_reader.specs.Names.{Declared, number, name_text, expanded}
use Rattle.ucq_reader.specs.declared.names.Declaration.{Declaration}
use Rattle.ucq_reader.specs.declared.syntax.AtomForm.{AtomForm}
use Rattle.ucq_reader.specs.declared.syntax.Several.{Several as SeveralForm}
use Rattle.ucq_reader.specs.View.{name_by, term_by, name_view, term_view, atom_view, atoms_view, declared_view}
use Rattle.ucq_reader.specs.Meaning.{Symbol, constant, variable, SymbolAtom, symbol, symbol_atom, symbol_atoms}
use Rattle.ucq_reader.specs.Input.{variable_text, term_value, atom_value}
use Rattle.ucq_reader.specs.Building.{token_symbol, form_atom, constant_text, constants_of, variables_of, atom_symbols, symbols_in, with_names, HasRoom, HasNumbered, place_in}
use Rattle.ucq_reader.specs.Building.{IsNumberOf, IsTermOf, AddsTerms, IsAtomOf, AddsAtoms}

-- a text that was added keeps its number
pub number_lasts : (names now : List (List ℕ)) (text : List ℕ) (n : ℕ) → now ≡ with_name names text → n ≡ number now text → IsNumberOf now text n
number_lasts names now text n grown is = record {
  value = λ more. is ∙ sym (position_keeps bytes_eq now more text
      (any_from_contains bytes_eq IsEquality-bytes_eq now text (subst (λ l. Contains l text) (sym grown) (Contains-with_element bytes_eq IsEquality-bytes_eq names text))));
}

pub variable_lasts : (variables : List (List ℕ)) (new : Numbers) (text : List ℕ) (place : ℕ) → new.variables ≡ with_name variables text → place ≡ number new.variables text → IsTermOf new (variable text) (Variable (new.first + place))
variable_lasts variables new text place grown is =
    let lasting = number_lasts variables new.variables text place grown is in
    record { value = λ names more. ap (λ k. Variable (new.first + k)) (lasting.value more) }

pub constant_lasts : (new : Numbers) (text : List ℕ) (n : ℕ) → IsNumberOf new.names text n → IsTermOf new (constant text) (Constant n)
constant_lasts new text n lasting = record { value = λ names variables. ap Constant (lasting.value names) }

-- ---- tables that grow

pub numbered_none : (n : Numbers) → HasNumbered n n []
numbered_none n = record { names = refl; variables = refl; first = refl }

pub numbered_append : (a b c : Numbers) (xs ys : List Symbol) → HasNumbered a b xs → HasNumbered b c ys → HasNumbered a c (xs ++ ys)
numbered_append a b c xs ys h k = record {
  names =
      k.names ∙ (ap (λ l. with_names l (constants_of ys)) h.names ∙
      (sym (with_elements-append bytes_eq a.names (constants_of xs) (constants_of ys)) ∙ ap (with_names a.names) (sym (filter_map-append constant_text xs ys))));
  variables =
      k.variables ∙ (ap (λ l. with_names l (variables_of ys)) h.variables ∙
      (sym (with_elements-append bytes_eq a.variables (variables_of xs) (variables_of ys)) ∙ ap (with_names a.variables) (sym (filter_map-append variable_text xs ys))));
  first = k.first ∙ h.first;
}

pub length-constants : (symbols : List Symbol) → length (constants_of symbols) ≤ length symbols
length-constants [] = omega arith
length-constants (constant text ∷ rest) = omega (arith, length-constants rest)
length-constants (variable text ∷ rest) = omega (arith, length-constants rest)

pub length-variables : (symbols : List Symbol) → length (variables_of symbols) ≤ length symbols
length-variables [] = omega arith
length-variables (constant text ∷ rest) = omega (arith, length-variables rest)
length-variables (variable text ∷ rest) = omega (arith, length-variables rest)

-- how far they grow
pub record HasGrown (old new : Numbers) (count : ℕ) : Type 0 where
  pub names : length new.names ≤ length old.names + count
  pub variables : length new.variables ≤ length old.variables + count

pub numbered_grown : (old new : Numbers) (symbols : List Symbol) → HasNumbered old new symbols → HasGrown old new (length symbols)
numbered_grown old new symbols h = record {
  names = omega (arith, ap length h.names, length-with_elements bytes_eq old.names (constants_of symbols), length-constants symbols);
  variables = omega (arith, ap length h.variables, length-with_elements bytes_eq old.variables (variables_of symbols), length-variables symbols);
}

pub room_within : (n : Numbers) (few many : ℕ) → few ≤ many → HasRoom n many → HasRoom n few
room_within n few many l r = record { names = omega (arith, r.names); variables = omega (arith, r.variables) }

pub room_left : (old new : Numbers) (symbols : List Symbol) (rest many : ℕ) → HasNumbered old new symbols → length symbols + rest ≤ many → HasRoom old many → HasRoom new rest
room_left old new symbols rest many h l r =
    let g = numbered_grown old new symbols h in
    record { names = omega (arith, r.names, g.names); variables = omega (arith, r.variables, g.variables, h.first) }

-- the tables' further texts are those that come later
pub record HasMore (old new : Numbers) : Type 0 where
  pub names : List (List ℕ)
  pub variables : List (List ℕ)
  pub names_are : new.names ≡ old.names ++ names
  pub variables_are : new.variables ≡ old.variables ++ variables
  pub first : new.first ≡ old.first

pub numbered_more : (old new : Numbers) (symbols : List Symbol) → HasNumbered old new symbols → HasMore old new
numbered_more old new symbols h =
    let (names, e) = with_elements_keep bytes_eq old.names (constants_of symbols) in
    let (variables, f) = with_elements_keep bytes_eq old.variables (variables_of symbols) in
    record { names = names; variables = variables; names_are = h.names ∙ e; variables_are = h.variables ∙ f; first = h.first }

-- what holds of all further texts holds of those after the later ones
pub later_value : {A : Type 0} (f : List (List ℕ) → ℕ → List (List ℕ) → A) (x : A) (old new : Numbers) → HasMore old new →
    ((names variables : List (List ℕ)) → x ≡ f (old.names ++ names) old.first (old.variables ++ variables)) →
    (names variables : List (List ℕ)) → x ≡ f (new.names ++ names) new.first (new.variables ++ variables)
later_value f x old new m h names variables =
    h (m.names ++ names) (m.variables ++ variables) ∙
    (ap₂ (λ ns vs. f ns old.first vs)
    (sym (ap (λ l. l ++ names) m.names_are ∙ append_assoc old.names m.names names))
    (sym (ap (λ l. l ++ variables) m.variables_are ∙ append_assoc old.variables m.variables variables)) ∙
    ap (λ k. f (new.names ++ names) k (new.variables ++ variables)) (sym m.first))

pub number_later : (old new : Numbers) (symbols : List Symbol) (text : List ℕ) (n : ℕ) → HasNumbered old new symbols → IsNumberOf old.names text n → IsNumberOf new.names text n
number_later old new symbols text n h is =
    let m = numbered_more old new symbols h in
    record { value = λ more. is.value (m.names ++ more) ∙ ap (λ l. number l text) (sym (ap (λ l. l ++ more) m.names_are ∙ append_assoc old.names m.names more)) }

pub term_later : (old new : Numbers) (symbols : List Symbol) (s : Symbol) (t : Term) → HasNumbered old new symbols → IsTermOf old s t → IsTermOf new s t
term_later old new symbols s t h is = record {
  value = later_value (λ ns k vs. term_value ns (place_in k vs) s) t old new (numbered_more old new symbols h) is.value;
}

pub terms_later : (old new : Numbers) (symbols added : List Symbol) (before after : List Term) → HasNumbered old new symbols → AddsTerms old added before after → AddsTerms new added before after
terms_later old new symbols added before after h is = record {
  value = later_value (λ ns k vs. before ++ map (term_value ns (place_in k vs)) added) after old new (numbered_more old new symbols h) is.value;
}

pub atoms_later : (old new : Numbers) (symbols : List Symbol) (added : List SymbolAtom) (before after : List Atom) → HasNumbered old new symbols → AddsAtoms old added before after → AddsAtoms new added before after
atoms_later old new symbols added before after h is = record {
  value = later_value (λ ns k vs. before ++ map (atom_value ns (place_in k vs)) added) after old new (numbered_more old new symbols h) is.value;
}

-- one more
pub terms_none : (n : Numbers) (before : List Term) → AddsTerms n [] before before
terms_none n before = record { value = λ names variables. sym (append-nil before) }

pub terms_push : (n : Numbers) (added : List Symbol) (s : Symbol) (before after : List Term) (t : Term) → AddsTerms n added before after → IsTermOf n s t → AddsTerms n (added ++ s ∷ []) before (after ++ t ∷ [])
terms_push n added s before after t h is = record {
  value = λ names variables.
      let f = term_value (n.names ++ names) (place_in n.first (n.variables ++ variables)) in
      ap₂ (λ l x. l ++ x ∷ []) (h.value names variables) (is.value names variables) ∙
      (append_assoc before (map f added) (f s ∷ []) ∙ ap (λ l. before ++ l) (sym (map-append f added (s ∷ []))));
}

pub terms_append : (n : Numbers) (xs ys : List Symbol) (before mid after : List Term) → AddsTerms n xs before mid → AddsTerms n ys mid after → AddsTerms n (xs ++ ys) before after
terms_append n xs ys before mid after h k = record {
  value = λ names variables.
      let f = term_value (n.names ++ names) (place_in n.first (n.variables ++ variables)) in
      k.value names variables ∙ (ap (λ l. l ++ map f ys) (h.value names variables) ∙
      (append_assoc before (map f xs) (map f ys) ∙ ap (λ l. before ++ l) (sym (map-append f xs ys))));
}

pub atoms_none : (n : Numbers) (before : List Atom) → AddsAtoms n [] before before
atoms_none n before = record { value = λ names variables. sym (append-nil before) }

pub atoms_push : (n : Numbers) (added : List SymbolAtom) (s : SymbolAtom) (before after : List Atom) (a : Atom) → AddsAtoms n added before after → IsAtomOf n s a → AddsAtoms n (added ++ s ∷ []) before (after ++ a ∷ [])
atoms_push n added s before after a h is = record {
  value = λ names variables.
      let f = atom_value (n.names ++ names) (place_in n.first (n.variables ++ variables)) in
      ap₂ (λ l x. l ++ x ∷ []) (h.value names variables) (is.value names variables) ∙
      (append_assoc before (map f added) (f s ∷ []) ∙ ap (λ l. before ++ l) (sym (map-append f added (s ∷ []))));
}

pub atoms_append : (n : Numbers) (xs ys : List SymbolAtom) (before mid after : List Atom) → AddsAtoms n xs before mid → AddsAtoms n ys mid after → AddsAtoms n (xs ++ ys) before after
atoms_append n xs ys before mid after h k = record {
  value = λ names variables.
      let f = atom_value (n.names ++ names) (place_in n.first (n.variables ++ variables)) in
      k.value names variables ∙ (ap (λ l. l ++ map f ys) (h.value names variables) ∙
      (append_assoc before (map f xs) (map f ys) ∙ ap (λ l. before ++ l) (sym (map-append f xs ys))));
}

-- ---- steps of loops

-- one more element of a list that is gone through
pub map-taken : {X Y : Type 0} (f : X → Y) (xs : List X) (i : ℕ) (x d : X) → i < length xs → x ≡ get_or xs i d → map f (take (i + 1) xs) ≡ map f (take i xs) ++ f x ∷ []
map-taken f xs i x d l e = ap (map f) (take_more xs i d l ∙ ap (λ y. take i xs ++ y ∷ []) (sym e)) ∙ map-append f (take i xs) (x ∷ [])

pub length-taken : {X Y : Type 0} (f : X → Y) (xs : List X) (i : ℕ) → i ≤ length xs → length (map f (take i xs)) ≡ i
length-taken f xs i l = length-map (take i xs) f ∙ length-take-le i xs l

pub record HasTermsSoFar (old new : Numbers) (symbols : List Symbol) (before after : List Term) : Type 0 where
  pub numbered : HasNumbered old new symbols
  pub terms : AddsTerms new symbols before after

pub terms_begin : (n : Numbers) (before : List Term) → HasTermsSoFar n n [] before before
terms_begin n before = record { numbered = numbered_none n; terms = terms_none n before }

pub terms_step : (old mid new : Numbers) (symbols : List Symbol) (s : Symbol) (before after : List Term) (t : Term) → HasTermsSoFar old mid symbols before after → HasNumbered mid new (s ∷ []) → IsTermOf new s t → HasTermsSoFar old new (symbols ++ s ∷ []) before (after ++ t ∷ [])
terms_step old mid new symbols s before after t h k is = record {
  numbered = numbered_append old mid new symbols (s ∷ []) h.numbered k;
  terms = terms_push new symbols s before after t (terms_later mid new (s ∷ []) symbols before after k h.terms) is;
}

-- the same at a place of a list of tokens
pub terms_step_at : {X : Type 0} (f : X → Symbol) (xs : List X) (i : ℕ) (x d : X) (old mid new : Numbers) (before after : List Term) (t : Term) → i < length xs → x ≡ get_or xs i d →
    HasTermsSoFar old mid (map f (take i xs)) before after → HasNumbered mid new (f x ∷ []) → IsTermOf new (f x) t → HasTermsSoFar old new (map f (take (i + 1) xs)) before (after ++ t ∷ [])
terms_step_at f xs i x d old mid new before after t l e h k is =
    subst (λ s. HasTermsSoFar old new s before (after ++ t ∷ [])) (sym (map-taken f xs i x d l e)) (terms_step old mid new (map f (take i xs)) (f x) before after t h k is)

pub symbols_in-append : (xs ys : List SymbolAtom) → symbols_in (xs ++ ys) ≡ symbols_in xs ++ symbols_in ys
symbols_in-append [] ys = refl
symbols_in-append (x ∷ xs) ys = ap (λ l. atom_symbols x ++ l) (symbols_in-append xs ys) ∙ sym (append_assoc (atom_symbols x) (symbols_in xs) (symbols_in ys))

pub symbols_in-push : (xs : List SymbolAtom) (x : SymbolAtom) → symbols_in (xs ++ x ∷ []) ≡ symbols_in xs ++ atom_symbols x
symbols_in-push xs x = symbols_in-append xs (x ∷ []) ∙ ap (λ l. symbols_in xs ++ l) (append-nil (atom_symbols x))

pub record HasAtomsSoFar (old new : Numbers) (added : List SymbolAtom) (before after : List Atom) : Type 0 where
  pub numbered : HasNumbered old new (symbols_in added)
  pub atoms : AddsAtoms new added before after

pub atoms_begin : (n : Numbers) (before : List Atom) → HasAtomsSoFar n n [] before before
atoms_begin n before = record { numbered = numbered_none n; atoms = atoms_none n before }

pub atoms_step : (old mid new : Numbers) (atoms : List SymbolAtom) (s : SymbolAtom) (before after : List Atom) (a : Atom) → HasAtomsSoFar old mid atoms before after → HasNumbered mid new (atom_symbols s) → IsAtomOf new s a → HasAtomsSoFar old new (atoms ++ s ∷ []) before (after ++ a ∷ [])
atoms_step old mid new atoms s before after a h k is = record {
  numbered = subst (HasNumbered old new) (sym (symbols_in-push atoms s)) (numbered_append old mid new (symbols_in atoms) (atom_symbols s) h.numbered k);
  atoms = atoms_push new atoms s before after a (atoms_later mid new (atom_symbols s) atoms before after k h.atoms) is;
}

-- the same at a place of a list
pub atoms_step_at : {X : Type 0} (f : X → SymbolAtom) (xs : List X) (i : ℕ) (x d : X) (old mid new : Numbers) (before after : List Atom) (a : Atom) → i < length xs → x ≡ get_or xs i d →
    HasAtomsSoFar old mid (map f (take i xs)) before after → HasNumbered mid new (atom_symbols (f x)) → IsAtomOf new (f x) a → HasAtomsSoFar old new (map f (take (i + 1) xs)) before (after ++ a ∷ [])
atoms_step_at f xs i x d old mid new before after a l e h k is =
    subst (λ s. HasAtomsSoFar old new s before (after ++ a ∷ [])) (sym (map-taken f xs i x d l e)) (atoms_step old mid new (map f (take i xs)) (f x) before after a h k is)

-- the symbols at a place and before it are no more than all
pub length-symbols_taken : {X : Type 0} (f : X → SymbolAtom) (xs : List X) (i : ℕ) (x d : X) → i < length xs → x ≡ get_or xs i d →
    length (symbols_in (map f (take i xs))) + length (atom_symbols (f x)) ≤ length (symbols_in (map f xs))
length-symbols_taken f xs i x d l e =
    let here : symbols_in (map f (take (i + 1) xs)) ≡ symbols_in (map f (take i xs)) ++ atom_symbols (f x) = ap symbols_in (map-taken f xs i x d l e) ∙ symbols_in-push (map f (take i xs)) (f x) in
    let all : symbols_in (map f xs) ≡ symbols_in (map f (take (i + 1) xs)) ++ symbols_in (map f (drop (i + 1) xs)) =
    ap (λ ys. symbols_in (map f ys)) (sym (take-append-drop (i + 1) xs)) ∙ (ap symbols_in (map-append f (take (i + 1) xs) (drop (i + 1) xs)) ∙ symbols_in-append (map f (take (i + 1) xs)) (map f (drop (i + 1) xs))) in
    omega (arith, ap length here, ap length all, length-append (symbols_in (map f (take i xs))) (atom_symbols (f x)), length-append (symbols_in (map f (take (i + 1) xs))) (symbols_in (map f (drop (i + 1) xs))))

-- ---- one name, one term, one atom

pub name_numbered : (old new : Numbers) (text : List ℕ) → new.names ≡ with_name old.names text → new.variables ≡ old.variables → new.first ≡ old.first → HasNumbered old new (constant text ∷ [])
name_numbered old new text names variables first = record { names = names; variables = variables; first = first }

-- a name by the kind of its token
pub name_written : (ds : Declared) (kind : Kind) (bytes : List ℕ) → kind ≢ Prefixed → name_text ds (name_by kind bytes) ≡ bytes
name_written ds Prefixed bytes ne = absurd (ne refl)
name_written ds Identifier bytes ne = refl
name_written ds _ bytes ne = refl

pub name_expanded : (ds : Declared) (kind : Kind) (bytes : List ℕ) → kind ≡ Prefixed → name_text ds (name_by kind bytes) ≡ expanded ds bytes
name_expanded ds kind bytes e = ap (λ k. name_text ds (name_by k bytes)) e

-- and a term
pub variable_written : (ds : Declared) (kind : Kind) (bytes : List ℕ) → kind ≡ VariableToken → symbol ds (term_by kind bytes) ≡ variable bytes
variable_written ds kind bytes e = ap (λ k. symbol ds (term_by k bytes)) e

-- an atom, by its name, its first term and the others
pub record IsBuiltAtom (old new : Numbers) (s : SymbolAtom) (a : Atom) : Type 0 where
  pub numbered : HasNumbered old new (atom_symbols s)
  pub atom : IsAtomOf new s a
  pub arity : length a.terms ≡ length s.terms

pub atom_built : (a b c d : Numbers) (name : List ℕ) (n : ℕ) (s : Symbol) (rest others : List Symbol) (t : Term) (before terms : List Term) → rest ≡ others → before ≡ t ∷ [] →
    HasNumbered a b (constant name ∷ []) → IsNumberOf b.names name n → HasNumbered b c (s ∷ []) → IsTermOf c s t → HasNumbered c d rest → AddsTerms d rest before terms →
    IsBuiltAtom a d (record { name = name; terms = s ∷ others }) (record { name = n; terms = terms })
atom_built a b c d name n s rest others t before terms same one named number first term numbered added =
    let behind : HasNumbered b d (s ∷ rest) = numbered_append b c d (s ∷ []) rest first numbered in
    let lasting = number_later b d (s ∷ rest) name n behind number in
    let whole : AddsTerms d (s ∷ rest) [] terms =
    terms_append d (s ∷ []) rest [] before terms
    (terms_later c d rest (s ∷ []) [] before numbered (subst (AddsTerms c (s ∷ []) []) (sym one) (terms_push c [] s [] [] t (terms_none c []) term))) added in
    subst (λ l. IsBuiltAtom a d (record { name = name; terms = s ∷ l }) (record { name = n; terms = terms })) same (record {
      numbered = numbered_append a b d (constant name ∷ []) (s ∷ rest) named behind;
      atom = record { value = λ names variables. atom_path _ _ (lasting.value names) (whole.value names variables) };
      arity = ap length (whole.value [] []) ∙ length-map (s ∷ rest) (term_value (d.names ++ []) (place_in d.first (d.variables ++ [])));
    })

-- the same for an atom of a file
pub form_built : (text : List ℕ) (ds : List Declaration) (form : AtomForm) (others : List Token) (a b c d : Numbers) (n : ℕ) (t : Term) (none before terms : List Term) →
    others ≡ form.terms.others.items → none ≡ [] → before ≡ none ++ t ∷ [] →
    HasNumbered a b (constant (name_text (declared_view text ds) (name_view text form.name)) ∷ []) → IsNumberOf b.names (name_text (declared_view text ds) (name_view text form.name)) n →
    HasNumbered b c (token_symbol text ds form.terms.first ∷ []) → IsTermOf c (token_symbol text ds form.terms.first) t →
    HasNumbered c d (map (token_symbol text ds) others) → AddsTerms d (map (token_symbol text ds) others) before terms →
    IsBuiltAtom a d (form_atom text ds form) (record { name = n; terms = terms })
form_built text ds form others a b c d n t none before terms same empty one =
    atom_built a b c d (name_text (declared_view text ds) (name_view text form.name)) n (token_symbol text ds form.terms.first) (map (token_symbol text ds) others)
    (map (symbol (declared_view text ds)) (map (term_view text) form.terms.others.items)) t before terms
    (ap (map (token_symbol text ds)) same ∙ sym (map-map (symbol (declared_view text ds)) (term_view text) (token_symbol text ds) form.terms.others.items (λ x. refl)))
    (one ∙ ap (λ l. l ++ t ∷ []) empty)

pub length-form : (text : List ℕ) (ds : List Declaration) (form : AtomForm) → length (form_atom text ds form).terms ≡ 1 + length form.terms.others.items
length-form text ds form = omega (arith, length-map (map (term_view text) form.terms.others.items) (symbol (declared_view text ds)), length-map form.terms.others.items (term_view text))

-- the atoms of a list that has one at least
pub several_built : (text : List ℕ) (ds : List Declaration) (forms : SeveralForm AtomForm) (others : List AtomForm) (a b c : Numbers) (x : Atom) (old mid new : List Atom) →
    others ≡ forms.others.items → mid ≡ old ++ x ∷ [] → HasNumbered a b (atom_symbols (form_atom text ds forms.first)) → IsAtomOf b (form_atom text ds forms.first) x →
    HasNumbered b c (symbols_in (map (form_atom text ds) others)) → AddsAtoms c (map (form_atom text ds) others) mid new →
    HasAtomsSoFar a c (symbol_atoms (declared_view text ds) (atoms_view text forms)) old new
several_built text ds forms others a b c x old mid new same one first atom rest added =
    let list : map (form_atom text ds) others ≡ map (symbol_atom (declared_view text ds)) (map (atom_view text) forms.others.items) =
    ap (map (form_atom text ds)) same ∙ sym (map-map (symbol_atom (declared_view text ds)) (atom_view text) (form_atom text ds) forms.others.items (λ y. refl)) in
    subst (λ l. HasAtomsSoFar a c (form_atom text ds forms.first ∷ l) old new) list (record {
      numbered = numbered_append a b c (atom_symbols (form_atom text ds forms.first)) (symbols_in (map (form_atom text ds) others)) first rest;
      atoms =
          atoms_append c (form_atom text ds forms.first ∷ []) (map (form_atom text ds) others) old mid new
          (atoms_later b c (symbols_in (map (form_atom text ds) others)) (form_atom text ds forms.first ∷ []) old mid rest
          (subst (AddsAtoms b (form_atom text ds forms.first ∷ []) old) (sym one) (atoms_push b [] (form_atom text ds forms.first) old old x (atoms_none b old) atom))) added;
    })

pub length-several : (text : List ℕ) (ds : List Declaration) (forms : SeveralForm AtomForm) (others : List AtomForm) → others ≡ forms.others.items →
    length (atom_symbols (form_atom text ds forms.first)) + length (symbols_in (map (form_atom text ds) others)) ≤ length (symbols_in (symbol_atoms (declared_view text ds) (atoms_view text forms)))
length-several text ds forms others same =
    let list : map (form_atom text ds) others ≡ map (symbol_atom (declared_view text ds)) (map (atom_view text) forms.others.items) =
    ap (map (form_atom text ds)) same ∙ sym (map-map (symbol_atom (declared_view text ds)) (atom_view text) (form_atom text ds) forms.others.items (λ y. refl)) in
    let rest = map (symbol_atom (declared_view text ds)) (map (atom_view text) forms.others.items) in
    omega (arith, ap (λ l. length (symbols_in l)) list, length-append (atom_symbols (form_atom text ds forms.first)) (symbols_in rest))
