-- The select of a query yields what the query answers over the facts.
use Rattle.std.proofs.Common.{◌≡◌, ℕ, zero, suc, Bool, true, false, cond, List, [], ◌∷◌, length, map, Contains, All, zero-add, refl, sym, ap, ap₂, ◌∙◌, subst, arith, inl, inr}
use Rattle.std.specs.Prelude.{Option, Some, None, slice_get, unwrap_or}
use Rattle.std.specs.Option.{option_map, option_and_then, option_to_list}
use Rattle.std.proofs.lemmas.List.Elements.{All-contains}
use Rattle.std.proofs.lemmas.Option.{slice_get-map, slice_get-get_or}
use Rattle.ucq_terms.specs.declared.Term.{Term}
use Rattle.ucq_terms.specs.declared.Term.TheVariants.{Constant, Variable}
use Rattle.ucq_terms.specs.Syntax.{Atom, Query, IsSubset, term_image, terms_image, atom_image, atoms_image}
use Rattle.ucq_terms.specs.Homomorphism.{MapsInto}
use Rattle.ucq_terms.proofs.Decide.{atom_path}
use Rattle.ucq_terms.proofs.Images.{IsSubset-from_image}
use Rattle.ucq_terms.proofs.Lists.{Contains-first, Contains-rest, Contains-cons_cases, Contains-empty}
use Rattle.ucq_sql.specs.declared.algebra.Column.{Column}
use Rattle.ucq_sql.specs.declared.algebra.Table.{Table}
use Rattle.ucq_sql.specs.declared.algebra.Condition.{Condition}
use Rattle.ucq_sql.specs.declared.algebra.Condition.TheVariants.{Same, Is}
use Rattle.ucq_sql.specs.Algebra.{Tables, AreChosen, value_at, Holds, Cell, text, one, cell_of}
use Rattle.ucq_sql.specs.Tables.{AreTablesOf, constants, fact_of, row_of}
use Rattle.ucq_sql.specs.Selects.{column_eq, condition_of, conditions_of, first_column, output_of, outputs_of, row_conditions, table_of}
use Rattle.ucq_sql.proofs.Places.{Contains-by_place, Contains-from_by_place}
use Rattle.ucq_sql.proofs.Firsts.{column_eq-same}

-- an element's place
pub place_of : {X : Type 0} (xs : List X) (x : X) → Contains xs x → (i : ℕ) × (slice_get xs i ≡ Some x)
place_of xs x h = (h.0, slice_get-get_or xs h.0 x h.1 ∙ ap Some h.2)

-- lists of one length that agree at each place
same_by_places : {X Y T : Type 0} (f : X → T) (g : Y → T) (xs : List X) (ys : List Y) → length xs ≡ length ys →
    ((i : ℕ) (x : X) (y : Y) → slice_get xs i ≡ Some x → slice_get ys i ≡ Some y → f x ≡ g y) → map f xs ≡ map g ys
same_by_places f g [] [] l h = refl
same_by_places f g [] (y ∷ ys) l h = absurd (omega arith)
same_by_places f g (x ∷ xs) [] l h = absurd (omega arith)
same_by_places f g (x ∷ xs) (y ∷ ys) l h = ap₂ (λ t ts. t ∷ ts) (h 0 x y refl refl) (same_by_places f g xs ys (omega arith) (λ i a b p q. h (suc i) a b p q))

-- the conditions of a query, by the columns and terms that they come from
pub asked : (atoms : List Atom) (i j : ℕ) (a : Atom) (t : Term) (condition : Condition) → slice_get atoms i ≡ Some a → slice_get a.terms j ≡ Some t →
    condition_of atoms (record { alias = i; column = j }) t ≡ Some condition → Contains (conditions_of atoms) condition
asked atoms i j a t condition at stands is =
    let here : Contains (option_to_list (condition_of atoms (record { alias = i; column = j }) t)) condition =
    subst (λ (o : Option Condition). Contains (option_to_list o) condition) (sym is) (Contains-first condition []) in
    let row : Contains (row_conditions atoms i a.terms) condition =
    Contains-by_place (λ column term. option_to_list (condition_of atoms (record { alias = i; column = column }) term)) 0 a.terms j t condition stands
    (subst (λ k. Contains (option_to_list (condition_of atoms (record { alias = i; column = k }) t)) condition) (sym (zero-add j)) here) in
    Contains-by_place (λ alias (atom : Atom). row_conditions atoms alias atom.terms) 0 atoms i a condition at
    (subst (λ k. Contains (row_conditions atoms k a.terms) condition) (sym (zero-add i)) row)

-- a condition with where it comes from
pub record Origin (atoms : List Atom) (condition : Condition) : Type 0 where
  pub alias : ℕ
  pub column : ℕ
  pub atom : Atom
  pub term : Term
  pub atom_is : slice_get atoms alias ≡ Some atom
  pub term_is : slice_get atom.terms column ≡ Some term
  pub condition_is : condition_of atoms (record { alias = alias; column = column }) term ≡ Some condition

only_one : {X : Type 0} (o : Option X) (x : X) → Contains (option_to_list o) x → o ≡ Some x
only_one None x h = absurd (Contains-empty x h)
only_one (Some y) x h = elim (Contains-cons_cases y [] x h) [ inl e ↦ ap Some e | inr i ↦ absurd (Contains-empty x i) ]

pub origin : (atoms : List Atom) (condition : Condition) → Contains (conditions_of atoms) condition → Origin atoms condition
origin atoms condition h =
    let (i, a, at, inner) = Contains-from_by_place (λ alias (atom : Atom). row_conditions atoms alias atom.terms) 0 atoms condition h in
    let row : Contains (row_conditions atoms i a.terms) condition = subst (λ k. Contains (row_conditions atoms k a.terms) condition) (zero-add i) inner in
    let (j, t, stands, last) = Contains-from_by_place (λ column term. option_to_list (condition_of atoms (record { alias = i; column = column }) term)) 0 a.terms condition row in
    let here : Contains (option_to_list (condition_of atoms (record { alias = i; column = j }) t)) condition =
    subst (λ k. Contains (option_to_list (condition_of atoms (record { alias = i; column = k }) t)) condition) (zero-add j) last in
    record { alias = i; column = j; atom = a; term = t; atom_is = at; term_is = stands; condition_is = only_one (condition_of atoms (record { alias = i; column = j }) t) condition here }

-- the chosen row of a table
pub chosen_at : (tables : Tables) (from : List Table) (rows : List (List ℕ)) → AreChosen tables from rows → (i : ℕ) (t : Table) → slice_get from i ≡ Some t →
    (row : List ℕ) × (slice_get rows i ≡ Some row) × Contains (tables t) row
chosen_at tables [] rows h i t e = absurd cc
chosen_at tables (u ∷ from) [] h i t e = absurd h
chosen_at tables (u ∷ from) (row ∷ rows) h zero t e = let same : u ≡ t = cc in (row, refl, subst (λ (v : Table). Contains (tables v) row) same h.0)
chosen_at tables (u ∷ from) (row ∷ rows) h (suc i) t e = chosen_at tables from rows h.1 i t e

pub are_chosen : (tables : Tables) (table : Atom → Table) (row : Atom → List ℕ) (atoms : List Atom) → ((a : Atom) → Contains atoms a → Contains (tables (table a)) (row a)) →
    AreChosen tables (map table atoms) (map row atoms)
are_chosen tables table row [] h = tt
are_chosen tables table row (a ∷ atoms) h = (h a (Contains-first a atoms), are_chosen tables table row atoms (λ b i. h b (Contains-rest a atoms b i)))

-- the value in a column
pub value_at-is : (rows : List (List ℕ)) (i j value : ℕ) (row : List ℕ) → slice_get rows i ≡ Some row → slice_get row j ≡ Some value → value_at rows (record { alias = i; column = j }) ≡ Some value
value_at-is rows i j value row e f = ap (λ (o : Option (List ℕ)). option_and_then (λ (r : List ℕ). slice_get r j) o) e ∙ f

-- From rows to a map of variables.
module _ (atoms : List Atom) (rows : List (List ℕ)) where
  abbrev pub read : ℕ → Term
  read v = Constant (unwrap_or (value_at rows (first_column atoms (Variable v))) 0)

  read-is : (v value : ℕ) → value_at rows (first_column atoms (Variable v)) ≡ Some value → read v ≡ Constant value
  read-is v value e = ap (λ (o : Option ℕ). Constant (unwrap_or o 0)) e

  variable_read : All (Holds rows) (conditions_of atoms) → (here : Column) (v value : ℕ) →
      ((condition : Condition) → condition_of atoms here (Variable v) ≡ Some condition → Contains (conditions_of atoms) condition) → value_at rows here ≡ Some value → read v ≡ Constant value
  variable_read conditions here v value there is = go (column_eq here (first_column atoms (Variable v))) refl
    where
      go : (same : Bool) → column_eq here (first_column atoms (Variable v)) ≡ same → read v ≡ Constant value
      go true e = read-is v value (ap (value_at rows) (sym (column_eq-same here (first_column atoms (Variable v)) e)) ∙ is)
      go false e =
          let apart = Same here (first_column atoms (Variable v)) in
          let condition : condition_of atoms here (Variable v) ≡ Some apart = ap (λ (b : Bool). cond b None (Some apart)) e in
          let held = All-contains (Holds rows) (conditions_of atoms) apart conditions (there apart condition) in
          let one_value : Some held.0 ≡ Some value = sym held.1 ∙ is in
          read-is v held.0 held.2 ∙ cc

  -- the value under a term is its image
  term_read : All (Holds rows) (conditions_of atoms) → (i j value : ℕ) (a : Atom) (t : Term) → slice_get atoms i ≡ Some a → slice_get a.terms j ≡ Some t →
      value_at rows (record { alias = i; column = j }) ≡ Some value → term_image read t ≡ Constant value
  term_read conditions i j value a (Constant c) at stands is =
      let held : value_at rows (record { alias = i; column = j }) ≡ Some c =
      All-contains (Holds rows) (conditions_of atoms) (Is (record { alias = i; column = j }) c) conditions (asked atoms i j a (Constant c) (Is (record { alias = i; column = j }) c) at stands refl) in
      cc
  term_read conditions i j value a (Variable v) at stands is =
      variable_read conditions (record { alias = i; column = j }) v value (λ condition e. asked atoms i j a (Variable v) condition at stands e) is

  -- an answer term's image is what it lists
  listed_is_text : (o : Option ℕ) (c : ℕ) → option_map text o ≡ Some (text c) → o ≡ Some c
  listed_is_text None c e = absurd cc
  listed_is_text (Some b) c e = cc

  listed_is_no_one : (o : Option ℕ) → option_map text o ≡ Some one → ⊥
  listed_is_no_one None e = absurd cc
  listed_is_no_one (Some b) e = absurd cc

  answer_read : (t : Term) (c : ℕ) → cell_of rows (output_of atoms t) ≡ Some (text c) → term_image read t ≡ Constant c
  answer_read (Constant d) c e = cc
  answer_read (Variable v) c e = read-is v c (listed_is_text (value_at rows (first_column atoms (Variable v))) c e)

  answer_is_no_one : (t : Term) → cell_of rows (output_of atoms t) ≡ Some one → ⊥
  answer_is_no_one (Constant d) e = absurd cc
  answer_is_no_one (Variable v) e = listed_is_no_one (value_at rows (first_column atoms (Variable v))) e

  first_cell : {x y : Option Cell} {xs ys : List (Option Cell)} → x ∷ xs ≡ y ∷ ys → x ≡ y
  first_cell e = cc

  later_cells : {x y : Option Cell} {xs ys : List (Option Cell)} → x ∷ xs ≡ y ∷ ys → xs ≡ ys
  later_cells e = cc

  answers_read_some : (ts : List Term) (cs : List ℕ) → map (cell_of rows) (map (output_of atoms) ts) ≡ map Some (map text cs) → terms_image read ts ≡ constants cs
  answers_read_some [] [] e = refl
  answers_read_some [] (c ∷ cs) e = absurd cc
  answers_read_some (t ∷ ts) [] e = absurd cc
  answers_read_some (t ∷ ts) (c ∷ cs) e = ap₂ (λ u us. u ∷ us) (answer_read t c (first_cell e)) (answers_read_some ts cs (later_cells e))

  answers_read : (ts : List Term) (cs : List ℕ) → map (cell_of rows) (outputs_of atoms ts) ≡ map Some (row_of cs) → terms_image read ts ≡ constants cs
  answers_read [] [] e = refl
  answers_read [] (c ∷ cs) e = absurd cc
  answers_read (t ∷ ts) [] e = absurd (answer_is_no_one t (first_cell e))
  answers_read (t ∷ ts) (c ∷ cs) e = answers_read_some (t ∷ ts) (c ∷ cs) e

  -- what is listed for a query is the row of a tuple
  text_listed : (t : Term) (x : Cell) → cell_of rows (output_of atoms t) ≡ Some x → (c : ℕ) × (x ≡ text c)
  text_listed (Constant d) x e = (d, cc)
  text_listed (Variable v) x e = go (value_at rows (first_column atoms (Variable v))) e
    where
      go : (o : Option ℕ) → option_map text o ≡ Some x → (c : ℕ) × (x ≡ text c)
      go None e = absurd cc
      go (Some b) e = (b, cc)

  texts_listed : (ts : List Term) (row : List Cell) → map (cell_of rows) (map (output_of atoms) ts) ≡ map Some row → (cs : List ℕ) × (row ≡ map text cs) × (length cs ≡ length ts)
  texts_listed [] [] e = ([], refl, refl)
  texts_listed [] (x ∷ row) e = absurd cc
  texts_listed (t ∷ ts) [] e = absurd cc
  texts_listed (t ∷ ts) (x ∷ row) e =
      let (c, p) = text_listed t x (first_cell e) in
      let (cs, q, l) = texts_listed ts row (later_cells e) in
      (c ∷ cs, ap₂ (λ y ys. y ∷ ys) p q, omega (arith, l))

  pub tuple_listed : (ts : List Term) (row : List Cell) → map (cell_of rows) (outputs_of atoms ts) ≡ map Some row → (cs : List ℕ) × (row ≡ row_of cs)
  tuple_listed [] [] e = absurd cc
  tuple_listed [] (x ∷ []) e = ([], cc)
  tuple_listed [] (x ∷ y ∷ row) e = absurd cc
  tuple_listed (t ∷ ts) row e = go (texts_listed (t ∷ ts) row e)
    where
      go : ((cs : List ℕ) × (row ≡ map text cs) × (length cs ≡ suc (length ts))) → (cs : List ℕ) × (row ≡ row_of cs)
      go ([], p, l) = absurd (omega arith)
      go (c ∷ cs, p, l) = (c ∷ cs, p)

  pub yielded_maps : (q : Query) (facts : List Atom) (tables : Tables) (tuple : List ℕ) → q.atoms ≡ atoms → AreTablesOf facts tables → AreChosen tables (map table_of atoms) rows →
      All (Holds rows) (conditions_of atoms) → map (cell_of rows) (outputs_of atoms q.answers) ≡ map Some (row_of tuple) → MapsInto q facts (constants tuple)
  yielded_maps q facts tables tuple same are chosen conditions outputs = record {
    mapping = read;
    homomorphism = record {
      atoms = subst (λ (l : List Atom). IsSubset (atoms_image read l) facts) (sym same) (IsSubset-from_image read atoms facts fact_there);
      answers = answers_read q.answers tuple outputs;
    };
  }
    where
      fact_there : (a : Atom) → Contains atoms a → Contains facts (atom_image read a)
      fact_there a h =
          let (i, at) = place_of atoms a h in
          let (row, is, among) = chosen_at tables (map table_of atoms) rows chosen i (table_of a) (slice_get-map table_of atoms i ∙ ap (option_map table_of) at) in
          let both = (are.rows (table_of a) row).0 among in
          let terms : terms_image read a.terms ≡ constants row =
          same_by_places (term_image read) Constant a.terms row (sym both.0) (λ j t value stands held. term_read conditions i j value a t at stands (value_at-is rows i j value row is held)) in
          subst (λ (b : Atom). Contains facts b) (atom_path (fact_of (table_of a) row) (atom_image read a) refl (sym terms)) both.1
