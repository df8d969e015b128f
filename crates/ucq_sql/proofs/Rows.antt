-- Rows for the atoms of a query that maps into facts of constants.
use Rattle.std.proofs.Common.{◌≡◌, ℕ, Bool, true, false, cond, List, [], ◌∷◌, map, Contains, All, zero-add, refl, sym, ap, ap₂, ◌∙◌, subst}
use Rattle.std.specs.Prelude.{Some, None, slice_get}
use Rattle.std.specs.Option.{option_map}
use Rattle.std.proofs.lemmas.List.{length-map}
use Rattle.std.proofs.lemmas.List.Elements.{All-contains}
use Rattle.std.proofs.lemmas.Option.{slice_get-map}
use Rattle.ucq_terms.specs.declared.Term.{Term}
use Rattle.ucq_terms.specs.declared.Term.TheVariants.{Constant, Variable}
use Rattle.ucq_terms.specs.Syntax.{Atom, Query, OccursIn, IsSafe, IsSubset, term_image, terms_image, atom_image, atoms_image}
use Rattle.ucq_terms.specs.Homomorphism.{MapsInto}
use Rattle.ucq_terms.proofs.Decide.{atom_path}
use Rattle.ucq_terms.proofs.Images.{IsSubset-image}
use Rattle.ucq_terms.proofs.Lists.{Contains-first, Contains-rest, Contains-map, Contains-from_map, All-from_contains, Any-contains, Any-from_contains, map-map}
use Rattle.ucq_terms.proofs.Lists.{map-same_on}
use Rattle.ucq_terms.proofs.Subsets.{OccursIn-atom}
use Rattle.ucq_terms.proofs.Texts.{Contains-slice_get}
use Rattle.ucq_sql.specs.declared.algebra.Condition.{Condition}
use Rattle.ucq_sql.specs.declared.algebra.Condition.TheVariants.{Same, Is}
use Rattle.ucq_sql.specs.Algebra.{Select, Tables, value_at, Holds, Cell, text, cell_of, Yields, StatementYields}
use Rattle.ucq_sql.specs.Tables.{AreTablesOf, AreOfConstants, IsConstant, IsOfConstants, constants, fact_of, row_of}
use Rattle.ucq_sql.specs.Selects.{column_eq, condition_of, conditions_of, first_column, output_of, outputs_of, select_of, statement_of, table_of}
use Rattle.ucq_sql.specs.Laws.{SelectMeansQuery, StatementMeansUnion, ResultsAreAnswers, RowsAreTuples, RowsTellTuples}
use Rattle.ucq_sql.proofs.Firsts.{first_stands}
use Rattle.ucq_sql.proofs.Meaning.{Origin, origin, are_chosen, place_of, tuple_listed, value_at-is, yielded_maps}

-- the number of a constant
abbrev pub number_of : Term → ℕ
number_of (Constant c) = c
number_of (Variable v) = 0

pub constant_is : (t : Term) → IsConstant t → Constant (number_of t) ≡ t
constant_is (Constant c) h = refl
constant_is (Variable v) h = absurd h

-- From a map of variables to rows.
module _ (h : ℕ → Term) (atoms facts : List Atom) (of_constants : AreOfConstants facts) (maps : IsSubset (atoms_image h atoms) facts) where
  value_of : Term → ℕ
  value_of t = number_of (term_image h t)

  abbrev pub row_for : Atom → List ℕ
  row_for a = map (λ t. number_of (term_image h t)) a.terms

  image_is_constant : (a : Atom) (t : Term) → Contains atoms a → Contains a.terms t → IsConstant (term_image h t)
  image_is_constant a t i j =
      All-contains IsConstant (terms_image h a.terms) (term_image h t)
      (All-contains IsOfConstants facts (atom_image h a) of_constants (IsSubset-image h atoms facts maps a i)) (Contains-map (term_image h) a.terms t j)

  constant_image : (a : Atom) (t : Term) → Contains atoms a → Contains a.terms t → Constant (number_of (term_image h t)) ≡ term_image h t
  constant_image a t i j = constant_is (term_image h t) (image_is_constant a t i j)

  pub row_there : (tables : Tables) → AreTablesOf facts tables → (a : Atom) → Contains atoms a → Contains (tables (table_of a)) (row_for a)
  row_there tables are a i =
      let terms : constants (row_for a) ≡ terms_image h a.terms =
      map-map Constant (λ t. number_of (term_image h t)) (λ t. Constant (number_of (term_image h t))) a.terms (λ t. refl) ∙
      map-same_on (λ t. Constant (number_of (term_image h t))) (term_image h) a.terms (λ t j. constant_image a t i j) in
      (are.rows (table_of a) (row_for a)).1
      (length-map a.terms (λ t. number_of (term_image h t)), subst (λ (b : Atom). Contains facts b) (atom_path (atom_image h a) (fact_of (table_of a) (row_for a)) refl (sym terms)) (IsSubset-image h atoms facts maps a i))

  -- the value in the column of a term, and in a variable's first column
  value_there : (i j : ℕ) (a : Atom) (t : Term) → slice_get atoms i ≡ Some a → slice_get a.terms j ≡ Some t →
      value_at (map row_for atoms) (record { alias = i; column = j }) ≡ Some (number_of (term_image h t))
  value_there i j a t at stands =
      value_at-is (map row_for atoms) i j (number_of (term_image h t)) (row_for a) (slice_get-map row_for atoms i ∙ ap (option_map row_for) at)
      (slice_get-map (λ t. number_of (term_image h t)) a.terms j ∙ ap (option_map (λ t. number_of (term_image h t))) stands)

  first_there : (v : ℕ) (a : Atom) → Contains atoms a → Contains a.terms (Variable v) → value_at (map row_for atoms) (first_column atoms (Variable v)) ≡ Some (number_of (h v))
  first_there v a i j =
      let (k, at) = place_of atoms a i in
      let s = first_stands 0 atoms (Variable v) k a at j in
      let number : s.place ≡ (first_column atoms (Variable v)).alias = sym (s.alias_is ∙ zero-add s.place) in
      subst (λ n. value_at (map row_for atoms) (record { alias = n; column = (first_column atoms (Variable v)).column }) ≡ Some (number_of (h v))) number
      (value_there s.place (first_column atoms (Variable v)).column s.atom (Variable v) s.atom_is s.term_is)

  condition_there : (condition : Condition) → Contains (conditions_of atoms) condition → Holds (map row_for atoms) condition
  condition_there condition among = go (origin atoms condition among)
    where
      from_variable : (i j v : ℕ) (a : Atom) → slice_get atoms i ≡ Some a → slice_get a.terms j ≡ Some (Variable v) → (same : Bool) →
          cond same None (Some (Same (record { alias = i; column = j }) (first_column atoms (Variable v)))) ≡ Some condition → Holds (map row_for atoms) condition
      from_variable i j v a at stands true e = absurd cc
      from_variable i j v a at stands false e =
          let is : Same (record { alias = i; column = j }) (first_column atoms (Variable v)) ≡ condition = cc in
          subst (Holds (map row_for atoms)) is
          (number_of (h v), value_there i j a (Variable v) at stands, first_there v a (Contains-slice_get atoms i a at) (Contains-slice_get a.terms j (Variable v) stands))

      from_term : (i j : ℕ) (a : Atom) (t : Term) → slice_get atoms i ≡ Some a → slice_get a.terms j ≡ Some t → condition_of atoms (record { alias = i; column = j }) t ≡ Some condition →
          Holds (map row_for atoms) condition
      from_term i j a (Constant c) at stands e =
          let is : Is (record { alias = i; column = j }) c ≡ condition = cc in subst (Holds (map row_for atoms)) is (value_there i j a (Constant c) at stands)
      from_term i j a (Variable v) at stands e = from_variable i j v a at stands (column_eq (record { alias = i; column = j }) (first_column atoms (Variable v))) e

      go : Origin atoms condition → Holds (map row_for atoms) condition
      go o = from_term o.alias o.column o.atom o.term o.atom_is o.term_is o.condition_is

  -- what is listed for an answer term
  listed : (t : Term) (c : ℕ) → ((v : ℕ) → t ≡ Variable v → OccursIn atoms (Variable v)) → term_image h t ≡ Constant c → cell_of (map row_for atoms) (output_of atoms t) ≡ Some (text c)
  listed (Constant d) c occurs e = let same : d ≡ c = cc in ap (λ n. Some (text n)) same
  listed (Variable v) c occurs e =
      let (a, i, j) = OccursIn-atom atoms (Variable v) (occurs v refl) in
      ap (option_map text) (first_there v a i j) ∙ ap (λ (t : Term). Some (text (number_of t))) e

  all_listed : (ts : List Term) (cs : List ℕ) → ((v : ℕ) → Contains ts (Variable v) → OccursIn atoms (Variable v)) → terms_image h ts ≡ constants cs →
      map (cell_of (map row_for atoms)) (map (output_of atoms) ts) ≡ map Some (map text cs)
  all_listed [] [] occurs e = refl
  all_listed [] (c ∷ cs) occurs e = absurd cc
  all_listed (t ∷ ts) [] occurs e = absurd cc
  all_listed (t ∷ ts) (c ∷ cs) occurs e =
      let here : term_image h t ≡ Constant c = cc in
      let later : terms_image h ts ≡ constants cs = cc in
      ap₂ (λ x xs. x ∷ xs) (listed t c (λ v is. occurs v (subst (λ (u : Term). Contains (t ∷ ts) u) is (Contains-first t ts))) here)
      (all_listed ts cs (λ v i. occurs v (Contains-rest t ts (Variable v) i)) later)

  pub outputs_listed : (ts : List Term) (cs : List ℕ) → ((v : ℕ) → Contains ts (Variable v) → OccursIn atoms (Variable v)) → terms_image h ts ≡ constants cs →
      map (cell_of (map row_for atoms)) (outputs_of atoms ts) ≡ map Some (row_of cs)
  outputs_listed [] [] occurs e = refl
  outputs_listed [] (c ∷ cs) occurs e = absurd cc
  outputs_listed (t ∷ ts) [] occurs e = absurd cc
  outputs_listed (t ∷ ts) (c ∷ cs) occurs e = all_listed (t ∷ ts) (c ∷ cs) occurs e

  pub conditions_hold : All (Holds (map row_for atoms)) (conditions_of atoms)
  conditions_hold = All-from_contains (Holds (map row_for atoms)) (conditions_of atoms) condition_there

-- the laws
pub select_means_query : SelectMeansQuery
select_means_query q facts tables tuple safe of_constants are = (
  λ y. yielded_maps q.atoms y.chosen q facts tables tuple refl are y.rows y.conditions y.outputs,
  λ m. let s = m.homomorphism.atoms in record {
    chosen = map (row_for m.mapping q.atoms facts of_constants s) q.atoms;
    rows = are_chosen tables table_of (row_for m.mapping q.atoms facts of_constants s) q.atoms (row_there m.mapping q.atoms facts of_constants s tables are);
    conditions = conditions_hold m.mapping q.atoms facts of_constants s;
    outputs = outputs_listed m.mapping q.atoms facts of_constants s q.answers tuple safe.answers m.homomorphism.answers;
  },
)

pub statement_means_union : StatementMeansUnion
statement_means_union union facts tables tuple safe of_constants are = (
  λ y.
      let (select, i, yields) = Any-contains (λ (s : Select). Yields tables s (row_of tuple)) (statement_of union) y in
      let (q, j, is) = Contains-from_map select_of union select i in
      Any-from_contains (λ (q : Query). MapsInto q facts (constants tuple)) union q j
      ((select_means_query q facts tables tuple (All-contains IsSafe union q safe j) of_constants are).0 (subst (λ (s : Select). Yields tables s (row_of tuple)) (sym is) yields)),
  λ m.
      let (q, j, maps) = Any-contains (λ (q : Query). MapsInto q facts (constants tuple)) union m in
      Any-from_contains (λ (s : Select). Yields tables s (row_of tuple)) (statement_of union) (select_of q) (Contains-map select_of union q j)
      ((select_means_query q facts tables tuple (All-contains IsSafe union q safe j) of_constants are).1 maps),
)

pub rows_are_tuples : RowsAreTuples
rows_are_tuples union tables row y =
    let (select, i, yields) = Any-contains (λ (s : Select). Yields tables s row) (statement_of union) y in
    let (q, j, is) = Contains-from_map select_of union select i in
    let of_query = subst (λ (s : Select). Yields tables s row) (sym is) yields in
    tuple_listed q.atoms of_query.chosen q.answers row of_query.outputs

texts_tell : (a b : List ℕ) → map text a ≡ map text b → a ≡ b
texts_tell [] [] e = refl
texts_tell [] (y ∷ b) e = absurd cc
texts_tell (x ∷ a) [] e = absurd cc
texts_tell (x ∷ a) (y ∷ b) e =
    let here : x ≡ y = cc in
    let rest : map text a ≡ map text b = cc in
    ap₂ (λ u us. u ∷ us) here (texts_tell a b rest)

pub rows_tell_tuples : RowsTellTuples
rows_tell_tuples [] [] e = refl
rows_tell_tuples [] (y ∷ b) e = absurd cc
rows_tell_tuples (x ∷ a) [] e = absurd cc
rows_tell_tuples (x ∷ a) (y ∷ b) e = texts_tell (x ∷ a) (y ∷ b) e

pub results_are_answers : ResultsAreAnswers
results_are_answers union facts tables rows safe of_constants are results = (
  λ row. (
    λ i.
        let yields = (results.each row).0 i in
        let (tuple, is) = rows_are_tuples union tables row yields in
        let of_tuple = subst (λ (r : List Cell). StatementYields tables (statement_of union) r) is yields in
        (tuple, is, (statement_means_union union facts tables tuple safe of_constants are).0 of_tuple),
    λ (tuple, is, answer).
        (results.each row).1 (subst (λ (r : List Cell). StatementYields tables (statement_of union) r) (sym is) ((statement_means_union union facts tables tuple safe of_constants are).1 answer)),
  ),
  results.once,
)
