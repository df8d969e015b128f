-- Rules, queries and facts that are built.
use Rattle.std.proofs.Common.{◌≡◌, ℕ, ◌+◌, ◌-◌, ◌^◌, ◌<◌, List, [], ◌∷◌, ◌++◌, map, length, Contains, refl, sym, ap, ap₂, ◌∙◌, subst, arith, zero-add}
use Rattle.std.specs.Prelude.{Option, Some}
use Rattle.std.proofs.lemmas.List.{append-nil, length-map, length-append}
use Rattle.std.proofs.lemmas.List.Elements.{filter_map-append}
use Rattle.std.specs.declared.vec.Vec.{Vec}
use Rattle.std.specs.declared.alloc.Global.{Global}
use Rattle.ucq_terms.specs.declared.Term.{Term}
use Rattle.ucq_terms.specs.declared.Term.TheVariants.{Variable}
use Rattle.ucq_terms.specs.Syntax.{Atom, Rule, IsSafe}
use Rattle.ucq_terms.specs.Numbering.{numbered_rule, normal_query}
use Rattle.ucq_terms.proofs.Lists.{Contains-from_map, Contains-map, map-map}
use Rattle.ucq_terms.proofs.Orders.{OccursIn-terms_of}
use Rattle.ucq_lexer.specs.declared.Token.{Token}
use Rattle.ucq_reader.specs.declared.building.Numbers.{Numbers}
use Rattle.ucq_reader.specs.declared.names.Declaration.{Declaration}
use Rattle.ucq_reader.specs.declared.syntax.AtomForm.{AtomForm}
use Rattle.ucq_reader.specs.declared.syntax.Several.{Several as SeveralForm}
use Rattle.ucq_reader.specs.Names.{number}
use Rattle.ucq_reader.specs.Meaning.{Symbol, constant, variable, SymbolAtom, SymbolRule, SymbolQuery, symbol, symbol_atom, symbol_atoms, answer_terms}
use Rattle.ucq_reader.specs.Input.{variable_text, variables_in, terms_in, term_value, atom_value, rule_value, IsQueryOf}
use Rattle.ucq_reader.specs.View.{term_view, atom_view, atoms_view, answers_view, declared_view}
use Rattle.ucq_reader.specs.Building.{token_symbol, constants_of, variables_of, symbols_in, rule_symbols, query_symbols, with_names, HasRoom, HasNumbered, place_in, AddsTerms, AddsAtoms, IsSafeQuery}
use Rattle.ucq_reader.proofs.Built.{room_left, numbered_append, atoms_later, terms_later}
use Rattle.ucq_reader.proofs.Renumbering.{rule-again, query-again, terms-values}

-- names are no variables
pub variables-symbols : (atoms : List SymbolAtom) → variables_of (symbols_in atoms) ≡ variables_of (terms_in atoms)
variables-symbols [] = refl
variables-symbols (a ∷ atoms) =
    filter_map-append variable_text a.terms (symbols_in atoms) ∙ (ap (λ l. variables_of a.terms ++ l) (variables-symbols atoms) ∙ sym (filter_map-append variable_text a.terms (terms_in atoms)))

-- a statement has begun, with all numbers to give
pub record HasBegun (old new : Numbers) (first : ℕ) : Type 0 where
  pub names : new.names ≡ old.names
  pub variables : new.variables ≡ []
  pub first_is : new.first ≡ first

pub room_begun : (old new : Numbers) (first count : ℕ) → HasBegun old new first → length old.names + count < 2 ^ 32 - 1 → first + count < 2 ^ 32 - 1 → HasRoom new count
room_begun old new first count h l m = record {
  names = omega (arith, ap length h.names, l);
  variables = omega (arith, ap length h.variables, h.first_is, m);
}

-- the tables once a statement was built
pub record IsDone (old new : Numbers) (first : ℕ) (symbols : List Symbol) : Type 0 where
  pub names : new.names ≡ with_names old.names (constants_of symbols)
  pub variables : new.variables ≡ with_names [] (variables_of symbols)
  pub first_is : new.first ≡ first

pub done : (old begun new : Numbers) (first : ℕ) (symbols : List Symbol) → HasBegun old begun first → HasNumbered begun new symbols → IsDone old new first symbols
done old begun new first symbols b h = record {
  names = h.names ∙ ap (λ l. with_names l (constants_of symbols)) b.names;
  variables = h.variables ∙ ap (λ l. with_names l (variables_of symbols)) b.variables;
  first_is = h.first ∙ b.first_is;
}

-- what was added, with the tables as they are then
pub atoms_now : (n : Numbers) (added : List SymbolAtom) (before after : List Atom) (first : ℕ) (variables : List (List ℕ)) → AddsAtoms n added before after → n.first ≡ first → n.variables ≡ variables →
    after ≡ before ++ map (atom_value n.names (place_in first variables)) added
atoms_now n added before after first variables h e f =
    h.value [] [] ∙ (ap₂ (λ ns vs. before ++ map (atom_value ns (place_in n.first vs)) added) (append-nil n.names) (append-nil n.variables ∙ f) ∙
    ap (λ k. before ++ map (atom_value n.names (place_in k variables)) added) e)

pub terms_now : (n : Numbers) (added : List Symbol) (before after : List Term) (first : ℕ) (variables : List (List ℕ)) → AddsTerms n added before after → n.first ≡ first → n.variables ≡ variables →
    after ≡ before ++ map (term_value n.names (place_in first variables)) added
terms_now n added before after first variables h e f =
    h.value [] [] ∙ (ap₂ (λ ns vs. before ++ map (term_value ns (place_in n.first vs)) added) (append-nil n.names) (append-nil n.variables ∙ f) ∙
    ap (λ k. before ++ map (term_value n.names (place_in k variables)) added) e)

-- numbers from 0 on
from_zero : (variables : List (List ℕ)) → place_in 0 variables ≡ number variables
from_zero variables = λ i x. zero-add (number variables x) i

length-added : (n : Numbers) (added : List SymbolAtom) (before after : List Atom) → before ≡ [] → AddsAtoms n added before after → length after ≡ length added
length-added n added before after e h =
    ap length (h.value [] [] ∙ ap (λ l. l ++ map (atom_value (n.names ++ []) (place_in n.first (n.variables ++ []))) added) e) ∙
    length-map added (atom_value (n.names ++ []) (place_in n.first (n.variables ++ [])))

-- as many atoms as are written
pub length-several_added : (text : List ℕ) (ds : List Declaration) (forms : SeveralForm AtomForm) (n : Numbers) (before after : List Atom) → before ≡ [] →
    AddsAtoms n (symbol_atoms (declared_view text ds) (atoms_view text forms)) before after → length after ≡ 1 + length forms.others.items
length-several_added text ds forms n before after e h =
    let others = map (atom_view text) forms.others.items in
    omega (
      arith,
      length-added n (symbol_atoms (declared_view text ds) (atoms_view text forms)) before after e h,
      length-map others (symbol_atom (declared_view text ds)),
      length-map forms.others.items (atom_view text),
    )

-- ---- a rule

pub record IsBuiltRule (old new : Numbers) (r : SymbolRule) (built : Rule) : Type 0 where
  pub names : new.names ≡ with_names old.names (constants_of (rule_symbols r))
  pub value : numbered_rule built ≡ rule_value new.names r

pub rule_built : (old begun mid new : Numbers) (r : SymbolRule) (no_heads heads no_body body : List Atom) → HasBegun old begun 0 → no_heads ≡ [] → no_body ≡ [] →
    HasNumbered begun mid (symbols_in r.heads) → AddsAtoms mid r.heads no_heads heads → HasNumbered mid new (symbols_in r.body) → AddsAtoms new r.body no_body body →
    IsBuiltRule old new r (record { heads = heads; body = body })
rule_built old begun mid new r no_heads heads no_body body begins none_heads none_body first head_atoms second body_atoms =
    let vs = variables_in (terms_in r.heads ++ terms_in r.body) in
    let d = done old begun new 0 (symbols_in r.heads ++ symbols_in r.body) begins (numbered_append begun mid new (symbols_in r.heads) (symbols_in r.body) first second) in
    let variables : new.variables ≡ vs =
    d.variables ∙ ap (with_names [])
    (filter_map-append variable_text (symbols_in r.heads) (symbols_in r.body) ∙ (ap₂ (λ l m. l ++ m) (variables-symbols r.heads) (variables-symbols r.body) ∙ sym (filter_map-append variable_text (terms_in r.heads) (terms_in r.body)))) in
    let heads_are : heads ≡ map (atom_value new.names (number vs)) r.heads =
    atoms_now new r.heads no_heads heads 0 vs (atoms_later mid new (symbols_in r.body) r.heads no_heads heads second head_atoms) d.first_is variables ∙
    (ap (λ l. l ++ map (atom_value new.names (place_in 0 vs)) r.heads) none_heads ∙ ap (λ p. map (atom_value new.names p) r.heads) (from_zero vs)) in
    let body_are : body ≡ map (atom_value new.names (number vs)) r.body =
    atoms_now new r.body no_body body 0 vs body_atoms d.first_is variables ∙
    (ap (λ l. l ++ map (atom_value new.names (place_in 0 vs)) r.body) none_body ∙ ap (λ p. map (atom_value new.names p) r.body) (from_zero vs)) in
    let made : (record { heads = heads; body = body }) ≡ rule_value new.names r = λ i. record { heads = heads_are i; body = body_are i } in
    record { names = d.names; value = ap numbered_rule made ∙ rule-again new.names r }

-- ---- a query

pub record IsBuiltQuery (old new : Numbers) (q : SymbolQuery) (answers : List Term) (atoms : List Atom) : Type 0 where
  pub names : new.names ≡ with_names old.names (constants_of (query_symbols q))
  pub value : IsQueryOf new.names q (normal_query (record { answers = answers; atoms = atoms }))
  pub safe : IsSafeQuery q → 0 < length q.atoms → IsSafe (record { answers = answers; atoms = atoms })
  pub few : length answers ≡ length q.answers

-- a variable's value is that of the variable
value_variable : (names : List (List ℕ)) (place : List ℕ → ℕ) (s : Symbol) (v : ℕ) → term_value names place s ≡ Variable v → (x : List ℕ) × (s ≡ variable x)
value_variable names place (constant text) v e = absurd cc
value_variable names place (variable text) v e = (text, refl)

pub safe_values : (names : List (List ℕ)) (place : List ℕ → ℕ) (q : SymbolQuery) → IsSafeQuery q → 0 < length q.atoms →
    IsSafe (record { answers = map (term_value names place) q.answers; atoms = map (atom_value names place) q.atoms })
safe_values names place q safe some = record {
  nonempty = omega (arith, length-map q.atoms (atom_value names place), some);
  answers = λ v i.
      let (s, j, e) = Contains-from_map (term_value names place) q.answers (Variable v) i in
      let (x, f) = value_variable names place s v e in
      let stands : Contains (terms_in q.atoms) s = subst (λ t. Contains (terms_in q.atoms) t) (sym f) (safe.stands x (subst (λ t. Contains q.answers t) f j)) in
      OccursIn-terms_of (map (atom_value names place) q.atoms) (Variable v)
      (subst (λ l. Contains l (Variable v)) (sym (terms-values names place q.atoms)) (subst (λ t. Contains (map (term_value names place) (terms_in q.atoms)) t) e (Contains-map (term_value names place) (terms_in q.atoms) s stands)));
}

pub query_built : (old begun mid new : Numbers) (q : SymbolQuery) (no_answers answers : List Term) (no_atoms atoms : List Atom) → HasBegun old begun 0 → no_answers ≡ [] → no_atoms ≡ [] →
    HasNumbered begun mid q.answers → AddsTerms mid q.answers no_answers answers → HasNumbered mid new (symbols_in q.atoms) → AddsAtoms new q.atoms no_atoms atoms →
    IsBuiltQuery old new q answers atoms
query_built old begun mid new q no_answers answers no_atoms atoms begins none_answers none_atoms first terms second added =
    let vs = variables_in (q.answers ++ terms_in q.atoms) in
    let d = done old begun new 0 (q.answers ++ symbols_in q.atoms) begins (numbered_append begun mid new q.answers (symbols_in q.atoms) first second) in
    let variables : new.variables ≡ vs =
    d.variables ∙ ap (with_names [])
    (filter_map-append variable_text q.answers (symbols_in q.atoms) ∙ (ap (λ l. variables_of q.answers ++ l) (variables-symbols q.atoms) ∙ sym (filter_map-append variable_text q.answers (terms_in q.atoms)))) in
    let answers_are : answers ≡ map (term_value new.names (number vs)) q.answers =
    terms_now new q.answers no_answers answers 0 vs (terms_later mid new (symbols_in q.atoms) q.answers no_answers answers second terms) d.first_is variables ∙
    (ap (λ l. l ++ map (term_value new.names (place_in 0 vs)) q.answers) none_answers ∙ ap (λ p. map (term_value new.names p) q.answers) (from_zero vs)) in
    let atoms_are : atoms ≡ map (atom_value new.names (number vs)) q.atoms =
    atoms_now new q.atoms no_atoms atoms 0 vs added d.first_is variables ∙
    (ap (λ l. l ++ map (atom_value new.names (place_in 0 vs)) q.atoms) none_atoms ∙ ap (λ p. map (atom_value new.names p) q.atoms) (from_zero vs)) in
    record {
      names = d.names;
      value = query-again new.names q answers atoms answers_are atoms_are;
      safe = λ safe some.
          subst (λ (x : List Term). IsSafe (record { answers = x; atoms = atoms })) (sym answers_are)
          (subst (λ (y : List Atom). IsSafe (record { answers = map (term_value new.names (number vs)) q.answers; atoms = y })) (sym atoms_are) (safe_values new.names (number vs) q safe some));
      few = ap length answers_are ∙ length-map q.answers (term_value new.names (number vs));
    }

-- the answers that are written
pub answers_written : (text : List ℕ) (ds : List Declaration) (answers : Option (Vec Token Global)) (tokens : Vec Token Global) (items : List Token) → answers ≡ Some tokens → items ≡ tokens.items →
    map (token_symbol text ds) items ≡ map (symbol (declared_view text ds)) (answer_terms (answers_view text answers))
answers_written text ds answers tokens items e f =
    ap (map (token_symbol text ds)) f ∙ (sym (map-map (symbol (declared_view text ds)) (term_view text) (token_symbol text ds) tokens.items (λ t. refl)) ∙
    ap (λ a. map (symbol (declared_view text ds)) (answer_terms (answers_view text a))) (sym e))

-- the second part of a statement has room
pub second_room : (old begun mid : Numbers) (xs ys : List Symbol) → HasBegun old begun 0 → HasNumbered begun mid xs → length old.names + length (xs ++ ys) < 2 ^ 32 - 1 → HasRoom mid (length ys)
second_room old begun mid xs ys b h l =
    room_left begun mid xs (length ys) (length (xs ++ ys)) h (omega (arith, length-append xs ys)) (room_begun old begun 0 (length (xs ++ ys)) b l (omega (arith, l)))

-- ---- a fact statement

pub record IsBuiltFact (old new : Numbers) (first : ℕ) (f : List SymbolAtom) (before after : List Atom) : Type 0 where
  pub names : new.names ≡ with_names old.names (constants_of (symbols_in f))
  pub variables : new.variables ≡ variables_in (terms_in f)
  pub facts : after ≡ before ++ map (atom_value new.names (place_in first (variables_in (terms_in f)))) f

pub fact_built : (old begun new : Numbers) (first : ℕ) (f : List SymbolAtom) (before after : List Atom) → HasBegun old begun first → HasNumbered begun new (symbols_in f) → AddsAtoms new f before after →
    IsBuiltFact old new first f before after
fact_built old begun new first f before after b h added =
    let d = done old begun new first (symbols_in f) b h in
    let variables : new.variables ≡ variables_in (terms_in f) = d.variables ∙ ap (with_names []) (variables-symbols f) in
    record { names = d.names; variables = variables; facts = atoms_now new f before after first (variables_in (terms_in f)) added d.first_is variables }
