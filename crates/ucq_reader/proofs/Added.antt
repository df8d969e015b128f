-- One more statement, as the code holds it.
use Rattle.std.proofs.Common.{◌≡◌, ◌≢◌, ℕ, ◌+◌, ◌-◌, ◌^◌, ◌≤◌, ◌<◌, List, [], ◌∷◌, ◌++◌, length, refl, sym, ap, ◌∙◌, subst, arith}
use Rattle.std.specs.Prelude.{Option, Result, Ok, Err, OnOk}
use Rattle.std.proofs.lemmas.List.{length-map}
use Rattle.std.proofs.lemmas.List.Elements.{Contains-append_left, Contains-append_right}
use Rattle.std.specs.declared.vec.Vec.{Vec}
use Rattle.std.specs.declared.alloc.Global.{Global}
use Rattle.ucq_lexer.specs.declared.Token.{Token}
use Rattle.ucq_terms.proofs.Lists.{Contains-first, Contains-rest}
use Rattle.ucq_reader.specs.declared.names.Declaration.{Declaration}
use Rattle.ucq_reader.specs.declared.syntax.AtomForm.{AtomForm}
use Rattle.ucq_reader.specs.declared.syntax.Several.{Several as SeveralForm}
use Rattle.ucq_reader.specs.declared.syntax.SentenceForm.{SentenceForm}
use Rattle.ucq_reader.specs.declared.syntax.StatementForm.{StatementForm}
use Rattle.ucq_reader.specs.declared.syntax.StatementForm.TheVariants as statements
use Rattle.ucq_reader.specs.Statement.{AtomSyntax, Sentence, a_fact, a_rule, a_query, a_constraint, Statement, a_sentence, spelling}
use Rattle.ucq_reader.specs.Names.{Declared}
use Rattle.ucq_reader.specs.Meaning.{Placed, listed, symbol, symbol_atoms, answer_terms}
use Rattle.ucq_reader.specs.View.{atoms_view, answers_view, label_view, sentence_view, statement_view, declared_view}
use Rattle.ucq_reader.specs.Gathered.{GatheredValue, IsGathered, IsAccepted}
use Rattle.ucq_reader.specs.Building.{symbols_in, rule_symbols, query_symbols, written_rule, written_query, written_asked, HaveFewTerms, IsSafeQuery, AddsFact, AddsRule, AddsQuery}
use Rattle.ucq_reader.proofs.Parsing.{spelling_pos}
use Rattle.ucq_reader.proofs.Limits.{accepted_limits, few_atoms, have_few_terms, safe_query}
use Rattle.ucq_reader.proofs.Spelled.{length-spelled, fact_symbols, rule_symbols as rule_spelled, query_spelled}
use Rattle.ucq_reader.proofs.Gathering.{nothing_gathered, fact_gathered, rule_gathered, query_gathered, names_grown, unknowns_grown}

-- what follows of a good answer
pub on_ok : {T E : Type 0} (r : Result T E) (P Q : Type 0) → (P → Q) → OnOk r P → OnOk r Q
on_ok (Ok x) P Q f h = f h
on_ok (Err e) P Q f h = tt

-- a statement in its place
abbrev pub placed_at : ℕ → ℕ → List ℕ → Declared → Statement → Placed
placed_at file place starts ds s = record { file = file; number = place; starts = starts; before = ds; statement = s }

-- the statement with this label is this sentence
pub record IsSentence (text : List ℕ) (form : StatementForm) (label : Option Token) (sentence : Sentence) : Type 0 where
  pub written : statement_view text form ≡ a_sentence (label_view text label) sentence

pub sentence_written : (text : List ℕ) (form : StatementForm) (label : Option Token) (sentence shape : SentenceForm) → form ≡ statements.Sentence label sentence → sentence ≡ shape →
    IsSentence text form label (sentence_view text shape)
sentence_written text form label sentence shape e f = record { written = ap (statement_view text) (e ∙ ap (statements.Sentence label) f) }

module _ (text : List ℕ) (declarations : List Declaration) (form : StatementForm) (label : Option Token) where
  -- ---- facts
  module _ (atoms : SeveralForm AtomForm) (is : IsSentence text form label (a_fact (atoms_view text atoms))) where
    pub fact_terms : IsAccepted (declared_view text declarations) (statement_view text form) → HaveFewTerms atoms
    fact_terms accepted =
        let s = a_sentence (label_view text label) (a_fact (atoms_view text atoms)) in
        have_few_terms text atoms (accepted_limits (declared_view text declarations) s (subst (IsAccepted (declared_view text declarations)) is.written accepted)).arity

    pub fact_count : length (symbols_in (symbol_atoms (declared_view text declarations) (atoms_view text atoms))) ≤ length (spelling (statement_view text form))
    fact_count =
        subst (λ s. length (symbols_in (symbol_atoms (declared_view text declarations) (atoms_view text atoms))) ≤ length (spelling s)) (sym is.written)
        (length-spelled (declared_view text declarations) _ _ (fact_symbols (declared_view text declarations) (label_view text label) (atoms_view text atoms)))

    pub fact_more : (old new : GatheredValue) → AddsFact (symbol_atoms (declared_view text declarations) (atoms_view text atoms)) old new → (all : List Placed) (file place : ℕ) (starts : List ℕ) →
        IsGathered all old → IsGathered (all ++ placed_at file place starts (declared_view text declarations) (statement_view text form) ∷ []) new
    fact_more old new adds all file place starts h =
        let ds = declared_view text declarations in
        subst (λ s. IsGathered (all ++ placed_at file place starts ds s ∷ []) new) (sym is.written)
        (fact_gathered all (placed_at file place starts ds (a_sentence (label_view text label) (a_fact (atoms_view text atoms)))) (symbol_atoms ds (atoms_view text atoms)) old new refl refl refl adds h)

    pub fact_names : (old new : GatheredValue) → AddsFact (symbol_atoms (declared_view text declarations) (atoms_view text atoms)) old new → length new.names ≤ length old.names + length (spelling (statement_view text form))
    fact_names old new adds = omega (arith, names_grown old.names new.names (symbols_in (symbol_atoms (declared_view text declarations) (atoms_view text atoms))) adds.names, fact_count)

    pub fact_unknowns : (old new : GatheredValue) → AddsFact (symbol_atoms (declared_view text declarations) (atoms_view text atoms)) old new → new.unknowns ≤ old.unknowns + length (spelling (statement_view text form))
    fact_unknowns old new adds = omega (arith, adds.unknowns, unknowns_grown (symbol_atoms (declared_view text declarations) (atoms_view text atoms)), fact_count)

  -- ---- rules
  module _ (heads body : SeveralForm AtomForm) (is : IsSentence text form label (a_rule (atoms_view text heads) (atoms_view text body))) where
    -- what a rule that is accepted keeps
    pub record KeepsRule : Type 0 where
      pub head_terms : HaveFewTerms heads
      pub body_terms : HaveFewTerms body
      pub few_heads : length heads.others.items < 32
      pub few_body : length body.others.items < 32

    pub rule_limits : IsAccepted (declared_view text declarations) (statement_view text form) → KeepsRule
    rule_limits accepted =
        let ds = declared_view text declarations in
        let head : List AtomSyntax = listed (atoms_view text heads) in
        let rest : List AtomSyntax = listed (atoms_view text body) in
        let limits = accepted_limits ds (a_sentence (label_view text label) (a_rule (atoms_view text heads) (atoms_view text body))) (subst (IsAccepted ds) is.written accepted) in
        record {
          head_terms = have_few_terms text heads (λ a i. limits.arity a (Contains-append_left head rest a i));
          body_terms = have_few_terms text body (λ a i. limits.arity a (Contains-append_right head rest a i));
          few_heads = few_atoms text heads (limits.atoms head (Contains-first head (rest ∷ [])));
          few_body = few_atoms text body (limits.atoms rest (Contains-rest head (rest ∷ []) rest (Contains-first rest [])));
        }

    pub rule_count : length (rule_symbols (written_rule text declarations heads body)) ≤ length (spelling (statement_view text form))
    rule_count =
        subst (λ s. length (rule_symbols (written_rule text declarations heads body)) ≤ length (spelling s)) (sym is.written)
        (length-spelled (declared_view text declarations) _ _ (rule_spelled (declared_view text declarations) (label_view text label) (atoms_view text heads) (atoms_view text body)))

    pub rule_more : (old new : GatheredValue) → AddsRule (written_rule text declarations heads body) old new → (all : List Placed) (file place : ℕ) (starts : List ℕ) →
        IsGathered all old → IsGathered (all ++ placed_at file place starts (declared_view text declarations) (statement_view text form) ∷ []) new
    rule_more old new adds all file place starts h =
        let ds = declared_view text declarations in
        subst (λ s. IsGathered (all ++ placed_at file place starts ds s ∷ []) new) (sym is.written)
        (rule_gathered all (placed_at file place starts ds (a_sentence (label_view text label) (a_rule (atoms_view text heads) (atoms_view text body)))) (written_rule text declarations heads body) old new refl refl refl adds h)

    pub rule_names : (old new : GatheredValue) → AddsRule (written_rule text declarations heads body) old new → length new.names ≤ length old.names + length (spelling (statement_view text form))
    rule_names old new adds = omega (arith, names_grown old.names new.names (rule_symbols (written_rule text declarations heads body)) adds.names, rule_count)

  -- ---- queries
  module _ (answers : Option (Vec Token Global)) (body : SeveralForm AtomForm) (is : IsSentence text form label (a_query (answers_view text answers) (atoms_view text body))) where
    -- what a query that is accepted keeps
    pub record KeepsQuery : Type 0 where
      pub body_terms : HaveFewTerms body
      pub few_body : length body.others.items < 32
      pub few_answers : length (written_query text declarations answers body).answers ≤ 16
      pub safe : IsSafeQuery (written_query text declarations answers body)

    pub query_limits : IsAccepted (declared_view text declarations) (statement_view text form) → KeepsQuery
    query_limits accepted =
        let ds = declared_view text declarations in
        let atoms : List AtomSyntax = listed (atoms_view text body) in
        let limits = accepted_limits ds (a_sentence (label_view text label) (a_query (answers_view text answers) (atoms_view text body))) (subst (IsAccepted ds) is.written accepted) in
        record {
          body_terms = have_few_terms text body limits.arity;
          few_body = few_atoms text body (limits.atoms atoms (Contains-first atoms []));
          few_answers = omega (arith, limits.answers, length-map (answer_terms (answers_view text answers)) (symbol ds));
          safe = safe_query ds (answer_terms (answers_view text answers)) atoms limits.safe;
        }

    pub query_count : length (query_symbols (written_query text declarations answers body)) ≤ length (spelling (statement_view text form))
    query_count =
        subst (λ s. length (query_symbols (written_query text declarations answers body)) ≤ length (spelling s)) (sym is.written)
        (length-spelled (declared_view text declarations) _ _ (query_spelled (declared_view text declarations) (label_view text label) (answers_view text answers) (atoms_view text body)))

    pub query_more : (old new : GatheredValue) → AddsQuery (written_asked text declarations label answers body) old new → (all : List Placed) (file place : ℕ) (starts : List ℕ) →
        IsGathered all old → IsGathered (all ++ placed_at file place starts (declared_view text declarations) (statement_view text form) ∷ []) new
    query_more old new adds all file place starts h =
        let ds = declared_view text declarations in
        subst (λ s. IsGathered (all ++ placed_at file place starts ds s ∷ []) new) (sym is.written)
        (query_gathered all (placed_at file place starts ds (a_sentence (label_view text label) (a_query (answers_view text answers) (atoms_view text body)))) (written_asked text declarations label answers body) old new refl refl refl adds h)

    pub query_names : (old new : GatheredValue) → AddsQuery (written_asked text declarations label answers body) old new →
        length new.names ≤ length old.names + length (spelling (statement_view text form))
    query_names old new adds = omega (arith, names_grown old.names new.names (query_symbols (written_query text declarations answers body)) adds.names, query_count)

    -- a query has words
    pub query_room : (asked : ℕ) → asked + length (spelling (statement_view text form)) < 2 ^ 32 - 1 → asked + 1 < 2 ^ 32
    query_room asked l = omega (arith, l, spelling_pos (statement_view text form))

    pub query_asked : (old new : GatheredValue) → AddsQuery (written_asked text declarations label answers body) old new → new.asked ≤ old.asked + length (spelling (statement_view text form))
    query_asked old new adds = omega (arith, adds.asked, spelling_pos (statement_view text form))

  -- ---- constraints are refused
  pub no_constraint : (body : SeveralForm AtomForm) → IsSentence text form label (a_constraint (atoms_view text body)) → IsAccepted (declared_view text declarations) (statement_view text form) → ⊥
  no_constraint body is accepted =
      let s = a_sentence (label_view text label) (a_constraint (atoms_view text body)) in
      (accepted_limits (declared_view text declarations) s (subst (IsAccepted (declared_view text declarations)) is.written accepted)).built (label_view text label) (atoms_view text body) refl

-- ---- other lines stand for nothing

pub line_more : (text : List ℕ) (declarations : List Declaration) (form : StatementForm) → ((label : Option Token) (sentence : SentenceForm) → form ≢ statements.Sentence label sentence) → (g : GatheredValue) (all : List Placed) (file place : ℕ) (starts : List ℕ) →
    IsGathered all g → IsGathered (all ++ placed_at file place starts (declared_view text declarations) (statement_view text form) ∷ []) g
line_more text declarations (statements.Section kind) other g all file place starts h = nothing_gathered all _ g refl refl refl refl h
line_more text declarations (statements.Prefix name iri dotted) other g all file place starts h = nothing_gathered all _ g refl refl refl refl h
line_more text declarations (statements.Base iri dotted) other g all file place starts h = nothing_gathered all _ g refl refl refl refl h
line_more text declarations (statements.Top name dotted) other g all file place starts h = nothing_gathered all _ g refl refl refl refl h
line_more text declarations (statements.Sentence label sentence) other g all file place starts h = absurd (other label sentence refl)
