-- The statements of the code, without where they lie in memory.
use Rattle.std.specs.Prelude.{◌≡◌, ℕ, List, map, reverse, slice_range, Option, Some, None}
use Rattle.ucq_lexer.specs.declared.Kind.{Kind}
use Rattle.ucq_lexer.specs.declared.Kind.TheVariants.{Variable, Identifier, Prefixed, Integer, Text}
use Rattle.ucq_lexer.specs.declared.Token.{Token}
use Rattle.ucq_reader.specs.declared.names.Declaration.{Declaration}
use Rattle.ucq_reader.specs.Names.{Declared, inner_bytes}
use Rattle.ucq_reader.specs.declared.syntax.AtomForm.{AtomForm}
use Rattle.ucq_reader.specs.declared.syntax.Several.{Several as SeveralForm}
use Rattle.ucq_reader.specs.declared.syntax.SectionKind.{SectionKind}
use Rattle.ucq_reader.specs.declared.syntax.SectionKind.TheVariants as sections
use Rattle.ucq_reader.specs.declared.syntax.SentenceForm.{SentenceForm}
use Rattle.ucq_reader.specs.declared.syntax.SentenceForm.TheVariants as sentences
use Rattle.ucq_reader.specs.declared.syntax.StatementForm.{StatementForm}
use Rattle.ucq_reader.specs.declared.syntax.StatementForm.TheVariants as statements
use Rattle.ucq_reader.specs.declared.syntax.PartForm.{PartForm}
use Rattle.ucq_reader.specs.declared.syntax.PartForm.TheVariants as parts
use Rattle.ucq_reader.specs.declared.syntax.CommandForm.{CommandForm}
use Rattle.ucq_reader.specs.declared.syntax.CommandForm.TheVariants as commands
use Rattle.ucq_reader.specs.declared.syntax.Stage.{Stage}
use Rattle.ucq_reader.specs.declared.syntax.Stage.TheVariants as stages
use Rattle.ucq_reader.specs.declared.syntax.Step.{Step}
use Rattle.ucq_reader.specs.declared.syntax.Step.TheVariants as steps
use Rattle.ucq_reader.specs.Statement.{Command, facts, rules, queries, constraints, una, prefix, base, top, other, Word, word_of, Several, NameSyntax, by_identifier, by_iri, by_prefixed, TermSyntax, a_variable, a_name, an_integer, a_text, AtomSyntax, Section, of_facts, of_rules, of_queries, of_constraints, of_una, Sentence, a_fact, a_rule, a_query, a_constraint, Statement, a_section, a_prefix, a_base, a_top, a_sentence}
use Rattle.ucq_reader.specs.Machine.{Part, first_atoms, body_of_rule, body_of_query, body_of_constraint, State, begin, prefix_begun, prefix_named, prefix_given, base_begun, base_given, top_begun, top_given, ended, labelled, asked, answers_begun, answer_given, answer_wanted, answers_given, forbidden, atom_wanted, atom_named, terms_begun, term_given, term_wanted, atom_given, step}
use Rattle.std.specs.declared.vec.Vec.{Vec}
use Rattle.std.specs.declared.alloc.Global.{Global}

abbrev pub bytes_of : List ℕ → Token → List ℕ
bytes_of text t = slice_range text t.start t.end

abbrev pub word_at : List ℕ → Token → Word
word_at text t = word_of t.kind (bytes_of text t)

abbrev pub name_by : Kind → List ℕ → NameSyntax
name_by Identifier bytes = by_identifier bytes
name_by Prefixed bytes = by_prefixed bytes
name_by _ bytes = by_iri bytes

abbrev pub term_by : Kind → List ℕ → TermSyntax
term_by Variable bytes = a_variable bytes
term_by Integer bytes = an_integer bytes
term_by Text bytes = a_text bytes
term_by kind bytes = a_name (name_by kind bytes)

abbrev pub name_view : List ℕ → Token → NameSyntax
name_view text t = name_by t.kind (bytes_of text t)

abbrev pub term_view : List ℕ → Token → TermSyntax
term_view text t = term_by t.kind (bytes_of text t)

abbrev pub terms_view : List ℕ → SeveralForm Token → Several TermSyntax
terms_view text xs = record { first = term_view text xs.first; others = map (term_view text) xs.others.items }

abbrev pub atom_view : List ℕ → AtomForm → AtomSyntax
atom_view text a = record { name = name_view text a.name; terms = terms_view text a.terms }

abbrev pub atoms_view : List ℕ → SeveralForm AtomForm → Several AtomSyntax
atoms_view text xs = record { first = atom_view text xs.first; others = map (atom_view text) xs.others.items }

abbrev pub label_view : List ℕ → Option Token → Option (List ℕ)
label_view text None = None
label_view text (Some t) = Some (bytes_of text t)

abbrev pub answers_view : List ℕ → Option (Vec Token Global) → Option (List TermSyntax)
answers_view text None = None
answers_view text (Some v) = Some (map (term_view text) v.items)

abbrev pub section_view : SectionKind → Section
section_view sections.Facts = of_facts
section_view sections.Rules = of_rules
section_view sections.Queries = of_queries
section_view sections.Constraints = of_constraints
section_view sections.Una = of_una

abbrev pub sentence_view : List ℕ → SentenceForm → Sentence
sentence_view text (sentences.Fact atoms) = a_fact (atoms_view text atoms)
sentence_view text (sentences.Rule head body) = a_rule (atoms_view text head) (atoms_view text body)
sentence_view text (sentences.Query answers body) = a_query (answers_view text answers) (atoms_view text body)
sentence_view text (sentences.Constraint body) = a_constraint (atoms_view text body)

abbrev pub statement_view : List ℕ → StatementForm → Statement
statement_view text (statements.Section kind) = a_section (section_view kind)
statement_view text (statements.Prefix name iri dotted) = a_prefix (bytes_of text name) (bytes_of text iri) dotted
statement_view text (statements.Base iri dotted) = a_base (bytes_of text iri) dotted
statement_view text (statements.Top name dotted) = a_top (name_view text name) dotted
statement_view text (statements.Sentence label sentence) = a_sentence (label_view text label) (sentence_view text sentence)

abbrev pub part_view : List ℕ → PartForm → Part
part_view text parts.FirstAtoms = first_atoms
part_view text (parts.BodyOfRule head) = body_of_rule (atoms_view text head)
part_view text (parts.BodyOfQuery answers) = body_of_query (answers_view text answers)
part_view text parts.BodyOfConstraint = body_of_constraint

abbrev pub command_view : CommandForm → Command
command_view (commands.Section sections.Facts) = facts
command_view (commands.Section sections.Rules) = rules
command_view (commands.Section sections.Queries) = queries
command_view (commands.Section sections.Constraints) = constraints
command_view (commands.Section sections.Una) = una
command_view commands.Prefix = prefix
command_view commands.Base = base
command_view commands.Top = top
command_view commands.Other = other

abbrev pub stage_view : List ℕ → Stage → State
stage_view text stages.Begin = begin
stage_view text stages.PrefixBegun = prefix_begun
stage_view text (stages.PrefixNamed name) = prefix_named (bytes_of text name)
stage_view text (stages.PrefixGiven name iri) = prefix_given (bytes_of text name) (bytes_of text iri)
stage_view text stages.BaseBegun = base_begun
stage_view text (stages.BaseGiven iri) = base_given (bytes_of text iri)
stage_view text stages.TopBegun = top_begun
stage_view text (stages.TopGiven name) = top_given (name_view text name)
stage_view text (stages.Ended statement) = ended (statement_view text statement)
stage_view text (stages.Labelled label) = labelled (bytes_of text label)
stage_view text (stages.Asked l) = asked (label_view text l)
stage_view text (stages.AnswersBegun l) = answers_begun (label_view text l)
stage_view text (stages.AnswerGiven l terms) = answer_given (label_view text l) (terms_view text terms)
stage_view text (stages.AnswerWanted l terms) = answer_wanted (label_view text l) (terms_view text terms)
stage_view text (stages.AnswersGiven l answers) = answers_given (label_view text l) (answers_view text answers)
stage_view text (stages.Forbidden l) = forbidden (label_view text l)
stage_view text (stages.AtomWanted l part before) = atom_wanted (label_view text l) (part_view text part) (map (atom_view text) before.items)
stage_view text (stages.AtomNamed l part before name) = atom_named (label_view text l) (part_view text part) (map (atom_view text) before.items) (name_view text name)
stage_view text (stages.TermsBegun l part before name) = terms_begun (label_view text l) (part_view text part) (map (atom_view text) before.items) (name_view text name)
stage_view text (stages.TermGiven l part before name terms) = term_given (label_view text l) (part_view text part) (map (atom_view text) before.items) (name_view text name) (terms_view text terms)
stage_view text (stages.TermWanted l part before name terms) = term_wanted (label_view text l) (part_view text part) (map (atom_view text) before.items) (name_view text name) (terms_view text terms)
stage_view text (stages.AtomGiven l part before atom) = atom_given (label_view text l) (part_view text part) (map (atom_view text) before.items) (atom_view text atom)

-- what the code answers is what the step gives
abbrev pub IsStageStep : List ℕ → State → Token → Step → Type 0
IsStageStep text old token (steps.Next stage) = step old (word_at text token) ≡ Some (stage_view text stage)
IsStageStep text old token (steps.Stops stage) = (step old (word_at text token) ≡ None) × (stage_view text stage ≡ old)

abbrev pub next_view : List ℕ → Option Stage → Option State
next_view text None = None
next_view text (Some stage) = Some (stage_view text stage)

-- a line that is no sentence has begun
abbrev pub IsLineStage : Stage → Type 0
IsLineStage stages.PrefixBegun = Unit {0}
IsLineStage (stages.PrefixNamed name) = Unit {0}
IsLineStage (stages.PrefixGiven name iri) = Unit {0}
IsLineStage stages.BaseBegun = Unit {0}
IsLineStage (stages.BaseGiven iri) = Unit {0}
IsLineStage stages.TopBegun = Unit {0}
IsLineStage (stages.TopGiven name) = Unit {0}
IsLineStage _ = ⊥

abbrev pub whole_view : List ℕ → Option StatementForm → Option Statement
whole_view text None = None
whole_view text (Some statement) = Some (statement_view text statement)

-- the prefixes that are declared in these lines, the last first
abbrev pub declared_view : List ℕ → List Declaration → Declared
declared_view text ds = map (λ (d : Declaration). (bytes_of text d.name, inner_bytes (bytes_of text d.iri))) (reverse ds)

abbrev pub found_view : List ℕ → Option Token → Option (List ℕ)
found_view text None = None
found_view text (Some iri) = Some (inner_bytes (bytes_of text iri))
