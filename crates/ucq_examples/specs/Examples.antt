-- Worked examples of the definitions: what each says of a few small rules and queries.
use Rattle.std.specs.Prelude.{ℕ, List, [], ◌∷◌}
use Rattle.ucq_terms.specs.declared.Term.{Term}
use Rattle.ucq_terms.specs.declared.Term.TheVariants.{Constant, Variable}
use Rattle.ucq_terms.specs.Syntax.{Atom, Rule, Query}
use Rattle.ucq_terms.specs.Homomorphism.{IsCore}
use Rattle.ucq_terms.specs.Chase.{IsChaseAnswer}
use Rattle.ucq_terms.specs.Unifier.{IsPieceUnifier, IsSinglePiece}
use Rattle.ucq_terms.specs.Rewriting.{Member, IsAggregate, Rewrites, HasWidth, IsOneStep, IsInLevel}
use Rattle.ucq_terms.specs.Union.{IsExact}
use Rattle.ucq_store.specs.Laws.{IsEnough}

-- The variables X, Y, Z, W and V, and the constants a and b.
abbrev pub X : Term
X = Variable 0

abbrev pub Y : Term
Y = Variable 1

abbrev pub Z : Term
Z = Variable 2

abbrev pub W : Term
W = Variable 3

abbrev pub V : Term
V = Variable 4

abbrev pub constant_a : Term
constant_a = Constant 0

abbrev pub constant_b : Term
constant_b = Constant 1

-- The atoms p(x,y), s(x) and t(x).
abbrev pub p : Term → Term → Atom
p x y = record { name = 0; terms = x ∷ y ∷ [] }

abbrev pub s : Term → Atom
s x = record { name = 1; terms = x ∷ [] }

abbrev pub t : Term → Atom
t x = record { name = 2; terms = x ∷ [] }

-- a query without answer variables
abbrev pub asks : List Atom → Query
asks atoms = record { answers = []; atoms = atoms }

-- a member that uses the only rule, with these pairs
abbrev pub member : List (ℕ × ℕ) → Member
member pairs = record { rule = 0; pairs = pairs }

-- p(X,X) :- s(X)
abbrev pub loop_rule : Rule
loop_rule = record { heads = p X X ∷ []; body = s X ∷ [] }

-- p(X,Y) :- s(X)
abbrev pub edge_rule : Rule
edge_rule = record { heads = p X Y ∷ []; body = s X ∷ [] }

-- p(X,Y), t(Y) :- s(X)
abbrev pub marked_edge_rule : Rule
marked_edge_rule = record { heads = p X Y ∷ t Y ∷ []; body = s X ∷ [] }

-- p(X,a) :- s(X)
abbrev pub edge_to_a_rule : Rule
edge_to_a_rule = record { heads = p X constant_a ∷ []; body = s X ∷ [] }

-- s(X) :- p(X,Y)
abbrev pub source_rule : Rule
source_rule = record { heads = s X ∷ []; body = p X Y ∷ [] }

-- ? :- p(X,Y), p(Y,X)
abbrev pub there_and_back : Query
there_and_back = asks (p X Y ∷ p Y X ∷ [])

-- the first atom of a query matched with that of the head, and the second
abbrev pub first : List (ℕ × ℕ)
first = (0, 0) ∷ []

abbrev pub second : List (ℕ × ℕ)
second = (1, 0) ∷ []

abbrev pub both : List (ℕ × ℕ)
both = (0, 0) ∷ (1, 0) ∷ []

-- With p(X,X) :- s(X), each atom of ? :- p(X,Y), p(Y,X) is a piece of its own. An aggregate of the two makes ? :- s(X).
-- The two atoms in one matching are a piece-unifier, and no single piece.
pub record TwoPieces : Type 0 where
  pub aggregate : IsAggregate there_and_back (loop_rule ∷ []) (member first ∷ member second ∷ [])
  pub rewriting : Rewrites there_and_back (loop_rule ∷ []) (member first ∷ member second ∷ []) (asks (s X ∷ []))
  pub together : IsPieceUnifier there_and_back loop_rule both
  pub not_single : ¬ IsSinglePiece there_and_back loop_rule both

-- With p(X,Y) :- s(X), neither ?(Y) :- p(X,Y) nor ? :- p(X,Y), t(Y) has a one-step rewriting: Y is separating there, by
-- the answer list or by the atom that nothing matches.
pub record SeparatingBlocks : Type 0 where
  pub answer : (result : Query) → ¬ IsOneStep (edge_rule ∷ []) (record { answers = Y ∷ []; atoms = p X Y ∷ [] }) result
  pub other_atom : (result : Query) → ¬ IsOneStep (edge_rule ∷ []) (asks (p X Y ∷ t Y ∷ [])) result

-- With p(X,Y), t(Y) :- s(X), the two atoms of ? :- p(X,Y), t(Y) are one piece, and neither alone unifies.
pub record HeadOfTwoFrees : Type 0 where
  pub together : IsSinglePiece (asks (p X Y ∷ t Y ∷ [])) marked_edge_rule ((0, 0) ∷ (1, 1) ∷ [])
  pub first_alone : ¬ IsPieceUnifier (asks (p X Y ∷ t Y ∷ [])) marked_edge_rule ((0, 0) ∷ [])
  pub second_alone : ¬ IsPieceUnifier (asks (p X Y ∷ t Y ∷ [])) marked_edge_rule ((1, 1) ∷ [])

-- With p(X,a) :- s(X), ? :- p(X,b) has no one-step rewriting, as two constants clash.
abbrev pub ConstantsClash : Type 0
ConstantsClash = (result : Query) → ¬ IsOneStep (edge_to_a_rule ∷ []) (asks (p X constant_b ∷ [])) result

-- ?(X,Z) :- p(X,Y), p(Z,Y)
abbrev pub meeting_edges : Query
meeting_edges = record { answers = X ∷ Z ∷ []; atoms = p X Y ∷ p Z Y ∷ [] }

-- With p(X,Y) :- s(X), the two atoms of ?(X,Z) :- p(X,Y), p(Z,Y) share what is existential, so they are matched together
-- or not at all, and the rewriting is ?(X,X) :- s(X).
pub record SharedExistential : Type 0 where
  pub together : IsSinglePiece meeting_edges edge_rule both
  pub first_alone : ¬ IsPieceUnifier meeting_edges edge_rule first
  pub second_alone : ¬ IsPieceUnifier meeting_edges edge_rule second
  pub rewriting : Rewrites meeting_edges (edge_rule ∷ []) (member both ∷ []) (record { answers = X ∷ X ∷ []; atoms = s X ∷ [] })

-- ?(X,Z) :- p(X,Y), p(Z,W)
abbrev pub free_edges : Query
free_edges = record { answers = X ∷ Z ∷ []; atoms = p X Y ∷ p Z W ∷ [] }

-- Two copies of p(X,Y) :- s(X) rewrite ?(X,Z) :- p(X,Y), p(Z,W) to ?(X,V) :- s(X), s(V), where V is the name of Z's class.
abbrev pub TwoCopies : Type 0
TwoCopies = Rewrites free_edges (edge_rule ∷ []) (member first ∷ member second ∷ []) (record { answers = X ∷ V ∷ []; atoms = s X ∷ s V ∷ [] })

-- ? :- p(X,Y) and ? :- p(X,Y), p(Z,W)
abbrev pub one_edge : Query
one_edge = asks (p X Y ∷ [])

abbrev pub two_edges : Query
two_edges = asks (p X Y ∷ p Z W ∷ [])

-- The first is a core, and the second is none. Without rules, the first alone is the exact union of the second.
pub record Cores : Type 0 where
  pub one : IsCore one_edge
  pub two : ¬ IsCore two_edges
  pub exact : IsExact (record { rules = []; query = two_edges }) (one_edge ∷ [])

-- With p(X,Y) :- s(X), the fact s(a) gives ?(X) :- p(X,Y) the answer a.
abbrev pub ChaseAnswers : Type 0
ChaseAnswers =
    IsChaseAnswer (record { rules = edge_rule ∷ []; query = record { answers = X ∷ []; atoms = p X Y ∷ [] } }) (s constant_a ∷ []) (constant_a ∷ [])

-- ? :- s(a), s(a), the atom twice
abbrev pub twice : Query
twice = asks (s constant_a ∷ s constant_a ∷ [])

-- With s(X) :- p(X,Y), the query ? :- s(a), s(a) has a rewriting of two atoms in one step, one for each place. But no level
-- of ? :- s(a) has a query with an atom twice.
pub record RepeatedAtom : Type 0 where
  pub result : Query
  pub step : IsOneStep (source_rule ∷ []) twice result
  pub width : HasWidth result.atoms 2
  pub in_no_level : (level : ℕ) → ¬ IsInLevel (record { rules = source_rule ∷ []; query = asks (s constant_a ∷ []) }) level twice

-- With p(X,Y) :- s(X), ? :- p(X,a) has no one-step rewriting: the existential variable Y would meet a constant.
abbrev pub ExistentialMeetsConstant : Type 0
ExistentialMeetsConstant = (result : Query) → ¬ IsOneStep (edge_rule ∷ []) (asks (p X constant_a ∷ [])) result

-- p(X,Y), p(X,Y) :- s(X), the atom twice in the head
abbrev pub double_edge_rule : Rule
double_edge_rule = record { heads = p X Y ∷ p X Y ∷ []; body = s X ∷ [] }

-- ?(X) :- p(X,Y)
abbrev pub edge_from : Query
edge_from = record { answers = X ∷ []; atoms = p X Y ∷ [] }

-- Equal head atoms at two places are two: ?(X) :- p(X,Y) has a single piece with each.
pub record EqualHeadAtoms : Type 0 where
  pub with_first : IsSinglePiece edge_from double_edge_rule ((0, 0) ∷ [])
  pub with_second : IsSinglePiece edge_from double_edge_rule ((0, 1) ∷ [])

-- t(X) :- s(Y), whose body shares no variable with its head
abbrev pub anyone_rule : Rule
anyone_rule = record { heads = t X ∷ []; body = s Y ∷ [] }

-- the name of the class of the copy's Y
abbrev pub new_name : Term
new_name = Variable 5

-- With t(X) :- s(Y), ? :- t(X) goes to ? :- s(U), where U is a variable of the copy alone.
abbrev pub BodyApart : Type 0
BodyApart = Rewrites (asks (t X ∷ [])) (anyone_rule ∷ []) (member first ∷ []) (asks (s new_name ∷ []))

-- t(X) :- s(X)
abbrev pub mark_rule : Rule
mark_rule = record { heads = t X ∷ []; body = s X ∷ [] }

-- With t(X) :- s(X), a budget of two rows is enough for ? :- t(a): the queries of all levels are ? :- t(a) and ? :- s(a).
abbrev pub BudgetOfTwo : Type 0
BudgetOfTwo = IsEnough (record { rules = mark_rule ∷ []; query = asks (t constant_a ∷ []) }) 2
