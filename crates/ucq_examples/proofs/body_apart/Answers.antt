use Rattle.std.proofs.Common.{ℕ, zero, suc, [], ◌∷◌, List, AllPairs, inl, inr, refl, arith}
use Rattle.std.proofs.lemmas.List.Elements.{All-from_recursion}
use Rattle.ucq_terms.specs.declared.Term.TheVariants.{Variable}
use Rattle.ucq_terms.specs.Syntax.{Query}
use Rattle.ucq_terms.specs.Unifier.{Node, constant, of_query, of_copy, AreJoined, alone, back, IsSeparating, IsSinglePiece}
use Rattle.ucq_terms.specs.Rewriting.{Member, IsMember, AreApart, all_links}
use Rattle.ucq_terms.proofs.Lists.{Contains-empty}
use Rattle.ucq_terms.proofs.Subsets.{IsSameSet-refl}
use Rattle.ucq_terms.proofs.ClassNames.{number, code}
use Rattle.ucq_examples.specs.Examples.{X, s, t, asks, member, first, anyone_rule, new_name}
use Rattle.ucq_examples.proofs.Literal.{term_of_atoms, of_each}
use Rattle.ucq_examples.proofs.Naming.{IsSameLabel, IsLabelling, no_clash, names_classes}
use Rattle.ucq_examples.proofs.Single.{one_matching, one_is_whole, renaming_unifies}
use Rattle.ucq_examples.proofs.body_apart.Goals as goal

abbrev someone : Query
someone = asks (t X ∷ [])

none_separating : (u : ℕ) → ¬ IsSeparating someone first u
none_separating u (inl o) = term_of_atoms [] (Variable u) o
none_separating u (inr i) = Contains-empty (Variable u) i

piece : IsSinglePiece someone anyone_rule first
piece = record {
  unifier = renaming_unifies Variable 0 someone anyone_rule first
      (one_matching someone anyone_rule (0, 0) (record { in_query = omega arith; in_head = omega arith; name = refl; arity = refl })) (refl, tt)
      (λ v u e separating same. none_separating u separating);
  whole = one_is_whole someone anyone_rule (0, 0);
}

abbrev members : List Member
members = member first ∷ []

-- the query's variable is in one class with the head's
label : Node → Node
label (constant c) = constant c
label (of_query v) = of_query v
label (of_copy zero zero) = of_query 0
label (of_copy zero (suc v)) = of_copy zero (suc v)
label (of_copy (suc k) v) = of_copy (suc k) v

labelling : IsLabelling (all_links someone (anyone_rule ∷ []) members) label
unfolding label
labelling = record {
  each = of_each (IsSameLabel label) (all_links someone (anyone_rule ∷ []) members) (refl, tt);
  joined = to;
  constants = λ c. refl;
}
  where
    to : (x : Node) → AreJoined (all_links someone (anyone_rule ∷ []) members) x (label x)
    to (constant c) = alone
    to (of_query v) = alone
    to (of_copy zero zero) = back (0, omega arith, refl) alone
    to (of_copy zero (suc v)) = alone
    to (of_copy (suc k) v) = alone

one_apart : AllPairs AreApart members
one_apart i j d lt below = absurd (omega arith)

pub returns : goal.returns
unfolding label code number
returns c = record {
  aggregate = record {
    nonempty = omega arith;
    each = All-from_recursion (IsMember someone (anyone_rule ∷ [])) members (record { rule = omega arith; single = piece }, tt);
    apart = one_apart;
    no_clash = no_clash label (all_links someone (anyone_rule ∷ []) members) labelling.each labelling.constants;
  };
  name = λ x. code (label x);
  names = names_classes _ label labelling;
  answers = refl;
  atoms = IsSameSet-refl (s new_name ∷ []);
}
