-- A term for each term of a query and of copies of rules, by which names for classes are made.
use Rattle.std.specs.Prelude.{ℕ, zero, suc, ◌*◌}
use Rattle.ucq_terms.specs.declared.Term.{Term}
use Rattle.ucq_terms.specs.declared.Term.TheVariants.{Constant, Variable}
use Rattle.ucq_terms.specs.Unifier.{Node, constant, of_query, of_copy}

-- Numbers for pairs of numbers: twice `v` in copy 0, and then each copy takes the odd numbers that are left.
unfoldable pub number : ℕ → ℕ → ℕ
number zero v = 2 * v
number (suc m) v = suc (2 * number m v)

-- a term for each node
unfoldable pub code : Node → Term
code (constant c) = Constant c
code (of_query v) = Variable (number 0 v)
code (of_copy m v) = Variable (number (suc m) v)
