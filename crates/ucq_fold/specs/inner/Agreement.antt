-- Terms beside terms, of which one may come from the other by a renaming of variables.
use Rattle.std.specs.Prelude.{Bool, true, false, ◌&&◌, not, nat_eq, if◌then◌else◌, List, length, zip}
use Rattle.std.specs.List.{list_all}
use Rattle.ucq_terms.specs.declared.Term.{Term}
use Rattle.ucq_terms.specs.declared.Term.TheVariants.{Constant, Variable}
use Rattle.ucq_terms.specs.Syntax.{Atom}
use Rattle.ucq_terms.specs.Numbering.{term_eq}

-- whether the two are one constant, or two variables
abbrev pub alike : Term → Term → Bool
alike (Constant c) (Constant d) = nat_eq c d
alike (Constant c) (Variable w) = false
alike (Variable v) (Constant d) = false
alike (Variable v) (Variable w) = true

abbrev pub pair_alike : Term × Term → Bool
pair_alike p = alike p.0 p.1

-- whether the first terms of two pairs are equal exactly where their second terms are
abbrev pub agree : Term × Term → Term × Term → Bool
agree p q = if term_eq p.0 q.0 then term_eq p.1 q.1 else not (term_eq p.1 q.1)

-- whether each pair of the first list agrees with each of the second
abbrev pub all_agree : List (Term × Term) → List (Term × Term) → Bool
all_agree ps qs = list_all (λ p. list_all (agree p) qs) ps

-- whether the second list is the first one with its variables renamed one to one
abbrev pub renamed : List Term → List Term → Bool
renamed xs ys = nat_eq (length xs) (length ys) && list_all pair_alike (zip xs ys) && all_agree (zip xs ys) (zip xs ys)

-- whether the second atom is the first one with its variables renamed one to one, as in the answers of the first list to those of the second
abbrev pub goes_with : Atom → Atom → List Term → List Term → Bool
goes_with x y answers images = nat_eq x.name y.name && renamed x.terms y.terms && all_agree (zip x.terms y.terms) (zip answers images)
