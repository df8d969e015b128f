-- Widths of isomorphic queries.
use Rattle.std.proofs.Common.{◌≡◌, ℕ, List, length, refl, sym, ◌∙◌}
use Rattle.ucq_terms.specs.Syntax.{Atom, Query}
use Rattle.ucq_terms.specs.Homomorphism.{AreIsomorphic}
use Rattle.ucq_terms.specs.Numbering.{each_once}
use Rattle.ucq_terms.specs.Rewriting.{HasWidth}
use Rattle.ucq_terms.proofs.Once.{IsSameSet-each_once, HasEachOnce-each_once}
use Rattle.ucq_fold.proofs.Forms.{with_atoms, AreIsomorphic-same_sets}
use Rattle.ucq_fold.proofs.Renamings.{length-isomorphic}

-- isomorphic queries have one width
pub width_same : (a b : Query) (v w : ℕ) → AreIsomorphic a b → HasWidth a.atoms v → HasWidth b.atoms w → v ≡ w
width_same a b v w i x y =
    x.count ∙
    (length-isomorphic (with_atoms a x.different) (with_atoms b y.different) x.once y.once (AreIsomorphic-same_sets a b x.different y.different x.same y.same i) ∙ sym y.count)

pub HasWidth-each_once : (atoms : List Atom) → HasWidth atoms (length (each_once atoms))
HasWidth-each_once atoms = record { different = each_once atoms; once = HasEachOnce-each_once atoms; same = IsSameSet-each_once atoms; count = refl }
