use Rattle.std.proofs.Common.{suc, ◌+◌, ◌-◌, List, length, take, drop, subst, inr, ⊎_elim, arith}
use Rattle.std.specs.List.{remove}
use Rattle.std.proofs.lemmas.List.{length-drop, take_all}
use Rattle.ucq_terms.specs.Syntax.{Atom, OccursIn}
use Rattle.std.specs.Prelude.{◌≡◌, ◌↔◌, ◌⊎◌, Bool, false, IsTrue}
use Rattle.ucq_within.proofs.Spared.{occurs_beside, beside_occurs}
use Rattle.ucq_within.proofs.minimal.occurs_without.Goals as goal

-- where the first test fails, the second one decides
second_decides : (A B C : Type 0) (first second : Bool) → IsTrue first ↔ A → IsTrue second ↔ B → first ≡ false → (A ⊎ B → C) → (C → A ⊎ B) → IsTrue second ↔ C
second_decides A B C first second of_a of_b e forth back =
    (λ t. forth (inr (of_b.0 t)), λ c. ⊎_elim (λ a. let no : IsTrue false = subst (λ (b : Bool). IsTrue b) e (of_a.1 a) in absurd cc) (λ b. of_b.1 b) (back c))

pub returns-else-occurs : goal.returns-else-occurs
returns-else-occurs c =
    let atoms = c.args.atoms.now in
    let place = c.args.place in
    let t = c.args.term in
    let next : suc place ≡ place + 1 = omega arith in
    let size = length-drop (place + 1) atoms in
    let whole : take (length atoms - (place + 1)) (drop (place + 1) atoms) ≡ drop (place + 1) atoms = take_all _ (drop (place + 1) atoms) (omega (arith, size)) in
    second_decides (OccursIn (take place atoms) t) (OccursIn (drop (place + 1) atoms) t) (OccursIn (remove atoms place) t) c.occurs.result c.occurs-else-occurs.result c.occurs.ensures
    (subst (λ (rest : List Atom). IsTrue c.occurs-else-occurs.result ↔ OccursIn rest t) whole c.occurs-else-occurs.ensures) c.if-occurs.false
    (occurs_beside atoms place (place + 1) t next) (beside_occurs atoms place (place + 1) t next)
