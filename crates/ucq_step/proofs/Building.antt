-- The parts of a rewriting as they are built: terms below a bound, copies of bodies, and atoms that no member matches.
use Rattle.std.proofs.Common.{◌≡◌, ◌+◌, ◌<◌, ◌||◌, ℕ, zero, suc, Bool, true, false, not, cond, if◌then◌else◌, nat_eq, List, [], ◌∷◌, ◌++◌, map, filter, flat_map, length, take, Contains, get_or, refl, sym, ap, ap₂, ◌∙◌, subst, arith}
use Rattle.std.specs.List.{enumerate_from, list_any}
use Rattle.std.proofs.lemmas.Bool.{false_from_ne_true}
use Rattle.std.proofs.lemmas.List.{take_more, map-append, length-take-le, append-nil}
use Rattle.std.proofs.lemmas.List.Elements.{filter-append}
use Rattle.ucq_terms.specs.declared.Term.{Term}
use Rattle.ucq_terms.specs.Syntax.{Atom, Rule}
use Rattle.ucq_terms.specs.Unifier.{copy_node, places, is_place}
use Rattle.ucq_terms.specs.Rewriting.{Member, rule_at, atoms_named, bodies}
use Rattle.ucq_terms.proofs.Lists.{Contains-map, Contains-from_map, Contains-flat_map, Contains-from_flat_map}
use Rattle.ucq_terms.proofs.Places.{place_from_true, true_from_place}
use Rattle.ucq_join.specs.Names.{Named, name_of}
use Rattle.ucq_join.specs.Walk.{piece_member, members_at}
use Rattle.ucq_step.specs.inner.Building.{side_name, copies_named, left_out, left_out_at, pairs_at}
use Rattle.ucq_step.specs.declared.rewriting.Side.TheVariants.{OfCopy}

-- whether a piece has a place
pub list_any-is_place : (pairs : List (ℕ × ℕ)) (place : ℕ) → list_any (λ (p : ℕ × ℕ). nat_eq place p.0) pairs ≡ is_place pairs place
list_any-is_place [] place = refl
list_any-is_place (p ∷ pairs) place = ap (λ b. nat_eq place p.0 || b) (list_any-is_place pairs place)

-- The places of members are those of the pieces.
pub is_place-member : (pieces : List (List (ℕ × ℕ))) (members : List ℕ) (member place : ℕ) → Contains members member →
    is_place (get_or pieces member []) place ≡ true → is_place (pairs_at pieces members) place ≡ true
is_place-member pieces members member place c e =
    let (pair, i, s) = Contains-from_map (λ (p : ℕ × ℕ). p.0) (get_or pieces member []) place (place_from_true (get_or pieces member []) place e) in
    true_from_place (pairs_at pieces members) place
    (subst (λ (n : ℕ). Contains (places (pairs_at pieces members)) n) s
    (Contains-map (λ (p : ℕ × ℕ). p.0) (pairs_at pieces members) pair
    (Contains-flat_map (λ (m : Member). m.pairs) (members_at pieces members) (piece_member pieces member) pair
    (Contains-map (piece_member pieces) members member c) i)))

pub is_place-no_member : (pieces : List (List (ℕ × ℕ))) (members : List ℕ) (place : ℕ) →
    ((member : ℕ) → Contains members member → is_place (get_or pieces member []) place ≡ false) → is_place (pairs_at pieces members) place ≡ false
is_place-no_member pieces members place f = false_from_ne_true (is_place (pairs_at pieces members) place) (λ e.
    let (pair, i, s) = Contains-from_map (λ (p : ℕ × ℕ). p.0) (pairs_at pieces members) place (place_from_true (pairs_at pieces members) place e) in
    let (m, j, k) = Contains-from_flat_map (λ (m : Member). m.pairs) (members_at pieces members) pair i in
    let (member, l, d) = Contains-from_map (piece_member pieces) members m j in
    let there : Contains (get_or pieces member []) pair = subst (λ (n : Member). Contains n.pairs pair) (sym d) k in
    let yes_place : is_place (get_or pieces member []) place ≡ true =
    true_from_place (get_or pieces member []) place
    (subst (λ (n : ℕ). Contains (places (get_or pieces member [])) n) s (Contains-map (λ (p : ℕ × ℕ). p.0) (get_or pieces member []) pair there)) in
    let bad : false ≡ true = sym (f member l) ∙ yes_place in
    cc)

-- One more element of a list under a map.
pub map-take_more : {X Y : Type 0} (f : X → Y) (xs : List X) (i : ℕ) (d : X) → i < length xs → map f (take (i + 1) xs) ≡ map f (take i xs) ++ f (get_or xs i d) ∷ []
map-take_more f xs i d l = ap (map f) (take_more xs i d l) ∙ map-append f (take i xs) (get_or xs i d ∷ [])

-- one more copy
pub copies_named-more : (j : Named) (body : List Atom) (copy : ℕ) → copies_named j body copy ++ atoms_named (side_name j (OfCopy copy)) body ≡ copies_named j body (copy + 1)
copies_named-more j body copy = let e : suc copy ≡ copy + 1 = omega arith in ap (copies_named j body) e

-- The copies of a body are the bodies of the members.
gathered : (ℕ → List Atom) → ℕ → List Atom
gathered f zero = []
gathered f (suc n) = gathered f n ++ f n

append-assoc : (xs ys zs : List Atom) → (xs ++ ys) ++ zs ≡ xs ++ (ys ++ zs)
append-assoc [] ys zs = refl
append-assoc (x ∷ xs) ys zs = ap (λ l. x ∷ l) (append-assoc xs ys zs)

gathered-first : (f : ℕ → List Atom) (n : ℕ) → gathered f (suc n) ≡ f 0 ++ gathered (λ i. f (suc i)) n
unfolding gathered
gathered-first f zero = sym (append-nil (f 0))
gathered-first f (suc n) =
    ap (λ l. l ++ f (suc n)) (gathered-first f n) ∙ append-assoc (f 0) (gathered (λ i. f (suc i)) n) (f (suc n))

gathered-same : (f g : ℕ → List Atom) (n : ℕ) → ((i : ℕ) → f i ≡ g i) → gathered f n ≡ gathered g n
unfolding gathered
gathered-same f g zero e = refl
gathered-same f g (suc n) e = ap₂ (λ xs ys. xs ++ ys) (gathered-same f g n e) (e n)

copies_named-gathered : (j : Named) (body : List Atom) (n : ℕ) → copies_named j body n ≡ gathered (λ i. atoms_named (side_name j (OfCopy i)) body) n
unfolding gathered
copies_named-gathered j body zero = refl
copies_named-gathered j body (suc n) = ap (λ l. l ++ atoms_named (side_name j (OfCopy n)) body) (copies_named-gathered j body n)

bodies_from : (j : Named) (rule : Rule) (pieces : List (List (ℕ × ℕ))) (members : List ℕ) (k : ℕ) →
    flat_map (λ (p : ℕ × Member). atoms_named (λ t. name_of j (copy_node p.0 t)) (rule_at (rule ∷ []) p.1.rule).body) (enumerate_from k (members_at pieces members)) ≡
    gathered (λ i. atoms_named (side_name j (OfCopy (k + i))) rule.body) (length members)
unfolding gathered
bodies_from j rule pieces [] k = refl
bodies_from j rule pieces (m ∷ members) k =
    let f : ℕ → List Atom = λ i. atoms_named (side_name j (OfCopy (k + i))) rule.body in
    let here : k ≡ k + 0 = omega arith in
    let first : atoms_named (side_name j (OfCopy k)) rule.body ≡ f 0 = ap (λ i. atoms_named (side_name j (OfCopy i)) rule.body) here in
    let rest = bodies_from j rule pieces members (k + 1) in
    let shift : gathered (λ i. atoms_named (side_name j (OfCopy (k + 1 + i))) rule.body) (length members) ≡ gathered (λ i. f (suc i)) (length members) =
    gathered-same (λ i. atoms_named (side_name j (OfCopy (k + 1 + i))) rule.body) (λ i. f (suc i)) (length members)
    (λ i. let e : k + 1 + i ≡ k + suc i = omega arith in ap (λ i. atoms_named (side_name j (OfCopy i)) rule.body) e) in
    ap₂ (λ (xs ys : List Atom). xs ++ ys) first (rest ∙ shift) ∙ sym (gathered-first f (length members))

pub copies_named-bodies : (j : Named) (rule : Rule) (pieces : List (List (ℕ × ℕ))) (members : List ℕ) →
    copies_named j rule.body (length members) ≡ bodies (name_of j) (rule ∷ []) (members_at pieces members)
copies_named-bodies j rule pieces members =
    copies_named-gathered j rule.body (length members) ∙
    (gathered-same (λ i. atoms_named (side_name j (OfCopy i)) rule.body) (λ i. atoms_named (side_name j (OfCopy (0 + i))) rule.body) (length members)
    (λ i. let e : i ≡ 0 + i = omega arith in ap (λ i. atoms_named (side_name j (OfCopy i)) rule.body) e) ∙
    sym (bodies_from j rule pieces members 0))

-- One more atom of the query is left out, or it isn't.
enumerate_from-push : (n : ℕ) (xs : List Atom) (x : Atom) → enumerate_from n (xs ++ x ∷ []) ≡ enumerate_from n xs ++ (n + length xs, x) ∷ []
enumerate_from-push n [] x = let e : n ≡ n + 0 = omega arith in ap (λ (k : ℕ). (k, x) ∷ []) e
enumerate_from-push n (y ∷ xs) x =
    let e : n + 1 + length xs ≡ n + suc (length xs) = omega arith in
    ap (λ (l : List (ℕ × Atom)). (n, y) ∷ l) (enumerate_from-push (n + 1) xs x ∙ ap (λ (k : ℕ). enumerate_from (n + 1) xs ++ (k, x) ∷ []) e)

left_out-one : (pairs : List (ℕ × ℕ)) (place : ℕ) (a : Atom) →
    map (λ (p : ℕ × Atom). p.1) (filter (λ (p : ℕ × Atom). not (is_place pairs p.0)) ((place, a) ∷ [])) ≡ left_out_at pairs place a
left_out-one pairs place a = go (is_place pairs place)
  where
    go : (b : Bool) → map (λ (p : ℕ × Atom). p.1) (cond (not b) ((place, a) ∷ []) []) ≡ (if b then [] else a ∷ [])
    go true = refl
    go false = refl

pub left_out-more : (pairs : List (ℕ × ℕ)) (atoms : List Atom) (i : ℕ) (d : Atom) → i < length atoms →
    left_out pairs (take (i + 1) atoms) ≡ left_out pairs (take i atoms) ++ left_out_at pairs i (get_or atoms i d)
left_out-more pairs atoms i d l =
    let a = get_or atoms i d in
    let keep : ℕ × Atom → Bool = λ p. not (is_place pairs p.0) in
    let size : length (take i atoms) ≡ i = length-take-le i atoms (omega (arith, l)) in
    let place : 0 + length (take i atoms) ≡ i = omega (arith, size) in
    let more : enumerate_from 0 (take (i + 1) atoms) ≡ enumerate_from 0 (take i atoms) ++ (i, a) ∷ [] =
    ap (enumerate_from 0) (take_more atoms i d l) ∙
    (enumerate_from-push 0 (take i atoms) a ∙ ap (λ (k : ℕ). enumerate_from 0 (take i atoms) ++ (k, a) ∷ []) place) in
    ap (λ (xs : List (ℕ × Atom)). map (λ (p : ℕ × Atom). p.1) (filter keep xs)) more ∙
    (ap (map (λ (p : ℕ × Atom). p.1)) (filter-append keep (enumerate_from 0 (take i atoms)) ((i, a) ∷ [])) ∙
    (map-append (λ (p : ℕ × Atom). p.1) (filter keep (enumerate_from 0 (take i atoms))) (filter keep ((i, a) ∷ [])) ∙
    ap (λ (ys : List Atom). left_out pairs (take i atoms) ++ ys) (left_out-one pairs i a)))

pub rest_more : (f : Term → Term) (pairs : List (ℕ × ℕ)) (atoms : List Atom) (i : ℕ) (a : Atom) (first before after : List Atom) → i < length atoms →
    a ≡ get_or atoms i a → before ≡ first ++ atoms_named f (left_out pairs (take i atoms)) → after ≡ before ++ atoms_named f (left_out_at pairs i a) →
    after ≡ first ++ atoms_named f (left_out pairs (take (i + 1) atoms))
rest_more f pairs atoms i a first before after l s d e =
    let named = atoms_named f (left_out pairs (take i atoms)) in
    let last = atoms_named f (left_out_at pairs i a) in
    let more : left_out pairs (take (i + 1) atoms) ≡ left_out pairs (take i atoms) ++ left_out_at pairs i a =
    left_out-more pairs atoms i a l ∙ ap (λ (x : Atom). left_out pairs (take i atoms) ++ left_out_at pairs i x) (sym s) in
    let joined : named ++ last ≡ atoms_named f (left_out pairs (take (i + 1) atoms)) =
    sym (ap (atoms_named f) more ∙ map-append _ (left_out pairs (take i atoms)) (left_out_at pairs i a)) in
    e ∙ (ap (λ xs. xs ++ last) d ∙ (append-assoc first named last ∙ ap (λ xs. first ++ xs) joined))
