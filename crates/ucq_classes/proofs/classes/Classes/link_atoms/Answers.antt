use Rattle.std.proofs.Common.{◌≡◌, ◌<◌, ◌++◌, ◌∷◌, [], ℕ, List, length, Contains, get_or, zip, map, take, sym, ◌∙◌, ap, ap₂, subst, arith, append_assoc}
use Rattle.std.proofs.lemmas.List.{take_all}
use Rattle.std.proofs.lemmas.List.Elements.{Contains-get_or}
use Rattle.ucq_terms.specs.declared.Term.{Term}
use Rattle.ucq_terms.specs.declared.Term.TheVariants.{Constant}
use Rattle.ucq_terms.specs.Unifier.{Node, query_node, copy_node}
use Rattle.ucq_classes.specs.Numbers.{Numbers, IsNumbered}
use Rattle.ucq_classes.specs.Classes.{IsClassed}
use Rattle.ucq_classes.proofs.Prefixes.{zip_more}
use Rattle.ucq_classes.proofs.classes.Classes.link_atoms.Goals as goal

-- a term of a list is one of an equal list
among : (xs ys : List Term) (i : ℕ) → xs ≡ ys → i < length xs → Contains ys (get_or xs i (Constant 0))
among xs ys i e l = subst (λ (zs : List Term). Contains zs (get_or xs i (Constant 0))) e (Contains-get_or xs i (Constant 0) l)

same_length : (xs ys a b : List Term) → xs ≡ a → ys ≡ b → length a ≡ length b → length xs ≡ length ys
same_length xs ys a b p q e = ap length p ∙ (e ∙ sym (ap length q))

moved : (m n : Numbers) (x y : Node) → m ≡ n → x ≡ y → IsNumbered n y → IsNumbered m x
moved m n x y e f i = subst (λ (k : Numbers). IsNumbered k x) (sym e) (subst (IsNumbered n) (sym f) i)

pub link-requires-clause-x : goal.link-requires-clause-x
link-requires-clause-x c = moved _ _ _ _ c.loop-i.invariant.numbers c.term_of_query.ensures
    (c.requires.atom.each (get_or c.terms-terms.result.now c.loop-i.i (Constant 0))
    (among c.terms-terms.result.now c.args.atom.now.terms c.loop-i.i c.terms-terms.ensures.terms c.loop-i-test.true))

pub link-requires-clause-y : goal.link-requires-clause-y
link-requires-clause-y c =
    let n = same_length _ _ _ _ c.terms-terms.ensures.terms c.terms-others.ensures.terms c.requires.arity in
    moved _ _ _ _ c.loop-i.invariant.numbers c.term_of_copy.ensures
    (c.requires.head.each (get_or c.terms-others.result.now c.loop-i.i (Constant 0))
    (among c.terms-others.result.now c.args.head.now.terms c.loop-i.i c.terms-others.ensures.terms (omega (arith, n))))

pub loop-i-preserved : goal.loop-i-preserved
loop-i-preserved c =
    let copy = c.args.copy in
    let xs = c.terms-terms.result.now in
    let ys = c.terms-others.result.now in
    let n : length xs ≡ length ys = same_length _ _ _ _ c.terms-terms.ensures.terms c.terms-others.ensures.terms c.requires.arity in
    let l : c.loop-i.i < length ys = omega (arith, n) in
    let r = get_or xs c.loop-i.i (Constant 0) in
    let s = get_or ys c.loop-i.i (Constant 0) in
    let front = zip (map query_node (take c.loop-i.i xs)) (map (copy_node copy) (take c.loop-i.i ys)) in
    record {
      numbers = c.link.ensures.numbers ∙ c.loop-i.invariant.numbers;
      linked =
          λ links k.
          let more = c.link.ensures.linked (links ++ front) (c.loop-i.invariant.linked links k) in
          subst (λ (ls : List (Node × Node)). IsClassed ls c.link.new.self)
          (ap₂ (λ (x y : Node). (links ++ front) ++ (x, y) ∷ []) c.term_of_query.ensures c.term_of_copy.ensures ∙
          (append_assoc links front ((query_node r, copy_node copy s) ∷ []) ∙
          ap (λ (ls : List (Node × Node)). links ++ ls) (sym (zip_more query_node (copy_node copy) xs ys c.loop-i.i (Constant 0) c.loop-i-test.true l)))) more;
    }

pub returns : goal.returns
returns c =
    let xs = c.terms-terms.result.now in
    let ys = c.terms-others.result.now in
    let n : length xs ≡ length ys = same_length _ _ _ _ c.terms-terms.ensures.terms c.terms-others.ensures.terms c.requires.arity in
    let p = take_all c.loop-i.i xs (omega arith) ∙ c.terms-terms.ensures.terms in
    let q = take_all c.loop-i.i ys (omega (arith, n)) ∙ c.terms-others.ensures.terms in
    record {
      numbers = c.loop-i.invariant.numbers;
      linked = λ links k. subst (λ (ls : List (Node × Node)). IsClassed (links ++ ls) c.loop-i.self)
          (ap₂ (λ (a b : List Term). zip (map query_node a) (map (copy_node c.args.copy) b)) p q) (c.loop-i.invariant.linked links k);
    }
