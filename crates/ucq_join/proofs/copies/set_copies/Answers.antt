use Rattle.std.proofs.Common.{◌≡◌, ◌+◌, ◌++◌, ◌∷◌, [], ℕ, List, length, sym, ap, ◌∙◌, arith}
use Rattle.std.proofs.lemmas.List.{length-append}
use Rattle.ucq_classes.specs.Numbers.{Numbers}
use Rattle.ucq_join.proofs.Even.{size_more, HasCopyWidth-none, HasCopyWidth-push}
use Rattle.ucq_join.proofs.copies.set_copies.Goals as goal

-- only the copies differ
rest_more : (a n m : Numbers) (ws : List ℕ) → n ≡ record a { widths = n.widths } → m ≡ record n { widths = ws } → m ≡ record a { widths = m.widths }
rest_more a n m ws r e =
    e ∙ (ap (λ (x : Numbers). record x { widths = ws }) r ∙ ap (λ (us : List ℕ). record a { widths = us }) (sym (ap (λ (x : Numbers). x.widths) e)))

pub loop-copy-init : goal.loop-copy-init
loop-copy-init c =
    let none = ap (λ (x : Numbers). x.widths) c.clear_copies.ensures in
    record {
      rest = c.clear_copies.ensures ∙ ap (λ (ws : List ℕ). record c.args.numbering.now { widths = ws }) (sym none);
      count = ap length none;
      width = HasCopyWidth-none c.clear_copies.new.self c.args.width none;
    }

pub add_copy-requires : goal.add_copy-requires
add_copy-requires c =
    let n = c.loop-copy.numbering in
    let h = c.loop-copy.invariant in
    let constants = ap (λ (x : Numbers). length x.constants) h.rest in
    let variables = ap (λ (x : Numbers). x.variables) h.rest in
    let m = size_more n c.args.width c.args.count h.width (omega (arith, h.count)) in
    omega (arith, c.requires)

pub returns-in_err-add_copy-clause-rest : goal.returns-in_err-add_copy-clause-rest
returns-in_err-add_copy-clause-rest c =
    rest_more c.args.numbering.now c.loop-copy.numbering c.add_copy.new.self c.loop-copy.numbering.widths c.loop-copy.invariant.rest c.in_err-add_copy.ensures.kept

pub loop-copy-preserved : goal.loop-copy-preserved
loop-copy-preserved c =
    let n = c.loop-copy.numbering in
    let more = n.widths ++ c.args.width ∷ [] in
    let added : c.add_copy.new.self ≡ record n { widths = more } = c.in_ok-add_copy.ensures.added in
    let long = length-append n.widths (c.args.width ∷ []) in
    let count = c.loop-copy.invariant.count in
    record {
      rest = rest_more c.args.numbering.now n c.add_copy.new.self more c.loop-copy.invariant.rest added;
      count = ap (λ (x : Numbers). length x.widths) added ∙ (let e : length more ≡ c.loop-copy._copy + 1 = omega arith in e);
      width = HasCopyWidth-push n c.add_copy.new.self c.args.width c.loop-copy.invariant.width added;
    }
