use Rattle.std.proofs.Common.{◌≡◌, ◌++◌, ◌∷◌, [], ℕ, List, length, sum, take, ap, ◌∙◌, arith}
use Rattle.ucq_classes.specs.Numbers.{Numbers}
use Rattle.ucq_unify.proofs.Flags.{numbered_sides}
use Rattle.ucq_unify.proofs.sides.numbering.Goals as goal

pub overflow_cast-len : goal.overflow_cast-len
overflow_cast-len c = omega (arith, c.requires.few, c.len.ensures, c.args.sides.now.existential.ok.0)

pub add_copy-requires : goal.add_copy-requires
add_copy-requires c =
    let m = c.note_heads.new.self in
    let empty : m.widths ≡ [] = ap (λ (x : Numbers). x.widths) c.in_ok-note_heads.ensures.rest ∙ c.in_ok-numbering.ensures.no_copies in
    let none : sum (take (length m.widths) m.widths) ≡ 0 = ap (λ (ws : List ℕ). sum (take (length ws) ws)) empty in
    let variables = ap (λ (x : Numbers). x.variables) c.in_ok-note_heads.ensures.rest in
    omega (
      arith,
      c.requires.few,
      c.len.ensures,
      c.args.sides.now.existential.ok.0,
      c.in_ok-note_heads.ensures.few,
      c.in_ok-numbering.ensures.few_constants,
      c.in_ok-numbering.ensures.few_variables,
    )

pub returns : goal.returns
returns c =
    let m = c.note_heads.new.self in
    let long : c.len.result ≡ length c.args.sides.now.existential.items = omega (arith, c.len.ensures, c.args.sides.now.existential.ok.0) in
    numbered_sides c.args.sides.now.query.now c.args.sides.now.rule.now c.args.sides.now.existential.items c.in_ok-numbering.numbering m c.add_copy.new.self
    c.in_ok-numbering.ensures.query c.in_ok-numbering.ensures.stored c.in_ok-numbering.ensures.no_copies c.in_ok-note_heads.ensures.kept
    c.in_ok-note_heads.ensures.noted c.in_ok-note_heads.ensures.rest c.requires
    (c.in_ok-add_copy.ensures.added ∙ ap (λ k. record m { widths = m.widths ++ k ∷ [] }) long)
