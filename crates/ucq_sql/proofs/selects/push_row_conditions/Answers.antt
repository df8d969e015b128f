use Rattle.std.proofs.Common.{◌∷◌, ◌++◌, ◌+◌, [], take, sym, ap, ◌∙◌, arith}
use Rattle.std.specs.Option.{option_to_list}
use Rattle.ucq_terms.specs.declared.Term.TheVariants.{Constant}
use Rattle.ucq_sql.specs.Selects.{row_conditions}
use Rattle.ucq_sql.proofs.Growing.{behind-more, one_condition, no_condition, row_conditions-next}
use Rattle.ucq_sql.proofs.selects.push_row_conditions.Goals as goal
use Rattle.ucq_sql.proofs.selects.push_row_conditions.Goals.{in-Some+in_ok-push_condition, in_default}

pub loop-column-preserved : goal.loop-column-preserved
loop-column-preserved c =
    let atoms = c.args.atoms.now in
    let alias = c.args.alias in
    let terms = c.args.terms.now in
    let i = c.loop-column.column in
    let h = c.loop-column.invariant.behind in
    let next = row_conditions-next atoms alias terms i (Constant 0) c.loop-column-test.true in
    elim c.match-condition.branch [
      | in-Some+in_ok-push_condition w ↦
          let asked = ap option_to_list (sym c.condition.ensures ∙ w.in-Some.is) in
          let text = one_condition c.args.names.now c.loop-column.count w.in-Some.condition c.loop-column.text.items w.push_condition.new.text.items w.in_ok-push_condition.ensures in
          let is = w.text-is in
          record {
            behind = behind-more c.args.names.now c.args.text.now.items c.args.before (row_conditions atoms alias (take i terms)) (w.in-Some.condition ∷ []) (row_conditions atoms alias (take (i + 1) terms))
                c.loop-column.text.items c.match-condition.text.items c.loop-column.count c.match-condition.count h (next ∙ ap (λ l. row_conditions atoms alias (take i terms) ++ l) asked) (cc) w.count-is;
            few = omega arith;
          }
      | in_default w ↦
          let asked = ap option_to_list (sym c.condition.ensures ∙ w.in_default.is) in
          let is = w.text-is in
          record {
            behind = behind-more c.args.names.now c.args.text.now.items c.args.before (row_conditions atoms alias (take i terms)) [] (row_conditions atoms alias (take (i + 1) terms))
                c.loop-column.text.items c.match-condition.text.items c.loop-column.count c.match-condition.count h (next ∙ ap (λ l. row_conditions atoms alias (take i terms) ++ l) asked)
                (no_condition c.loop-column.text.items c.match-condition.text.items (cc)) (omega arith);
            few = omega arith;
          }
    ]
