use Rattle.std.proofs.Common.{List, sym, ap₂, ◌∙◌}
use Rattle.ucq_terms.proofs.Numbering.{with_element}
use Rattle.ucq_sql.specs.declared.algebra.Table.{Table}
use Rattle.ucq_sql.specs.Selects.{table_eq}
use Rattle.ucq_sql.proofs.Places.{with_tables-next}
use Rattle.ucq_sql.proofs.tables.note_tables.Goals as goal

pub loop-atom-preserved : goal.loop-atom-preserved
loop-atom-preserved c =
    c.in_ok-insert.ensures.keys ∙
    (ap₂ (λ (tables : List Table) (t : Table). with_element table_eq tables t) c.loop-atom.invariant c.table_of.ensures.table ∙
    sym (with_tables-next c.args.tables.now.keys c.args.atoms.now c.loop-atom.atom-index c.atom-item.result c.loop-atom-test.true c.atom-item.is))
