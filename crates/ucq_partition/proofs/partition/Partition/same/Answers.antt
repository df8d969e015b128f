use Rattle.std.proofs.Common.{sym, ◌∙◌, eqb-true, eq-eqb}
use Rattle.ucq_partition.proofs.Links.{read_label, linked_from_label, label-linked}
use Rattle.ucq_partition.proofs.partition.Partition.same.Goals as goal

pub returns : goal.returns
returns c = λ joins m.
    let labels = c.self.inside.labels.items in
    let first = read_label labels c.args.self.now c.args.a _ c.self.view_is c.requires.a c.index.ensures in
    let second = read_label labels c.args.self.now c.args.b _ c.self.view_is c.requires.b c.index-2.ensures in (
      λ t. linked_from_label joins c.args.self.now c.args.a c.args.b m c.requires.a c.requires.b
          (sym first ∙ (eqb-true c.index.result.now c.index-2.result.now t ∙ second)),
      λ h. eq-eqb c.index.result.now c.index-2.result.now (first ∙ (label-linked joins c.args.self.now c.args.a c.args.b m h ∙ sym second)),
    )
