use Rattle.std.proofs.Common.{◌≤◌, ℕ, sym, subst}
use Rattle.ucq_partition.proofs.Links.{read_label, label-least}
use Rattle.ucq_partition.proofs.partition.Partition.label.Goals as goal

pub returns-clause-value : goal.returns-clause-value
returns-clause-value c = read_label c.self.inside.labels.items c.args.self.now c.args.a c.index.result.now c.self.view_is c.requires c.index.ensures

pub returns-clause-least : goal.returns-clause-least
returns-clause-least c = λ joins b m h.
    let x = c.index.result.now in
    let e = read_label c.self.inside.labels.items c.args.self.now c.args.a x c.self.view_is c.requires c.index.ensures in
    subst (λ (n : ℕ). n ≤ b) (sym e) (label-least joins c.args.self.now c.args.a b m c.requires h)
