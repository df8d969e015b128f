use Rattle.std.proofs.Common.{ap, sym, ◌∙◌, length, subst, ℕ, List, []}
use Rattle.std.proofs.lemmas.List.{with_items_is}
use Rattle.ucq_partition.specs.Partition.{IsMadeBy}
use Rattle.ucq_partition.proofs.Links.{IsMadeBy-alone}
use Rattle.ucq_partition.proofs.partition.Partition.clear.Goals as goal

pub returns-clause-alone : goal.returns-clause-alone
returns-clause-alone c =
    subst (λ (labels : List ℕ). IsMadeBy [] labels) (sym (with_items_is c.self.inside.labels c.number.new.labels
    (c.number.auto.labels ∙ (ap length c.as_mut_slice.ensures.value ∙ sym c.self.inside.labels.ok.0))))
    (IsMadeBy-alone c.number.new.labels c.number.ensures)
