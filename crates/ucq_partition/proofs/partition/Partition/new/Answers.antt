use Rattle.std.proofs.Common.{ap, sym, ◌∙◌, length, subst, ℕ, List, []}
use Rattle.std.proofs.lemmas.List.{with_items_is}
use Rattle.ucq_partition.specs.Partition.{IsMadeBy}
use Rattle.ucq_partition.proofs.Links.{IsMadeBy-alone}
use Rattle.ucq_partition.proofs.partition.Partition.new.Goals as goal

pub returns-clause-alone : goal.returns-clause-alone
returns-clause-alone c =
    subst (λ (labels : List ℕ). IsMadeBy [] labels) (sym (with_items_is c.in_ok-labels.labels c.number.new.labels
    (c.number.auto.labels ∙ (ap length c.as_mut_slice.ensures.value ∙ sym c.in_ok-labels.labels.ok.0))))
    (IsMadeBy-alone c.number.new.labels c.number.ensures)
