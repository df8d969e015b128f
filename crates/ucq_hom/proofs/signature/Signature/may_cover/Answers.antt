use Rattle.std.proofs.Common.{◌∙◌, ap}
use Rattle.ucq_hom.specs.Signature.{Marks}
use Rattle.ucq_hom.proofs.Signatures.{apart_by}
use Rattle.ucq_hom.proofs.signature.Signature.may_cover.Goals as goal

pub returns-then-is_part_of : goal.returns-then-is_part_of
returns-then-is_part_of c none a b e f =
    apart_by 127 a b c.self.inside.second c.other.inside.second (ap (λ (m : Marks). m.second) (c.self.view_is ∙ e)) (ap (λ (m : Marks). m.second) (c.other.view_is ∙ f))
    (c.is_part_of-then-is_part_of.ensures none)

pub returns-else-is_part_of : goal.returns-else-is_part_of
returns-else-is_part_of c none a b e f =
    apart_by 128 a b c.self.inside.first c.other.inside.first (ap (λ (m : Marks). m.first) (c.self.view_is ∙ e)) (ap (λ (m : Marks). m.first) (c.other.view_is ∙ f))
    (c.is_part_of.ensures c.if-is_part_of.false)
