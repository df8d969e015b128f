use Rattle.std.specs.Str.{bytes_eq}
use Rattle.std.proofs.lemmas.Map.Made.{AllPairs-from_IsDistinct}
use Rattle.std.proofs.lemmas.Slice.Eq.{bytes_eq-Decides}
use Rattle.ucq_eval.proofs.Sorting.{IsDistinct-mapped}
use Rattle.ucq_eval.proofs.order.differ.Goals as goal

pub returns : goal.returns
returns c = AllPairs-from_IsDistinct bytes_eq-Decides _ (IsDistinct-mapped bytes_eq (λ t. t.items) (λ x y h. h) c.args.found.now.keys c.len.ensures.unique)
