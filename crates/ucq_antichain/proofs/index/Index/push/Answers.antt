use Rattle.std.proofs.Common.{◌≡◌, ◌+◌, ◌∙◌, ◌++◌, ◌∷◌, [], List, ℕ, ◌<◌, ◌*◌, length, sym, ap, arith, subst}
use Rattle.ucq_hom.specs.Signature.{Marks}
use Rattle.ucq_antichain.specs.inner.Index.{Indexed, IsIndex}
use Rattle.ucq_antichain.proofs.Indexed.{IsKey, IsIndex-pushed}
use Rattle.ucq_antichain.proofs.index.Index.push.Goals as goal

pub invariant_of-self : goal.invariant_of-self
invariant_of-self c =
    let f = c.self.inside in
    let m = c.args.marked.now in
    let (i, capacity, links) = c.self.invariant in
    let room : length f.signatures.items < 4096 * f.groups = subst (λ (x : Indexed). length x.signatures < 4096 * x.groups) (sym c.self.view_is) c.requires in
    let others = c.others-others.ensures ∙ ap (λ (s : Marks). s.second) c.signature.ensures in
    let key = subst (λ (o : ℕ). IsKey c.marks-marks.result.now o c.rarest-key.result) others c.rarest-key.ensures in
    let at : c.len-row.result ≡ length f.signatures.items = omega (arith, c.len-row.ensures, f.signatures.ok) in
    let size : length f.chains.next ≡ c.len-row.result + 1 = let s = i.chained.size in omega (arith, s, at) in (
      subst (λ (ms : List Marks). IsIndex f.groups ms c.insert_all.new.self c.insert_all-2.new.self c.insert.new.self c.insert-2.new.self c.push.new.self) (sym (c.push_within.ensures.items ∙ ap (λ (s : Marks). f.signatures.items ++ s ∷ []) c.signature-2.ensures))
          (IsIndex-pushed f.groups f.signatures.items f.all f.words f.kept f.kept_words f.chains i m c.marks-marks.result.now c.len-row.result room at c.marks-marks.ensures
          c.insert_all.new.self c.insert_all-2.new.self c.insert.new.self c.insert-2.new.self c.push.new.self c.rarest-key.result
          (record { has = c.insert_all.ensures.has; keeps = c.insert_all.ensures.keeps })
          (record { has = c.insert_all-2.ensures.has; keeps = c.insert_all-2.ensures.keeps })
          (record { row_others = c.insert.ensures.others; word_others = c.insert-2.ensures.others; word = c.insert-2.ensures.has })
          (record { has = c.push.ensures.has c.len-row.result size; keeps = c.push.ensures.keeps; longer = c.push.ensures.length; ends = c.push.ensures.ends }) key),
      omega (arith, capacity, c.push_within.ensures.capacity),
      omega (arith, links, c.push.ensures.room),
    )
