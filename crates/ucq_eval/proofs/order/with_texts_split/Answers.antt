use Rattle.std.proofs.Common.{◌≡◌, ◌∙◌, ap, refl}
use Rattle.indexmap.proofs.CallerLemmas.{Drains-YieldsInOrder}
use Rattle.rayon.specs.Lists.{vec_items, min_len_base}
use Rattle.ucq_eval.proofs.Printing.{printed_where_asked}
use Rattle.ucq_eval.proofs.order.with_texts_split.Goals as goal

pub returns : goal.returns
returns g c =
    let ran = c.in_ok-tuples.ensures.ran in
    let given = c.into_iter.ensures.into_iter_gives in
    let to_end = ran.1.2 tt in
    let taken = Drains-YieldsInOrder _ _ c.into_iter.result ran.0 given.2 (to_end.0, (ran.1.0, ran.1.1, to_end.1)) in
    let made = c.in_ok-collect.ensures in
    let chain = made.1 in
    let all : chain.0 ≡ c.args.found.keys = chain.1 ∙ ap (λ b. vec_items (min_len_base b)) c.map.ensures.base ∙ ap vec_items c.with_min_len.ensures.base ∙ c.into_par_iter.ensures ∙ ran.2.0 ∙ taken ∙ given.0 in
    printed_where_asked _ c.args.names.now chain.0 c.args.found.keys made.0 c.in_ok-collect.field-0 all chain.2 made.2 (rw (c.map.ensures.f) refl)
