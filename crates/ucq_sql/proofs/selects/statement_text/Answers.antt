use Rattle.std.proofs.Common.{◌≡◌, ◌++◌, List, ℕ, All, take, sym, ap, ◌∙◌, subst, arith}
use Rattle.std.proofs.lemmas.List.{take_all}
use Rattle.std.proofs.lemmas.List.Elements.{All-more}
use Rattle.std.proofs.lemmas.Option.{get_or_from_slice_get, slice_get_within}
use Rattle.ucq_sql.specs.Selects.{select_of}
use Rattle.ucq_sql.specs.Text.{member_text}
use Rattle.ucq_sql.specs.Laws.{PrintsHeld}
use Rattle.ucq_sql.proofs.Growing.{selects_text-next}
use Rattle.ucq_sql.proofs.selects.statement_text.Goals as goal

pub loop-place-preserved : goal.loop-place-preserved
loop-place-preserved c =
    let names = c.args.names.now in
    let union = c.args.union.now in
    let place = c.loop-place.place in
    let q = c.query.result.now in
    record {
      text = c.in_ok-push_member.ensures.text ∙ (ap (λ (l : List ℕ). l ++ member_text names place (select_of q)) c.loop-place.invariant.text ∙ sym (selects_text-next names union place q c.query.ensures));
      printed = All-more (PrintsHeld names) union place q (slice_get_within union place q c.query.ensures) c.loop-place.invariant.printed
          (subst (PrintsHeld names) (sym (get_or_from_slice_get union place q q c.query.ensures)) c.in_ok-push_member.ensures.printed);
    }

pub returns-clause-printed : goal.returns-clause-printed
returns-clause-printed c =
    let union = c.args.union.now in
    let whole : take c.loop-place.place union ≡ union = take_all c.loop-place.place union (omega arith) in
    subst (All (PrintsHeld c.args.names.now)) whole c.loop-place.invariant.printed
