use Rattle.std.proofs.Common.{◌<◌, ◌+◌, ◌≡◌, ◌∙◌, length, ap, arith, rules, subst, sym, take}
use Rattle.std.specs.Prelude.{All}
use Rattle.std.proofs.lemmas.List.Elements.{All-push}
use Rattle.std.proofs.lemmas.List.Sums.{sum_by_push}
use Rattle.ucq_antichain.specs.Rows.{live_queries, query_at}
use Rattle.ucq_store.proofs.Live.{dead_more, live_more}
use Rattle.ucq_terms.specs.Query.{IsStored}
use Rattle.ucq_terms.specs.Syntax.{HasEachOnce, Query}
use Rattle.ucq_print.specs.Texts.{atom_count}
use Rattle.ucq_run.proofs.finished.atom_count.Goals as goal
use Rattle.ucq_run.proofs.finished.atom_count.Goals.{then-is_live_at, else-is_live_at}

pub loop-row-preserved : goal.loop-row-preserved
loop-row-preserved g c =
    let rows = (g.R.Rows.value c.args.rows.now).rows in
    let row = c.loop-row.row in
    let inside : row < length rows = search rules in
    let was = c.loop-row.invariant.counted in
    let small = c.loop-row.invariant.small in
    elim c.if-is_live_at.branch [
      | then-is_live_at w ↦
          let more = live_more rows row inside (sym c.is_live_at.ensures ∙ w.if-is_live_at.true) in
          let q = query_at rows row in
          let stored : IsStored q = subst IsStored w.query_at.ensures w.atoms.ensures.stored in
          let size : length w.atoms.result.now ≡ length q.atoms = ap length (w.atoms.ensures.atoms ∙ ap (λ (d : Query). d.atoms) w.query_at.ensures) in
          let sum : atom_count (live_queries (take (row + 1) rows)) ≡ atom_count (live_queries (take row rows)) + length q.atoms =
          ap atom_count more ∙ sum_by_push (λ (d : Query). length d.atoms) (live_queries (take row rows)) q in
          let few = stored.few_atoms in
          let count = w.count-is in
          record {
            counted = omega (arith, sum, size, count, was);
            once = subst (All (λ (d : Query). HasEachOnce d.atoms)) (sym more) (All-push (λ (d : Query). HasEachOnce d.atoms) (live_queries (take row rows)) q c.loop-row.invariant.once stored.once);
            small = omega (arith, count, size, few, small);
          }
      | else-is_live_at w ↦
          let same = dead_more rows row inside (sym c.is_live_at.ensures ∙ w.if-is_live_at.false) in
          let sum = ap atom_count same in
          let count = w.count-is in
          record {
            counted = omega (arith, sum, count, was);
            once = subst (All (λ (d : Query). HasEachOnce d.atoms)) (sym same) c.loop-row.invariant.once;
            small = omega (arith, count, small);
          }
    ]
