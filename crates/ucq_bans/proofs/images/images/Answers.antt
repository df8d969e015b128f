use Rattle.std.proofs.Common.{◌≡◌, ◌∙◌, ap, sym, subst, arith, ℕ, length, map}
use Rattle.ucq_terms.specs.Syntax.{Query}
use Rattle.ucq_store.specs.Store.{IsLive}
use Rattle.ucq_bans.specs.inner.Images.{AreImagesBefore}
use Rattle.ucq_bans.proofs.Live.{AreImagesBefore-live, AreImagesBefore-dead}
use Rattle.ucq_bans.proofs.images.images.Goals as goal
use Rattle.ucq_bans.proofs.images.images.Goals.{then-is_live+in_ok-gather_images, else-is_live}

pub loop-row-preserved : goal.loop-row-preserved
loop-row-preserved c =
    let s = c.args.store.now in
    let row = c.loop-row.row in
    elim c.if-is_live.branch [
      | then-is_live+in_ok-gather_images w ↦
          let live : IsLive s row = sym c.is_live.ensures ∙ w.if-is_live.true in
          rw w.found-is (AreImagesBefore-live s row c.args.facts.now w.query_of.result.now.atoms _ _ live (ap (λ (q : Query). q.atoms) w.query_of.ensures) c.loop-row.invariant
          w.in_ok-gather_images.ensures)
      | else-is_live w ↦
          let dead = λ (l : IsLive s row). let yes = c.is_live.ensures ∙ l in let no = w.if-is_live.false in absurd cc in
          rw w.found-is (AreImagesBefore-dead s row c.args.facts.now _ dead c.loop-row.invariant)
    ]

pub returns : goal.returns
returns c =
    let rows = c.rows-row-end.ensures.rows in
    let end : c.loop-row.row ≡ length c.args.store.now.rows = omega arith in
    subst (λ (n : ℕ). AreImagesBefore c.args.store.now n c.args.facts.now (map (λ t. t.items) c.loop-row.found.keys)) end c.loop-row.invariant
