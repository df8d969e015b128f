use Rattle.std.proofs.Common.{ℕ, sym, subst, inl, inr, arith}
use Rattle.ucq_terms.specs.Syntax.{Query}
use Rattle.ucq_store.specs.Store.{IsRow}
use Rattle.ucq_bans.specs.Verdicts.{RowMaps}
use Rattle.ucq_bans.specs.inner.Images.{MapsAtoms}
use Rattle.ucq_bans.proofs.Live.{below_or_last}
use Rattle.ucq_bans.proofs.Violated.{row_maps, atoms_map}
use Rattle.ucq_bans.proofs.judging.first_mapped.Goals as goal

pub returns-then-maps : goal.returns-then-maps
returns-then-maps c =
    let s = c.args.store.now in
    let row = c.loop-row.row in
    let facts = c.args.facts.now in
    let here : IsRow s row = let e = c.rows-row-end.ensures.rows in let l = c.loop-row-test.true in omega arith in
    record {
      row_of = here;
      maps = row_maps s c.rows-row-end.ensures.lawful.lawful c.requires row facts here
          (subst (λ (q : Query). MapsAtoms q.atoms facts) c.query_of.ensures (c.maps.ensures.0 c.if-maps.true));
      first = c.loop-row.invariant;
    }

pub loop-row-preserved : goal.loop-row-preserved
loop-row-preserved c = λ earlier l m. elim (below_or_last earlier c.loop-row.row l) [
  | inl lt ↦ c.loop-row.invariant earlier lt m
  | inr e ↦
      let s = c.args.store.now in
      let facts = c.args.facts.now in
      let here : RowMaps s c.loop-row.row facts = subst (λ (r : ℕ). RowMaps s r facts) e m in
      let yes = c.maps.ensures.1 (subst (λ (q : Query). MapsAtoms q.atoms facts) (sym c.query_of.ensures) (atoms_map s c.loop-row.row facts here)) in
      let no = c.if-maps.false in cc
]
