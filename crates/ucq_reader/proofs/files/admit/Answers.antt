use Rattle.std.proofs.Common.{◌≡◌, ◌∷◌, [], List, subst, None}
use Rattle.ucq_reader.specs.declared.names.Declaration.{Declaration}
use Rattle.ucq_reader.specs.Meaning.{statement_fault}
use Rattle.ucq_reader.specs.Outcome.{AreTakenUp}
use Rattle.ucq_reader.specs.inner.Placing.{placed_view}
use Rattle.ucq_reader.proofs.files.admit.Goals as goal

pub returns-clause-admitted : goal.returns-clause-admitted
returns-clause-admitted c = record {
  clear = subst (λ (ds : List Declaration). statement_fault (placed_view c.args.place.file c.args.place.number c.args.text.now ds c.args.tokens.now c.args.form.now) ≡ None) c.as_slice.ensures.value c.in_ok-take_statement.ensures.clear;
  taken = subst (λ (ds : List Declaration). AreTakenUp (placed_view c.args.place.file c.args.place.number c.args.text.now ds c.args.tokens.now c.args.form.now ∷ []) c.args.gathered.now c.take_statement.new.gathered) c.as_slice.ensures.value c.in_ok-take_statement.ensures.taken;
  grown = c.in_ok-take_statement.ensures.grown;
  declared = c.in_ok-declare.ensures c.args.text.now;
}
