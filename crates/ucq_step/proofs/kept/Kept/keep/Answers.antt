use Rattle.std.proofs.Common.{◌≡◌, Bool, true, false, not, List, Contains, refl, sym, ap, ◌∙◌, subst}
use Rattle.std.specs.List.{list_any}
use Rattle.indexmap.specs.IndexSet.{insert_key}
use Rattle.ucq_terms.specs.Syntax.{Query}
use Rattle.ucq_terms.specs.Equality.{query_eq}
use Rattle.ucq_step.proofs.Keeping.{HasKept-insert_key, Contains-held}
use Rattle.ucq_step.proofs.kept.Kept.keep.Goals as goal

not_false : (b : Bool) → not b ≡ false → b ≡ true
not_false true e = refl
not_false false e = cc

pub returns-clause-kept : goal.returns-clause-kept
returns-clause-kept c =
    HasKept-insert_key c.args.self.now c.insert.new.self.keys c.args.query
    (c.in_ok-is_new.ensures.keys ∙ ap (λ keys. insert_key query_eq keys c.args.query) c.self.view_is)

pub returns-clause-held : goal.returns-clause-held
returns-clause-held c = λ e.
    let held : list_any (query_eq c.args.query) c.self.inside.cores.keys ≡ true = not_false _ (sym c.in_ok-is_new.ensures.added ∙ e) in
    subst (λ (keys : List Query). Contains keys c.args.query) c.self.view_is (Contains-held c.self.inside.cores.keys c.args.query held)
