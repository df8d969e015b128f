use Rattle.std.proofs.Common.{List, ℕ, Contains, arith, subst}
use Rattle.ucq_hom.specs.Levels.{IsNoted}
use Rattle.ucq_hom.proofs.Noted.{variables_below}
use Rattle.ucq_hom.proofs.levels.note_since.Goals as goal

pub note-requires : goal.note-requires
note-requires c = λ v i.
    let l = variables_below c.args.bindings.now c.args.mark v c.bound_since.ensures.kept (subst (λ (x : List ℕ). Contains x v) c.bound_since.ensures.variables i) in
    omega arith

pub returns : goal.returns
returns c = subst (λ (x : List ℕ). IsNoted c.args.levels.now c.note.new.levels x c.args.level) c.bound_since.ensures.variables c.note.ensures
