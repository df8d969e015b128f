use Rattle.std.proofs.Common.{ap₂, ◌≡◌, sym, ap, ◌∙◌, List, [], ◌∷◌, ◌++◌, None, arith, subst}
use Rattle.ucq_terms.specs.Syntax.{Query}
use Rattle.ucq_terms.specs.Homomorphism.{IsCoreOf}
use Rattle.ucq_fold.specs.Parts.{IsPartInOrder}
use Rattle.ucq_antichain.specs.Rows.{AntichainValue}
use Rattle.ucq_antichain.specs.Calls.{DoesAdd}
use Rattle.ucq_store.specs.declared.Mark.{Mark}
use Rattle.ucq_store.specs.declared.RowState.TheVariants.{Open}
use Rattle.ucq_store.specs.Store.{Store}
use Rattle.ucq_store.specs.Lawful.{IsLawfulByLevels}
use Rattle.ucq_store.specs.Changes.{new_store}
use Rattle.ucq_store.proofs.Beginning.{new_is_lawful}
use Rattle.ucq_store.proofs.First.{live_row, first_row, first_is_sound_core}
use Rattle.ucq_store.proofs.store.Store.new.Goals as goal

abbrev first_mark : Mark
first_mark = record { depth = 0; state = Open }

-- the rows, and the marks, are one
rows_are : (c : goal.After-push) → c.add.new.self ≡ record { budget = c.args.budget; rows = live_row c.shrink.new.query ∷ [] }
rows_are c =
    first_row c.args.budget c.shrink.new.query c.add.result c.add.new.self c.requires.some
    (subst (λ (k : AntichainValue). DoesAdd k c.shrink.new.query c.add.result c.add.new.self) c.in_ok-antichain.ensures c.add.ensures.does)

marks_are : (c : goal.After-push) → c.push.new.self.items ≡ first_mark ∷ []
marks_are c = c.push.ensures.items ∙ ap (λ (ms : List Mark). ms ++ first_mark ∷ []) c.in_ok-marks.ensures.0

asked : (c : goal.After-push) → c.in_ok-core.core ≡ c.args.problem.now.query
asked c = c.in_ok-core.ensures ∙ c.query.ensures

shrunk : (c : goal.After-push) → IsCoreOf c.args.problem.now.query c.shrink.new.query
shrunk c = subst (λ (q : Query). IsCoreOf q c.shrink.new.query) (asked c) c.shrink.ensures.core

made : (c : goal.After-push) → AntichainValue → List Mark → Store
made c k marks = record { problem = c.args.problem.now; budget = k.budget; rows = k.rows; marks = marks; level = 0; claims = 0; cut = None }

is_new : (c : goal.After-push) → made c c.add.new.self c.push.new.self.items ≡ new_store c.args.problem.now c.args.budget c.shrink.new.query
unfolding made
is_new c = ap₂ (λ (k : AntichainValue) (ms : List Mark). made c k ms) (rows_are c) (marks_are c)

pub invariant_of-result : goal.invariant_of-result
unfolding made
invariant_of-result c =
    let core : Query = c.shrink.new.query in
    let part : IsPartInOrder core.atoms c.args.problem.now.query.atoms = subst (λ (q : Query). IsPartInOrder core.atoms q.atoms) (asked c) c.shrink.ensures.part in
    let answers = c.shrink.ensures.answers ∙ ap (λ (q : Query). q.answers) (asked c) in
    let sound = first_is_sound_core c.args.problem.now core part answers c.add.ensures.stored (shrunk c) in
    let law : IsLawfulByLevels (new_store c.args.problem.now c.args.budget core) =
    new_is_lawful c.args.problem.now c.args.budget core c.requires.some sound (shrunk c) in
    let budget : c.add.new.self.budget ≡ c.args.budget = ap (λ (k : AntichainValue). k.budget) (rows_are c) in (
      subst IsLawfulByLevels (sym (is_new c)) law,
      omega (arith, c.requires.small),
      omega (arith, c.push.ensures.room, c.in_ok-marks.ensures.1),
    )

pub returns : goal.returns
unfolding made
returns c = record { new = record { core = c.shrink.new.query; core_of = shrunk c; same = is_new c }; clear = c.add.ensures.clear }
