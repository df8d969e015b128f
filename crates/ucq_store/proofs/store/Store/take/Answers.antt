use Rattle.std.proofs.Common.{◌≡◌, ◌+◌, ◌≤◌, Some, None, refl, sym, ap, ◌∙◌, arith, subst}
use Rattle.ucq_antichain.specs.Rows.{AntichainValue}
use Rattle.ucq_store.specs.Store.{Store}
use Rattle.ucq_store.specs.Lawful.{IsLeftOver}
use Rattle.ucq_store.specs.Candidates.{Candidate, used, HoldsCore}
use Rattle.ucq_store.specs.Calls.{IsOffered, DoesTake}
use Rattle.ucq_store.proofs.Steps.{depth_fits}
use Rattle.ucq_store.proofs.Offered.{with_rows, holds_core, known_is_taken, over, added_is_lawful, added_is_taken}
use Rattle.ucq_store.proofs.store.Store.take.Goals as goal

pub overflow_add-self-inside : goal.overflow_add-self-inside
overflow_add-self-inside c =
    let f = c.self.inside in
    let s : Store = record { problem = f.problem.now; budget = f.antichain.budget; rows = f.antichain.rows; marks = f.marks.items; level = f.level; claims = f.claims; cut = f.cut } in
    let o : IsOffered s c.args.candidate.now = subst (λ (v : Store). IsOffered v c.args.candidate.now) (sym c.self.view_is) c.requires in
    let fits : s.level + 1 ≤ 65536 = depth_fits s o.row c.self.invariant.0 o.row_of o.row_depth c.self.invariant.1 in
    omega arith

pub invariant_of-self-in-Added : goal.invariant_of-self-in-Added
invariant_of-self-in-Added c =
    let f = c.self.inside in
    let s : Store = record { problem = f.problem.now; budget = f.antichain.budget; rows = f.antichain.rows; marks = f.marks.items; level = f.level; claims = f.claims; cut = f.cut } in
    let o : IsOffered s c.args.candidate.now = subst (λ (v : Store). IsOffered v c.args.candidate.now) (sym c.self.view_is) c.requires in
    let held : Some c.in_ok-core.core ≡ c.args.candidate.now.core = c.in_ok-core.ensures.core in
    let adds = c.in-Added.ensures.does in
    let budget : c.add.new.self.budget ≡ f.antichain.budget = adds.budget in
    let small : f.antichain.budget ≤ 65536 = c.self.invariant.1 in (
      added_is_lawful s c.args.candidate.now c.in_ok-core.core o held c.in-Added.row c.in-Added.pruned c.add.new.self c.push.new.self.items adds c.push.ensures.items c.in-Added.ensures.stored c.self.invariant.0,
      omega arith,
      omega (arith, c.push.ensures.room, c.self.invariant.2),
    )

pub returns-then-is_known-clause-does : goal.returns-then-is_known-clause-does
returns-then-is_known-clause-does c =
    let f = c.self.inside in
    let s : Store = record { problem = f.problem.now; budget = f.antichain.budget; rows = f.antichain.rows; marks = f.marks.items; level = f.level; claims = f.claims; cut = f.cut } in
    let o : IsOffered s c.args.candidate.now = subst (λ (v : Store). IsOffered v c.args.candidate.now) (sym c.self.view_is) c.requires in
    let does : DoesTake s c.args.candidate.now None s (used c.args.candidate.now.placed) =
    known_is_taken s c.args.candidate.now c.in_ok-core.core o c.in_ok-core.ensures.core c.self.invariant.0.lawful (c.if-is_known.ensures.known.0 refl) c.if-is_known.ensures.evident in
    subst (λ (v : Store). DoesTake v c.args.candidate.now None v c.take.new.self) c.self.view_is
    (subst (λ (x : Candidate). DoesTake s c.args.candidate.now None s x) (sym c.take.ensures.left) does)

pub returns-clause-does : goal.returns-clause-does
returns-clause-does c =
    let f = c.self.inside in
    let s : Store = record { problem = f.problem.now; budget = f.antichain.budget; rows = f.antichain.rows; marks = f.marks.items; level = f.level; claims = f.claims; cut = f.cut } in
    let o : IsOffered s c.args.candidate.now = subst (λ (v : Store). IsOffered v c.args.candidate.now) (sym c.self.view_is) c.requires in
    let placed : c.place.new.self ≡ used (Some c.in-Added.row) = c.place.ensures ∙ ap (λ (x : Candidate). let y : Candidate = record { core = x.core; evidence = x.evidence; placed = Some c.in-Added.row } in y) c.take.ensures.left in
    let after : Store = with_rows s c.add.new.self c.push.new.self.items in
    let does : DoesTake s c.args.candidate.now None after (used (Some c.in-Added.row)) =
    added_is_taken s c.args.candidate.now c.in_ok-core.core o c.in_ok-core.ensures.core c.in-Added.row c.in-Added.pruned c.add.new.self c.push.new.self.items c.in-Added.ensures.does c.push.ensures.items in
    subst (λ (v : Store). DoesTake v c.args.candidate.now None after c.place.new.self) c.self.view_is
    (subst (λ (x : Candidate). DoesTake s c.args.candidate.now None after x) (sym placed) does)

pub returns-in-Full-clause-does : goal.returns-in-Full-clause-does
returns-in-Full-clause-does c =
    let f = c.self.inside in
    let s : Store = record { problem = f.problem.now; budget = f.antichain.budget; rows = f.antichain.rows; marks = f.marks.items; level = f.level; claims = f.claims; cut = f.cut } in
    let o : IsOffered s c.args.candidate.now = subst (λ (v : Store). IsOffered v c.args.candidate.now) (sym c.self.view_is) c.requires in
    let (same, back, fresh, full) = c.in-Full.ensures.does in
    let left : IsLeftOver s.problem s.budget s.rows c.in_ok-core.core = over s c.args.candidate.now c.in_ok-core.core o c.in_ok-core.ensures.core c.in-Full.ensures.stored c.self.invariant.0.lawful fresh full in (
      subst (HoldsCore c.args.candidate.now) (sym back) (holds_core s c.args.candidate.now c.in_ok-core.core o c.in_ok-core.ensures.core),
      c.take.ensures.left ∙ ap used o.fresh.placed_nowhere,
      ap (λ (k : AntichainValue). with_rows s k s.marks) same ∙ c.self.view_is,
      subst (λ (v : Store). IsLeftOver v.problem v.budget v.rows c.in-Full.query) c.self.view_is (subst (IsLeftOver s.problem s.budget s.rows) (sym back) left),
    )
