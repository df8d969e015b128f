use Rattle.std.proofs.Common.{◌≡◌, ◌≤◌, ℕ, List, length, subst, sym, ap, ◌∙◌, ◌++◌}
use Rattle.std.proofs.lemmas.List.Filters.{dedup_is}
use Rattle.ucq_terms.specs.Syntax.{Atom, Problem}
use Rattle.ucq_terms.specs.Unifier.{atom_at}
use Rattle.ucq_pool.specs.inner.ByHead.{list_of, AreRelevant}
use Rattle.ucq_pool.proofs.Listed.{are_relevant, found_one, within_one, atom_read}
use Rattle.ucq_pool.proofs.indexed.IndexedProblem.relevant.Goals as goal

pub loop-atom-preserved : goal.loop-atom-preserved
loop-atom-preserved c =
    let atoms = c.args.query.now.atoms in
    let read = atom_read atoms c.atoms-atom-items.result.now c.loop-atom.atom-index c.atom-item.result c.atoms-atom-items.ensures.atoms c.loop-atom-test.true c.atom-item.is in
    let name : c.name.result ≡ (atom_at atoms c.loop-atom.atom-index).name = c.name.ensures ∙ ap (λ (a : Atom). a.name) (sym read) in
    let after : c.extend_from_slice.new.self.items ≡ c.loop-atom.numbers.items ++ list_of c.self.inside.lists c.name.result =
    c.in_ok-extend_from_slice.ensures.items ∙ ap (λ (xs : List ℕ). c.loop-atom.numbers.items ++ xs) c.listed.ensures in
    record {
      within = within_one c.self.inside.problem.now.rules c.self.inside.lists c.name.result c.loop-atom.numbers.items c.extend_from_slice.new.self.items c.self.invariant c.loop-atom.invariant.within after;
      found = found_one c.self.inside.lists c.args.query.now c.loop-atom.atom-index c.loop-atom.numbers.items c.extend_from_slice.new.self.items c.loop-atom.invariant.found
          (after ∙ ap (λ (n : ℕ). c.loop-atom.numbers.items ++ list_of c.self.inside.lists n) name);
    }

pub returns : goal.returns
returns c =
    let end : length c.args.query.now.atoms ≤ c.loop-atom.atom-index = subst (λ (xs : List Atom). length xs ≤ c.loop-atom.atom-index) c.atoms-atom-items.ensures.atoms c.loop-atom-test.false in
    subst (λ (p : Problem). AreRelevant p.rules c.args.query.now c.dedup.new.self.items) c.self.view_is
    (are_relevant c.self.inside.problem.now.rules c.args.query.now c.self.inside.lists c.loop-atom.atom-index c.loop-atom.numbers.items c.sort_unstable.new.self.items c.dedup.new.self.items
    c.self.invariant c.sort_unstable.ensures.permutation c.sort_unstable.ensures.sorted (dedup_is _ c.sort_unstable.new.self.items c.dedup.new.self.items c.dedup.ensures.filtered) c.loop-atom.invariant.within end c.loop-atom.invariant.found)
