-- The number that was given is that of the name.
use Rattle.std.proofs.Common.{subst, sym, ap, ℕ}
use Rattle.ucq_terms.specs.Syntax.{Atom}
use Rattle.ucq_reader.specs.Building.{IsNumberOf}
use Rattle.ucq_reader.proofs.Built.{number_lasts}
use Rattle.ucq_reader.proofs.made.atom.Goals as goal

pub returns-clause-name : goal.returns-clause-name
returns-clause-name c =
    subst (λ (n : ℕ). IsNumberOf c.number.new.self c.args.name.now n) (sym (ap (λ (a : Atom). a.name) c.new.ensures))
    (number_lasts c.args.names.now c.number.new.self c.args.name.now c.in_ok-name.name c.in_ok-name.ensures.names c.in_ok-name.ensures.number)
