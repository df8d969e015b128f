-- No statements have no facts.
use Rattle.std.proofs.Common.{refl}
use Rattle.ucq_terms.proofs.Lists.{Contains-empty}
use Rattle.ucq_reader.specs.Meaning.{variable}
use Rattle.ucq_reader.proofs.gathered.Gathered.new.Goals as goal

pub returns-clause-gathered : goal.returns-clause-gathered
returns-clause-gathered c = record {
  names = c.in_ok-numbers.ensures.names;
  rules = c.new-2.ensures.items;
  facts = record {
    unknown = λ i x. 0;
    apart = λ i j x y s t e. absurd (Contains-empty (variable x) s);
    below = λ i x s. absurd (Contains-empty (variable x) s);
    facts = c.new-3.ensures.items;
  };
  queries = rw c.new-4.ensures.items tt;
  asked = refl;
}
