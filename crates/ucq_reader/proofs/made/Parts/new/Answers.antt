-- No statements have no names, rules, queries or facts.
use Rattle.std.proofs.Common.{[], refl, ap, arith, length}
use Rattle.ucq_terms.proofs.Lists.{Contains-empty}
use Rattle.ucq_reader.specs.Meaning.{variable}
use Rattle.ucq_reader.proofs.made.Parts.new.Goals as goal

pub returns : goal.returns
returns c = record {
  made = record {
    all = [];
    gathered = record {
      names = c.in_ok-new.ensures;
      rules = c.new-2.ensures.items;
      facts = record {
        unknown = λ i x. 0;
        apart = λ i j x y s t e. absurd (Contains-empty (variable x) s);
        below = λ i x s. absurd (Contains-empty (variable x) s);
        facts = c.new-4.ensures.items;
      };
      queries = rw c.new-3.ensures.items tt;
      asked = ap length c.new-3.ensures.items;
    };
    texts = refl;
    rules_are = refl;
    queries_are = refl;
    facts_are = refl;
  };
  asked = ap length c.new-3.ensures.items;
  rules = ap length c.new-2.ensures.items;
  facts = ap length c.new-4.ensures.items;
  names = omega (arith, ap length c.in_ok-new.ensures);
}
