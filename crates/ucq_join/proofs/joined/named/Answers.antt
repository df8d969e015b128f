use Rattle.std.proofs.Common.{rules, ◌≡◌, ◌≤◌, ◌<◌, ◌*◌, ◌∙◌, ◌^◌, length, ap, subst, arith}
use Rattle.std.proofs.lemmas.List.Elements.{same_from_all_zip}
use Rattle.ucq_classes.specs.Numbers.{Numbers, first, size, IsNumbering}
use Rattle.ucq_classes.proofs.Numbers.{first_more}
use Rattle.ucq_join.specs.inner.Naming.{AreNames}
use Rattle.ucq_join.proofs.Even.{first_even}
use Rattle.ucq_join.proofs.joined.named.Goals as goal

pub invariant_of-result : goal.invariant_of-result
invariant_of-result c =
    let n = c.args.classes.now.numbers in
    let same : c.numbering-numbering.result.now ≡ n = c.numbering-numbering.ensures.numbers in
    let constants : c.constants.result.now ≡ n.constants = c.constants.ensures.constants ∙ ap (λ (m : Numbers). m.constants) same in
    let variables : c.variables.result ≡ n.variables = c.variables.ensures ∙ ap (λ (m : Numbers). m.variables) same in
    let proper : IsNumbering n = subst IsNumbering same c.constants.ensures.proper in
    let at : c.first.result ≡ first n c.len.result = c.first.ensures ∙ ap (λ (m : Numbers). first m c.len.result) same in
    let within : c.len.result ≤ length n.widths = omega (arith, c.len.ensures, c.requires.within) in
    let even = first_even n c.args.width c.requires.width c.len.result within in
    let more : first n c.len.result ≤ size n = first_more n c.len.result (length n.widths) within in
    let small : size n < 2 ^ 32 = proper.small in
    let cloned : length c.in_ok-clone.field-0.items ≡ c.len.result = omega (arith, c.in_ok-clone.ensures.cases.1, c.len.ensures, c.in_ok-clone.field-0.ok.0) in
    let product : length c.in_ok-clone.field-0.items * c.args.width ≡ c.len.result * c.args.width = ap (λ k. k * c.args.width) cloned in
    let count = c.in_ok-names.ensures.count in
    let long = ap length constants in
    (omega arith, omega arith)

pub returns-clause-named : goal.returns-clause-named
returns-clause-named c =
    let v = c.args.classes.now in
    let n = v.numbers in
    let same : c.numbering-numbering.result.now ≡ n = c.numbering-numbering.ensures.numbers in
    let at : c.first.result ≡ first n c.len.result = c.first.ensures ∙ ap (λ (m : Numbers). first m c.len.result) same in
    let len : c.len.result ≡ length c.args.members.now.items = omega (arith, c.len.ensures, c.args.members.now.ok.0) in
    record {
      members = search (rules, same_from_all_zip);
      names = subst (λ k. AreNames n.constants v.labels k c.in_ok-names.names.items) (at ∙ ap (first n) len) c.in_ok-names.ensures;
      constants = ap length (c.constants.ensures.constants ∙ ap (λ (m : Numbers). m.constants) same);
      variables = c.variables.ensures ∙ ap (λ (m : Numbers). m.variables) same;
      width = c.requires.width;
      within = omega (arith, len, c.len.ensures, c.requires.within);
      proper = subst IsNumbering same c.constants.ensures.proper;
      whole = c.numbering-numbering.ensures.whole;
    }
