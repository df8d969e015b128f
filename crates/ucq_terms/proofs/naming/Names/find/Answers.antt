-- The place of the text among the keys is its place among the names.
use Rattle.std.proofs.Common.{ℕ, List, Contains, ◌≡◌, sym, ◌∙◌, subst}
use Rattle.std.specs.List.{slice_get}
use Rattle.std.specs.Prelude.{Some}
use Rattle.ucq_terms.specs.Names.{number_of}
use Rattle.ucq_terms.specs.inner.Texts.{text_bytes}
use Rattle.ucq_terms.proofs.Texts.{found_text, missing_text}
use Rattle.ucq_terms.proofs.naming.Names.find.Goals as goal

pub returns-in_err-place : goal.returns-in_err-place
unfolding text_bytes
returns-in_err-place c =
    let none = missing_text text_bytes c.self.inside.texts.keys c.args.text.now (sym c.get_index_of.ensures.index ∙ c.in_err-place.was) in
    rw c.from_residual.ensures (record {
      held = subst (λ (names : List (List ℕ)). Contains names c.args.text.now → ⊥) c.self.view_is none;
      number = tt;
    })

pub returns : goal.returns
unfolding text_bytes
returns c =
    let found = found_text text_bytes c.self.inside.texts.keys c.args.text.now c.in_ok-place.place (sym c.get_index_of.ensures.index ∙ c.in_ok-place.was) in
    record {
      held = subst (λ (names : List (List ℕ)). slice_get names c.in_ok-place.place ≡ Some c.args.text.now) c.self.view_is found.0;
      number = subst (λ (names : List (List ℕ)). c.in_ok-place.place ≡ number_of names c.args.text.now) c.self.view_is found.1;
    }
