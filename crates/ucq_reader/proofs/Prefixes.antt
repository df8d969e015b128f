-- The steps of the search for a prefix.
use Rattle.std.proofs.Common.{◌≡◌, ℕ, true, false, map, List, [], ◌∷◌, ◌++◌, Some, ap, ◌∙◌}
use Rattle.std.specs.Str.{bytes_eq}
use Rattle.std.proofs.lemmas.Bool.{cond-true, cond-false}
use Rattle.std.proofs.lemmas.List.{reverse-append}
use Rattle.ucq_reader.specs.declared.names.Declaration.{Declaration}
use Rattle.ucq_reader.specs.Names.{Declared, declared, inner_bytes}
use Rattle.ucq_reader.specs.View.{bytes_of, declared_view}

-- one more prefix line
pub declared_view-push : (text : List ℕ) (before : List Declaration) (last : Declaration) → declared_view text (before ++ last ∷ []) ≡ (bytes_of text last.name, inner_bytes (bytes_of text last.iri)) ∷ declared_view text before
declared_view-push text before last = ap (map (λ (d : Declaration). (bytes_of text d.name, inner_bytes (bytes_of text d.iri)))) (reverse-append before (last ∷ []))

pub found_here : (text : List ℕ) (ds before : List Declaration) (last : Declaration) (prefix : List ℕ) → ds ≡ before ++ last ∷ [] → bytes_eq prefix (bytes_of text last.name) ≡ true → declared (declared_view text ds) prefix ≡ Some (inner_bytes (bytes_of text last.iri))
found_here text ds before last prefix is e = ap (λ (es : List Declaration). declared (declared_view text es) prefix) is ∙ (ap (λ (es : Declared). declared es prefix) (declared_view-push text before last) ∙ cond-true (bytes_eq prefix (bytes_of text last.name)) _ _ e)

pub not_here : (text : List ℕ) (ds before : List Declaration) (last : Declaration) (prefix : List ℕ) → ds ≡ before ++ last ∷ [] → bytes_eq prefix (bytes_of text last.name) ≡ false → declared (declared_view text ds) prefix ≡ declared (declared_view text before) prefix
not_here text ds before last prefix is e = ap (λ (es : List Declaration). declared (declared_view text es) prefix) is ∙ (ap (λ (es : Declared). declared es prefix) (declared_view-push text before last) ∙ cond-false (bytes_eq prefix (bytes_of text last.name)) _ _ e)
