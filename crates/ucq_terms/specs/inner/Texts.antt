-- Texts of names, as keys.
use Rattle.std.specs.Prelude.{ℕ, List}
use Rattle.ucq_terms.specs.declared.text.Text.{Text}
use Rattle.ucq_terms.specs.declared.text.Text.TheVariants.{Short, Long, Asked}

-- the bytes of a text
unfoldable pub text_bytes : Text → List ℕ
text_bytes (Short bytes) = bytes.items
text_bytes (Long bytes) = bytes.items
text_bytes (Asked bytes) = bytes.now
