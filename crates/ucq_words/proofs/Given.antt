-- Whether an argument is given, by the entry that clap holds of it.
use Rattle.std.proofs.Common.{◌≡◌, ◌∙◌, ap, refl, Bool, true, false, Option, Some, None, is_some, sym}
use Rattle.std.specs.Prelude.{find, option_map, option_and_then}
use Rattle.std.specs.Option.{option_map_or}
use Rattle.std.specs.Str.{bytes_eq}
use Rattle.clap.specs.Facts.{Entry, explicit_source}
use Rattle.clap.specs.Walk.{Row, Text, row_of, rows_of}
use Rattle.clap.specs.Takes.{is_given}
use Rattle.clap.specs.Matches.{matched_of}
use Rattle.clap.specs.declared.parser.matches.Found.{Found}
use Rattle.clap.specs.declared.parser.matches.MatchedArg.{MatchedArg}
use Rattle.clap.specs.declared.parser.matches.ValueSource.{ValueSource}
use Rattle.clap.specs.declared.parser.matches.ValueSource.TheVariants.{DefaultValue, CommandLine}
use Rattle.clap.proofs.WalkLemmas.{find_row}

-- the entry is one of a use
abbrev pub is_used : Option MatchedArg → Bool
is_used entry = option_map_or (λ a. explicit_source a.source) entry false

of_row : (o : Option Entry) → option_map_or (λ r. explicit_source r.source) (option_map row_of o) false ≡ is_used (option_map (λ e. e.1) o)
of_row None = refl
of_row (Some e) = refl

-- an argument is given where its entry is one of a use
pub is_given-used : (f : Found) (id : Text) → is_used (matched_of f id) ≡ is_given id (rows_of f)
is_given-used f id =
    sym (of_row (find (λ e. bytes_eq e.0.now id) f.entries.items))
    ∙ sym (ap (λ (o : Option Row). option_map_or (λ r. explicit_source r.source) o false) (find_row f.entries.items id))

-- an entry that is a default is none of a use
pub default-unused : (o : Option MatchedArg) → option_and_then (λ a. a.source) o ≡ Some DefaultValue → false ≡ is_used o
default-unused None e = refl
default-unused (Some a) e = sym (ap explicit_source e)

explicit : (s : Option ValueSource) → (s ≡ Some DefaultValue → ⊥) → true ≡ explicit_source s
explicit None h = refl
explicit (Some DefaultValue) h = absurd (h refl)
explicit (Some CommandLine) h = refl

-- any other entry is one of a use
pub other-used : (o : Option MatchedArg) → (option_and_then (λ a. a.source) o ≡ Some DefaultValue → ⊥) → is_some o ≡ is_used o
other-used None h = refl
other-used (Some a) h = explicit a.source h
