-- Files that have a meaning are not refused.
use Rattle.std.proofs.Common.{◌≡◌, ℕ, List, Result, refl}
use Rattle.std.specs.Prelude.{Ok, Err}
use Rattle.ucq_reader.specs.declared.ReadFault.{ReadFault}
use Rattle.ucq_reader.specs.declared.ReadFault.TheVariants.{BadByte, BadStatement, OpenEnd, UnknownPrefix, NotBuilt, Limit, Unsafe, TooMany, NoQuery, Memory}
use Rattle.ucq_reader.specs.Meaning.{Meant}
use Rattle.ucq_reader.specs.Input.{IsMeaning}
use Rattle.ucq_reader.specs.Outcome.{IsFault}
use Rattle.ucq_reader.proofs.Refusals.{meaning_unique}

abbrev is_meant : Meant → Result Meant ReadFault
is_meant meant = Ok meant

abbrev is_refused : ReadFault → Result Meant ReadFault
is_refused fault = Err fault

other : (meant : Meant) (fault : ReadFault) → is_meant meant ≡ is_refused fault → ⊥
other meant fault e = cc

not_both : (files : List (List ℕ)) (meant : Meant) (fault : ReadFault) → IsMeaning files (is_meant meant) → IsMeaning files (is_refused fault) → ⊥
not_both files meant fault is refused = other meant fault (meaning_unique files (is_meant meant) (is_refused fault) is refused)

pub never_refused : (files : List (List ℕ)) (meant : Meant) (fault : ReadFault) → IsMeaning files (is_meant meant) → IsFault files fault → fault ≡ Memory
never_refused files meant Memory is refused = refl
never_refused files meant (BadByte file at) is refused = absurd (not_both files meant (BadByte file at) is refused)
never_refused files meant (BadStatement file number at) is refused = absurd (not_both files meant (BadStatement file number at) is refused)
never_refused files meant (OpenEnd file at) is refused = absurd (not_both files meant (OpenEnd file at) is refused)
never_refused files meant (UnknownPrefix file at) is refused = absurd (not_both files meant (UnknownPrefix file at) is refused)
never_refused files meant (NotBuilt file number kind) is refused = absurd (not_both files meant (NotBuilt file number kind) is refused)
never_refused files meant (Limit file number which count) is refused = absurd (not_both files meant (Limit file number which count) is refused)
never_refused files meant (Unsafe file number place) is refused = absurd (not_both files meant (Unsafe file number place) is refused)
never_refused files meant (TooMany which count) is refused = absurd (not_both files meant (TooMany which count) is refused)
never_refused files meant NoQuery is refused = absurd (not_both files meant NoQuery is refused)
