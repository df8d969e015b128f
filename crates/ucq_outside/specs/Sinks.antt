-- Sinks in memory, and what a push on them answers.
use Rattle.std.specs.Prelude.{◌≡◌, ◌<◌, ◌+◌, ◌-◌, ◌++◌, ◌&&◌, ◌⊎◌, ℕ, List, length, Contains, Option, Some, None, Result, Ok, Err, Bool, nat_eq, nat_le, if◌then◌else◌}
use Rattle.ucq_outside.specs.declared.memory.TheConstants.{ROOM}
use Rattle.ucq_outside.specs.Causes.{raised, faults_after}

-- a sink of which some calls fail: their numbers, the number of the next call, the faults so far, the bytes that were taken
pub record FailingSink : Type 0 where
  pub failing : List ℕ
  pub calls : ℕ
  pub faults : ℕ
  pub taken : List ℕ

-- A push fails where its number is listed or the piece is longer than the room that is left.
abbrev pub RefusesPush : FailingSink → List ℕ → Type 0
RefusesPush sink piece = Contains sink.failing sink.calls ⊎ (ROOM - length sink.taken < length piece)

-- What a push on a failing sink answers: a fault exactly where it is refused, and else the piece is taken whole.
abbrev pub Pushes : {E : Type 0} → FailingSink → List ℕ → Result ℕ E → Type 0
Pushes sink piece (Ok n) = ¬ (RefusesPush sink piece) × (n ≡ length piece)
Pushes sink piece (Err e) = RefusesPush sink piece

-- the bytes that a sink has taken after a push
abbrev pub taken_after : {E : Type 0} → Result ℕ E → List ℕ → List ℕ → List ℕ
taken_after (Ok n) piece taken = taken ++ piece
taken_after (Err e) piece taken = taken

-- the sink after a push: its number counted, a fault if it was one, and the piece if it was taken
abbrev pub sink_after : {E : Type 0} → Result ℕ E → List ℕ → FailingSink → FailingSink
sink_after result piece sink = record sink { calls = raised sink.calls 1; faults = faults_after result sink.faults; taken = taken_after result piece sink.taken }

-- a sink that never fails: the bytes that it kept, and how many it lost past its room
pub record CountingSink : Type 0 where
  pub taken : List ℕ
  pub lost : ℕ

-- whether a piece is kept: nothing was lost so far, and it fits into the room that is left
abbrev pub is_kept : CountingSink → List ℕ → Bool
is_kept sink piece = nat_eq sink.lost 0 && nat_le (length sink.taken + length piece) ROOM

-- the sink after a push: a piece is kept whole, or its bytes are counted as lost
abbrev pub counted_after : List ℕ → CountingSink → CountingSink
counted_after piece sink = (if is_kept sink piece then record sink { taken = sink.taken ++ piece } else record sink { lost = raised sink.lost (length piece) })

-- what the sink tells: its bytes, and nothing once some were lost
abbrev pub told : CountingSink → Option (List ℕ)
told sink = (if nat_eq sink.lost 0 then Some sink.taken else None)
