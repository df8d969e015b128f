-- Why a fault comes, and how a count goes on.
use Rattle.std.specs.Prelude.{◌≤◌, ◌+◌, ◌-◌, ◌^◌, min, ℕ, Result, Ok, Err, OnErr}

-- the count after n more, which stays at the last value of u64
abbrev pub raised : ℕ → ℕ → ℕ
raised count n = min (count + n) (2 ^ 64 - 1)

-- the count rose, or stands at the last value of u64, where it stays
abbrev pub Rose : ℕ → ℕ → Type 0
Rose before now = raised before 1 ≤ now

-- A count never falls, and a call fails only where the count of faults rose.
pub record HasCause {T E : Type 0} (before now : ℕ) (result : Result T E) : Type 0 where
  pub later : before ≤ now
  pub failed : OnErr result (Rose before now)

-- the count of faults after a call: one more after a fault, and else as before
abbrev pub faults_after : {T E : Type 0} → Result T E → ℕ → ℕ
faults_after (Ok n) faults = faults
faults_after (Err e) faults = raised faults 1
