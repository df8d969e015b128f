-- What words may ask for.
use Rattle.std.specs.Prelude.{◌≤◌, length}
use Rattle.ucq_words.specs.Settings.{JobValue, files, make}

-- 1 to 64 files, or an input for 1 to 4,000
abbrev pub IsWithinLimits : JobValue → Type 0
IsWithinLimits (files names) = (1 ≤ length names) × (length names ≤ 64)
IsWithinLimits (make number) = (1 ≤ number) × (number ≤ 4000)
