-- What words ask for is within its ranges.
use Rattle.std.proofs.Common.{◌≡◌, ℕ, Bool, List, length, ap, arith}
use Rattle.std.specs.Prelude.{Option, Some, None}
use Rattle.ucq_words.specs.Settings.{IsJob, JobValue, files, make, SettingsValue, StandFor}
use Rattle.ucq_tally.specs.inner.Asked.{IsWithinLimits}

job_of_digits : (digits : Option (List ℕ)) (given : List (List ℕ)) (more : Bool) (job : JobValue) → IsJob digits given more job → IsWithinLimits job
job_of_digits None given more (files listed) is =
    let same : length listed ≡ length given = ap length is.same in
    let some = is.some in
    let few = is.few in
    (omega (arith, same, some), omega (arith, same, few))
job_of_digits None given more (make number) is = absurd is
job_of_digits (Some digits) given more (files listed) is = absurd is
job_of_digits (Some digits) given more (make number) is = (is.spelled.low, is.spelled.high)

pub job_within : (words : List (List ℕ)) (v : SettingsValue) → StandFor words v → IsWithinLimits v.job
job_within words v stand = job_of_digits _ _ _ v.job stand.settings.job
