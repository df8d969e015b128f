-- The edge of the system, of which only the faults are known.
use Rattle.std.specs.Prelude.{ℕ, List, Bool, Option, None, Result}
use Rattle.ucq_outside.specs.Causes.{faults_after}

-- bytes of which nothing is told
abbrev pub untold : Option (List ℕ)
untold = None

-- the files of the system: the faults so far
pub record SystemFiles : Type 0 where
  pub faults : ℕ

-- a standard stream: whether it is the error stream, and the faults so far
pub record SystemStream : Type 0 where
  pub is_error : Bool
  pub faults : ℕ

-- the system's files after a pull
abbrev pub files_after : {E : Type 0} → Result ℕ E → SystemFiles → SystemFiles
files_after result files = record files { faults = faults_after result files.faults }

-- the stream after a push
abbrev pub stream_after : {E : Type 0} → Result ℕ E → SystemStream → SystemStream
stream_after result stream = record stream { faults = faults_after result stream.faults }
