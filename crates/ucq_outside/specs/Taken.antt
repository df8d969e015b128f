-- What a sink took over a call, and over two calls.
use Rattle.std.specs.Prelude.{◌≡◌, ◌≤◌, ◌⊎◌, ◌++◌, ℕ, List, take, Option, Some, IfSome}
use Rattle.ucq_outside.specs.Causes.{Rose}

-- A sink before a call and after it: what it took, where it tells, and its count of faults.
pub record SinkChange : Type 0 where
  pub taken_before : Option (List ℕ)
  pub taken_after : Option (List ℕ)
  pub faults_before : ℕ
  pub faults_after : ℕ

abbrev pub change_of : Option (List ℕ) → Option (List ℕ) → ℕ → ℕ → SinkChange
change_of taken taken_now faults faults_now = record { taken_before = taken; taken_after = taken_now; faults_before = faults; faults_after = faults_now }

-- where it tells, the sink took just this text
abbrev pub TookAll : SinkChange → List ℕ → Type 0
TookAll sink text = IfSome sink.taken_after (λ now. (before : List ℕ) × (sink.taken_before ≡ Some before) × (now ≡ before ++ text))

-- where it tells, it took a prefix of this text
abbrev pub TookPrefix : SinkChange → List ℕ → Type 0
TookPrefix sink text = IfSome sink.taken_after (λ now. (before : List ℕ) × (count : ℕ) × (sink.taken_before ≡ Some before) × (now ≡ before ++ take count text))

-- the text whole, or a prefix of it where the sink's count of faults rose
abbrev pub TookLine : SinkChange → List ℕ → Type 0
TookLine sink text = TookAll sink text ⊎ (Rose sink.faults_before sink.faults_after × TookPrefix sink text)

-- ---- two calls

-- the second call finds the sink as the first left it
pub record Follows (first second : SinkChange) : Type 0 where
  pub taken : second.taken_before ≡ first.taken_after
  pub faults : second.faults_before ≡ first.faults_after

-- the sink before the first call and after the second
abbrev pub over_both : SinkChange → SinkChange → SinkChange
over_both first second = change_of first.taken_before second.taken_after first.faults_before second.faults_after

-- one text whole, and then another, is the two together
abbrev pub AllThenAll : Type 0
AllThenAll =
    (first second : SinkChange) (one two : List ℕ) →
    Follows first second →
    TookAll first one →
    TookAll second two →
    TookAll (over_both first second) (one ++ two)

-- one text whole, and then a prefix of another, is a prefix of the two together
abbrev pub AllThenPrefix : Type 0
AllThenPrefix =
    (first second : SinkChange) (one two : List ℕ) →
    Follows first second →
    TookAll first one →
    TookPrefix second two →
    TookPrefix (over_both first second) (one ++ two)

-- a prefix of one text is one of the text with another behind it
abbrev pub PrefixOfMore : Type 0
PrefixOfMore = (sink : SinkChange) (one two : List ℕ) → TookPrefix sink one → TookPrefix sink (one ++ two)

-- a count that never falls rose over two calls where it rose in one of them
abbrev pub RoseInOne : Type 0
RoseInOne =
    (before between after : ℕ) →
    before ≤ between →
    between ≤ after →
    Rose before between ⊎ Rose between after →
    Rose before after
