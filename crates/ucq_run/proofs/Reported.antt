-- Outcomes and how they are told.
use Rattle.std.proofs.Common.{◌≡◌, ℕ, List, [], inl, inr, refl, sym, subst}
use Rattle.std.proofs.lemmas.List.{append-nil}
use Rattle.std.specs.Prelude.{Option, Some, None, Result, Ok, Err, IfOk}
use Rattle.std.specs.Global.{Vec}
use Rattle.ucq_reader.specs.declared.ReadFault.{ReadFault}
use Rattle.ucq_reader.specs.declared.ReadFault.TheVariants.{BadByte, BadStatement, OpenEnd, UnknownPrefix, NotBuilt, Limit, Unsafe, TooMany, NoQuery, Memory}
use Rattle.ucq_reader.specs.Outcome.{OrMemory}
use Rattle.ucq_run.specs.declared.outcome.Outcome.{Outcome}
use Rattle.ucq_run.specs.declared.outcome.Outcome.TheVariants.{NoMemory}
use Rattle.ucq_run.specs.Outcomes.{outcome_line, status_of}
use Rattle.ucq_outside.specs.Taken.{SinkChange, TookAll, TookLine}
use Rattle.ucq_run.specs.Run.{IsTold, IsReported}

-- a sink that wasn't used took nothing
pub took_nothing : (taken : Option (List ℕ)) (before after : ℕ) → TookAll (record { taken_before = taken; taken_after = taken; faults_before = before; faults_after = after }) []
took_nothing None before after = tt
took_nothing (Some bytes) before after = (bytes, refl, sym (append-nil bytes))

-- an outcome whose line takes no memory
pub told_as_it_is : (sink : SinkChange) (outcome told : Outcome) (answer : ℕ) → outcome ≡ told → answer ≡ status_of told → TookLine sink (outcome_line told) → IsReported sink outcome answer
told_as_it_is sink outcome told answer is status line = record { told = told; same = inl (sym is); status = status; line = line }

-- an outcome whose line is made
pub told_if_made : {E : Type 0} (sink : SinkChange) (outcome told : Outcome) (line : Result (Vec ℕ) E) (answer : ℕ) → outcome ≡ told →
    IfOk line (λ l. l.items ≡ outcome_line told) → IsTold sink line (status_of told) answer → IsReported sink outcome answer
told_if_made sink outcome told (Ok l) answer is made h =
    record { told = told; same = inl (sym is); status = h.0; line = subst (λ (text : List ℕ). TookLine sink text) made h.1 }
told_if_made sink outcome told (Err e) answer is made h =
    record { told = NoMemory; same = inr refl; status = h.0; line = h.1 }

-- a fault of the reader that isn't want of memory is a refusal
pub but_memory : (P : ReadFault → Type 0) (fault : ReadFault) → (fault ≡ Memory → ⊥) → OrMemory P fault → P fault
but_memory P (BadByte file at) other h = h
but_memory P (BadStatement file number at) other h = h
but_memory P (OpenEnd file at) other h = h
but_memory P (UnknownPrefix file at) other h = h
but_memory P (NotBuilt file number kind) other h = h
but_memory P (Limit file number which count) other h = h
but_memory P (Unsafe file number place) other h = h
but_memory P (TooMany which count) other h = h
but_memory P NoQuery other h = h
but_memory P Memory other h = absurd (other refl)
