-- What is asked is answered.
use Rattle.std.proofs.Common.{ℕ, List, inl, inr, subst}
use Rattle.std.specs.Prelude.{Option}
use Rattle.ucq_terms.specs.Syntax.{Atom}
use Rattle.ucq_run.specs.declared.request.Request.{Request}
use Rattle.ucq_run.specs.declared.outcome.Outcome.{Outcome}
use Rattle.ucq_run.specs.declared.outcome.Outcome.TheVariants.{Finished, Cut, NoMemory, BadWords, ReadFault as ReadFaultAt, TooLong, Refused, WriteFault}
use Rattle.ucq_run.specs.Inputs.{Call}
use Rattle.ucq_run.specs.Causes.{IsCause}
use Rattle.ucq_run.specs.inner.Request.{Asks, AsksAbout, parts_asked}
use Rattle.ucq_run.specs.Parts.{Part}
use Rattle.ucq_run.proofs.PartTexts.{took_nothing}
use Rattle.ucq_outside.specs.Taken.{SinkChange, change_of}
use Rattle.ucq_run.specs.Printed.{IsEarly, PrintsParts, Prints}

-- an outcome that prints has no other cause
pub printed_has_cause : (call : Call) (parts : List Part) (out : SinkChange) (o : Outcome) → PrintsParts parts out o → IsCause call o
printed_has_cause call parts out Finished h = tt
printed_has_cause call parts out Cut h = tt
printed_has_cause call parts out NoMemory h = tt
printed_has_cause call parts out WriteFault h = tt
printed_has_cause call parts out BadWords h = absurd h
printed_has_cause call parts out (ReadFaultAt file at) h = absurd h
printed_has_cause call parts out (TooLong file) h = absurd h
printed_has_cause call parts out (Refused fault) h = absurd h

pub printed : (call : Call) (r : Request) (out : SinkChange) (o : Outcome) → Asks call r → ((facts : List Atom) → AsksAbout r.shared facts → PrintsParts (parts_asked r facts) out o) →
    Prints call out o
printed call r out o asks prints = inl (record {
  settings = asks.settings;
  input = asks.input;
  asked = asks.asked;
  prints = subst (λ (parts : List Part). PrintsParts parts out o) asks.parts (prints asks.input.facts asks.about);
})

pub unprinted : (call : Call) (taken : Option (List ℕ)) (faults : ℕ) (o : Outcome) → IsEarly o → Prints call (change_of taken taken faults faults) o
unprinted call taken faults o early = inr (early, took_nothing taken faults)
