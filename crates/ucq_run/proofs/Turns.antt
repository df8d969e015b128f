-- The loop over the parts: what holds before each of them, and what it adds.
use Rattle.std.proofs.Common.{◌≡◌, ◌≢◌, ◌+◌, ◌<◌, ◌≤◌, ℕ, Bool, true, List, length, refl, sym, ◌∙◌, subst, arith}
use Rattle.std.proofs.lemmas.Bool.Decides.{nat_tests}
use Rattle.std.specs.Prelude.{◌↔◌, Some, IsTrue, nat_eq, slice_get}
use Rattle.ucq_terms.specs.Syntax.{Atom, Rule}
use Rattle.ucq_reader.specs.declared.input.Asked.{Asked}
use Rattle.ucq_outside.specs.Taken.{SinkChange, Follows, over_both}
use Rattle.ucq_run.specs.declared.outcome.Outcome.{Outcome}
use Rattle.ucq_run.specs.declared.outcome.Outcome.TheVariants.{Finished, Cut, NoMemory, BadWords, ReadFault, TooLong, Refused, WriteFault}
use Rattle.ucq_run.specs.declared.request.Shared.{Shared}
use Rattle.ucq_run.specs.Parts.{Part}
use Rattle.ucq_run.specs.Printed.{PrintsFor, PrintsParts, ended}
use Rattle.ucq_run.specs.inner.Request.{AsksAbout, BringsBack, part_count, parts_for}
use Rattle.ucq_run.proofs.InTurn.{part_at, parts_count}
use Rattle.ucq_run.proofs.PartTexts.{HasPrinted, IsUnfinished, all_printed, cut_more, finished_more, unfinished_ends}

-- one query is the list of one
pub alone_is_one : (n : ℕ) (all : List Asked) → n ≡ length all → IsTrue (nat_eq n 1) ↔ (length all ≡ 1)
alone_is_one n all e = (λ h. sym e ∙ is_one n h, λ h. one_is n (e ∙ h))
  where
    is_one : (m : ℕ) → nat_eq m 1 ≡ true → m ≡ 1
    is_one m h = grind (arith, nat_tests)

    one_is : (m : ℕ) → m ≡ 1 → nat_eq m 1 ≡ true
    one_is m h = grind (arith, nat_tests)

-- neither finished nor cut
pub is_unfinished : (o : Outcome) → (o ≢ Finished) → (o ≢ Cut) → IsUnfinished o
is_unfinished Finished a b = absurd (a refl)
is_unfinished Cut a b = absurd (b refl)
is_unfinished NoMemory a b = tt
is_unfinished BadWords a b = tt
is_unfinished (ReadFault file at) a b = tt
is_unfinished (TooLong file) a b = tt
is_unfinished (Refused fault) a b = tt
is_unfinished WriteFault a b = tt

module _ (s : Shared) (rules : List Rule) (all : List Asked) where
  -- The first parts are printed, some of them cut or none, and the rules are back.
  pub record AreDone (number : ℕ) (now : List Rule) (cut : Bool) (out : SinkChange) : Type 0 where
    pub same_rules : now ≡ rules
    pub printed : (facts : List Atom) → AsksAbout s facts → HasPrinted (parts_for s rules all facts) number out cut
    pub later : out.faults_before ≤ out.faults_after

  -- the part of the number is printed so under the rules, which come back
  pub record IsTurn (number : ℕ) (now kept : List Rule) (out : SinkChange) (o : Outcome) : Type 0 where
    pub prints : (part : Part) (facts : List Atom) → slice_get (parts_for s now all facts) number ≡ Some part → AsksAbout s facts → PrintsFor part out o
    pub back : BringsBack o now kept
    pub later : out.faults_before ≤ out.faults_after

  module _ (number : ℕ) (now : List Rule) (cut : Bool) (first : SinkChange) (so : AreDone number now cut first) (inside : number < part_count s.mode all rules)
      (kept : List Rule) (second : SinkChange) (o : Outcome) (turn : IsTurn number now kept second o) (follows : Follows first second) where
    prints : (part : Part) (facts : List Atom) → slice_get (parts_for s rules all facts) number ≡ Some part → AsksAbout s facts → PrintsFor part second o
    prints part facts at about = turn.prints part facts (subst (λ (rs : List Rule). slice_get (parts_for s rs all facts) number ≡ Some part) (sym so.same_rules) at) about

    pub both_later : (over_both first second).faults_before ≤ (over_both first second).faults_after
    both_later = omega (arith, so.later, turn.later, follows.faults)

    -- a finished part more
    pub turn_finished : o ≡ Finished → AreDone (number + 1) kept cut (over_both first second)
    turn_finished e = record {
      same_rules = subst (λ (o : Outcome). BringsBack o now kept) e turn.back ∙ so.same_rules;
      printed = λ facts about.
          let (part, at) = part_at s rules all facts number inside in
          finished_more (parts_for s rules all facts) number part first second cut at follows (so.printed facts about)
          (subst (λ (o : Outcome). PrintsFor part second o) e (prints part facts at about));
      later = both_later;
    }

    -- a cut one more
    pub turn_cut : o ≡ Cut → AreDone (number + 1) kept true (over_both first second)
    turn_cut e = record {
      same_rules = subst (λ (o : Outcome). BringsBack o now kept) e turn.back ∙ so.same_rules;
      printed = λ facts about.
          let (part, at) = part_at s rules all facts number inside in
          cut_more (parts_for s rules all facts) number part first second cut at follows (so.printed facts about)
          (subst (λ (o : Outcome). PrintsFor part second o) e (prints part facts at about));
      later = both_later;
    }

    -- a part that isn't printed whole ends the loop
    pub turn_ends : (o ≢ Finished) → (o ≢ Cut) → (facts : List Atom) → AsksAbout s facts → PrintsParts (parts_for s rules all facts) (over_both first second) o
    turn_ends a b facts about =
        let (part, at) = part_at s rules all facts number inside in
        unfinished_ends (parts_for s rules all facts) number part first second cut o at
        (record { follows = follows; later = so.later; later_still = turn.later }) (so.printed facts about) (prints part facts at about) (is_unfinished o a b)

  -- all parts are printed
  pub loop_ends : (number : ℕ) (now : List Rule) (cut : Bool) (out : SinkChange) → AreDone number now cut out → number ≡ part_count s.mode all rules →
      (facts : List Atom) → AsksAbout s facts → PrintsParts (parts_for s rules all facts) out (ended cut)
  loop_ends number now cut out so count facts about =
      all_printed (parts_for s rules all facts) out cut
      (subst (λ (n : ℕ). HasPrinted (parts_for s rules all facts) n out cut) (count ∙ sym (parts_count s rules all facts)) (so.printed facts about))
