use Rattle.std.proofs.Common.{arith}
use Rattle.ucq_store.proofs.Delivered.{none_taken, next, read_next, offered_here, one_more_taken, then_left}
use Rattle.ucq_store.proofs.candidates.take_all.Goals as goal

pub loop-place-init : goal.loop-place-init
loop-place-init c = record { clear = λ h. h; taken = none_taken c.args.store.now c.args.row c.args.candidates.now c.requires }

pub take-requires : goal.take-requires
take-requires c =
    let s = c.args.store.now in
    let h = c.loop-place.invariant.taken in
    let cs = c.loop-place.candidates in
    let n = next s c.args.row c.args.candidates.now c.requires c.loop-place.store cs c.loop-place.place h (omega arith) in
    offered_here s c.args.row c.args.candidates.now c.requires c.loop-place.store cs c.loop-place.place h n _
    (read_next s c.args.row c.args.candidates.now c.requires c.loop-place.store cs c.loop-place.place h n c.index-candidates-place.result)

pub returns-in-Some-clause-does : goal.returns-in-Some-clause-does
returns-in-Some-clause-does c =
    let s = c.args.store.now in
    let h = c.loop-place.invariant.taken in
    let cs = c.loop-place.candidates in
    let n = next s c.args.row c.args.candidates.now c.requires c.loop-place.store cs c.loop-place.place h (omega arith) in
    then_left s c.args.row c.args.candidates.now c.requires c.loop-place.store cs c.loop-place.place h n _ c.take.new.candidate c.take.new.self c.in-Some.left
    (read_next s c.args.row c.args.candidates.now c.requires c.loop-place.store cs c.loop-place.place h n c.index-candidates-place.result)
    c.in-Some.ensures.does

pub loop-place-preserved : goal.loop-place-preserved
loop-place-preserved c =
    let s = c.args.store.now in
    let h = c.loop-place.invariant.taken in
    let cs = c.loop-place.candidates in
    let n = next s c.args.row c.args.candidates.now c.requires c.loop-place.store cs c.loop-place.place h (omega arith) in
    record {
      clear = λ is. c.take.ensures.clear (c.loop-place.invariant.clear is);
      taken =
          one_more_taken s c.args.row c.args.candidates.now c.requires c.loop-place.store cs c.loop-place.place h n _ c.take.new.candidate c.take.new.self
          (read_next s c.args.row c.args.candidates.now c.requires c.loop-place.store cs c.loop-place.place h n c.index-candidates-place.result)
          c.in_default.ensures.does;
    }
