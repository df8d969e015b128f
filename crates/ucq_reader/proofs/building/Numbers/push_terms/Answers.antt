-- One more token after those that were taken.
use Rattle.std.proofs.Common.{◌≡◌, ◌+◌, ◌≤◌, length, map, take, arith, refl}
use Rattle.ucq_reader.specs.Building.{token_symbol}
use Rattle.ucq_reader.proofs.Built.{room_left, terms_step_at, length-taken}
use Rattle.ucq_reader.proofs.building.Numbers.push_terms.Goals as goal

pub term-requires : goal.term-requires
term-requires c =
    let f = token_symbol c.args.text.now c.args.declarations.now in
    let i = c.loop-token.token-index in
    let within : i + 1 ≤ length c.args.tokens.now = omega arith in
    let taken : length (map f (take i c.args.tokens.now)) ≡ i = length-taken f c.args.tokens.now i (omega arith) in
    room_left c.args.self.now c.loop-token.self (map f (take i c.args.tokens.now)) 1 (length c.args.tokens.now) c.loop-token.invariant.numbered (omega arith) c.requires

pub loop-token-preserved : goal.loop-token-preserved
loop-token-preserved c =
    rw c.in_ok-push.ensures.items
    (terms_step_at (token_symbol c.args.text.now c.args.declarations.now) c.args.tokens.now c.loop-token.token-index _ _ c.args.self.now c.loop-token.self c.term.new.self c.args.built.now.items
    c.loop-token.built.items c.in_ok-term.term (omega arith) refl c.loop-token.invariant c.in_ok-term.ensures.numbered c.in_ok-term.ensures.term)
