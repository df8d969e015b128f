use Rattle.std.proofs.Common.{◌≡◌, map, string_bytes, take}
use Rattle.ucq_words.proofs.jobs.owned.Given as goal

abbrev pub invariant-loop-name : goal.invariant-loop-name
invariant-loop-name l = map (λ name. string_bytes name) l.all.items ≡ map (λ name. name.now) (take l.name-index l.names)
