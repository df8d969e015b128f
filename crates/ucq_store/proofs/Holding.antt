-- Candidates that hold cores, with evidence or without.
use Rattle.std.proofs.Common.{◌≡◌, ◌<◌, refl, sym, ◌∙◌, List, [], ◌∷◌, ◌++◌, Some, length, map, arith}
use Rattle.ucq_terms.specs.Syntax.{Query}
use Rattle.ucq_store.specs.Candidates.{Evidence, Candidate, plain, known, HoldsCore, HoldCores}

pub plain_holds : (core : Query) → HoldsCore (plain core) core
plain_holds core = record { core_of = refl; placed_nowhere = refl }

pub known_holds : (core : Query) (evidence : Evidence) → HoldsCore (known core evidence) core
known_holds core evidence = record { core_of = refl; placed_nowhere = refl }

-- what a candidate holds
pub held_core : (c : Candidate) (one two : Query) → HoldsCore c one → HoldsCore c two → one ≡ two
held_core c one two h k = let e : Some one ≡ Some two = sym h.core_of ∙ k.core_of in cc

-- candidates without evidence
pub plain_hold : (cores : List Query) → HoldCores (map plain cores) cores
plain_hold [] = tt
plain_hold (core ∷ cores) = (plain_holds core, plain_hold cores)

-- more of them
pub hold_append : (candidates more : List Candidate) (cores others : List Query) → HoldCores candidates cores → HoldCores more others →
    HoldCores (candidates ++ more) (cores ++ others)
hold_append [] more [] others h k = k
hold_append [] more (core ∷ cores) others h k = absurd h
hold_append (c ∷ candidates) more [] others h k = absurd h
hold_append (c ∷ candidates) more (core ∷ cores) others (first, rest) k = (first, hold_append candidates more cores others rest k)

-- one more
pub hold_push : (candidates : List Candidate) (cores : List Query) (c : Candidate) (core : Query) → HoldCores candidates cores → HoldsCore c core →
    HoldCores (candidates ++ c ∷ []) (cores ++ core ∷ [])
hold_push candidates cores c core h k = hold_append candidates (c ∷ []) cores (core ∷ []) h (k, tt)

pub length_hold : (candidates : List Candidate) (cores : List Query) → HoldCores candidates cores → length candidates ≡ length cores
length_hold [] [] h = refl
length_hold [] (core ∷ cores) h = absurd h
length_hold (c ∷ candidates) [] h = absurd h
length_hold (c ∷ candidates) (core ∷ cores) (first, rest) = let e = length_hold candidates cores rest in omega arith

-- they hold no other cores
pub held_cores : (candidates : List Candidate) (ones twos : List Query) → HoldCores candidates ones → HoldCores candidates twos → ones ≡ twos
held_cores [] [] [] h k = refl
held_cores [] [] (two ∷ twos) h k = absurd k
held_cores [] (one ∷ ones) twos h k = absurd h
held_cores (c ∷ candidates) [] twos h k = absurd h
held_cores (c ∷ candidates) (one ∷ ones) [] h k = absurd k
held_cores (c ∷ candidates) (one ∷ ones) (two ∷ twos) (h, hs) (k, ks) =
    let first : one ≡ two = held_core c one two h k in
    let rest : ones ≡ twos = held_cores candidates ones twos hs ks in
    cc

-- the first of candidates, and the others
pub record IsNext (candidates : List Candidate) (cores : List Query) : Type 0 where
  pub at : Candidate
  pub later : List Candidate
  pub core : Query
  pub rest : List Query
  pub candidates_are : candidates ≡ at ∷ later
  pub cores_are : cores ≡ core ∷ rest
  pub holds : HoldsCore at core
  pub hold : HoldCores later rest

pub next_held : (candidates : List Candidate) (cores : List Query) → HoldCores candidates cores → 0 < length candidates → IsNext candidates cores
next_held [] cores h some = absurd (omega arith)
next_held (c ∷ candidates) [] h some = absurd h
next_held (c ∷ candidates) (core ∷ cores) (first, others) some =
    record { at = c; later = candidates; core = core; rest = cores; candidates_are = refl; cores_are = refl; holds = first; hold = others }
