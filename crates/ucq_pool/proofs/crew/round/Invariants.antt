use Rattle.ucq_pool.proofs.crew.round.Given as goal

abbrev pub ghosts-round_at : goal.ghosts-round_at
ghosts-round_at g a = record { problem = a.problem.now; budget = a.store.budget; board = a.board }
