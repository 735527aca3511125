use Rattle.rh_engine.proofs.forked.solve.Given as goal

abbrev pub ghosts-solve_named : goal.ghosts-solve_named
ghosts-solve_named g a = record { meaning = record { full = g.S.System.full_words a.system.now; rows = g.S.System.rows a.system.now } }
