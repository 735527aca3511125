use Rattle.rh_engine.proofs.forked.solve_hinted.Given as goal

abbrev pub ghosts-solve_named_hinted : goal.ghosts-solve_named_hinted
ghosts-solve_named_hinted g a = record { meaning = record { full = g.S.System.full_words a.system.now; rows = g.S.System.rows a.system.now } }
