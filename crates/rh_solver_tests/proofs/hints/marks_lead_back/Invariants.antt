use Rattle.rh_solver_tests.proofs.hints.marks_lead_back.Given as goal

abbrev pub ghosts-turns_and_hints : goal.ghosts-turns_and_hints
ghosts-turns_and_hints g a = record { meaning = record { full = a.system.now.system.full; rows = a.system.now.system.rows } }
