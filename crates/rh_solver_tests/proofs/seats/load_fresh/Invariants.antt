use Rattle.rh_solver_tests.proofs.seats.load_fresh.Given as goal

abbrev pub ghosts-two_seats : goal.ghosts-two_seats
ghosts-two_seats g a = record { meaning = record { full = a.system.now.full; rows = a.system.now.rows } }
