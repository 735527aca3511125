use Rattle.rh_transform.proofs.Passing.{program_kept}
use Rattle.rh_transform.proofs.rewritten_programs_pass.Goals as goal

pub returns : goal.returns
returns c = λ file rulings known procs is_file program numbers. program_kept file is_file rulings known procs program numbers
