use Rattle.rh_admit.proofs.Fixed.{one_list}
use Rattle.rh_admit.proofs.laws.one_list_is_told.Goals as goal

pub returns : goal.returns
returns c = one_list
