use Rattle.std.proofs.Common.{refl}
use Rattle.rh_top.specs.Requests.{request_of}
use Rattle.rh_top.proofs.Written.{refused_ends}
use Rattle.rh_top.proofs.top.done.Goals as goal

pub returns : goal.returns
returns g c = refused_ends _ _ (request_of c.args.command) c.in-Err.status c.in-Err.ensures.refused refl
