use Rattle.std.proofs.Common.{◌∙◌}
use Rattle.rh_outside.proofs.Transfers.{read_more}
use Rattle.rh_outside.proofs.transfer.read_piece.Goals as goal

pub returns-clause-front : goal.returns-clause-front
returns-clause-front g c =
    read_more _ _ _ _ _ c.in-Ok.count (c.len.ensures ∙ c.args.bytes.now.ok.0) c.in_ok-extend_from_slice.ensures.items c.in-Ok.ensures.bytes
