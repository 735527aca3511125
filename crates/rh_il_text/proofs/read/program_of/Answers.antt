use Rattle.std.proofs.Common.{ap, ◌∙◌}
use Rattle.std.specs.List.{list_all}
use Rattle.rh_il.specs.Checks.{has_proper_names}
use Rattle.rh_il_text.proofs.Proper.{spelled_proper}
use Rattle.rh_il_text.proofs.read.program_of.Goals as goal

pub checked-requires : goal.checked-requires
checked-requires c =
    ap (list_all has_proper_names) c.in_ok-procs.ensures
    ∙ spelled_proper c.in_ok-names.names c.args.text.now c.args.tokens.now c.args.sources.now c.requires.spells.spelled
