use Rattle.std.proofs.Common.{is_some, ap, ◌∙◌}
use Rattle.std.specs.Str.{bytes_eq}
use Rattle.rh_names.proofs.IndexSteps.{is_some_position}
use Rattle.rh_names.proofs.names.Names.contains.Goals as goal

pub returns : goal.returns
returns c =
    c.is_some.ensures ∙ ap is_some c.position.ensures ∙ is_some_position (bytes_eq c.args.name.now) c.args.self.now
