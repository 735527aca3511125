use Rattle.std.proofs.Common.{ap, ◌∙◌}
use Rattle.std.specs.List.{position}
use Rattle.std.specs.Str.{bytes_eq}
use Rattle.indexmap.specs.IndexMap.{get_by_text}
use Rattle.rh_names.proofs.names.Names.position.Goals as goal

pub returns : goal.returns
returns c =
    let name = c.args.name.now in
    let all = c.self.inside in
    c.copied.ensures ∙ c.get.ensures.value ∙ ap (get_by_text all.places) c.text_of.ensures ∙ c.self.invariant name
    ∙ ap (position (bytes_eq name)) c.self.view_is
