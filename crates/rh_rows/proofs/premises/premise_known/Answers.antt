use Rattle.std.proofs.Common.{◌<◌, List, length, map, ◌∙◌, ap, arith}
use Rattle.std.specs.List.{list_all}
use Rattle.std.proofs.lemmas.List.{length-map}
use Rattle.rh_rule.specs.declared.rule.Arg.{Arg}
use Rattle.rh_rule.specs.declared.rule.RuleBase.{RuleBase}
use Rattle.rh_domain.specs.Binding.{arg_under}
use Rattle.rh_ground.specs.Instance.{fact_under}
use Rattle.rh_rows.specs.Known.{known_on}
use Rattle.rh_rows.proofs.KnownBefore.{known_before, many_unknown}
use Rattle.rh_rows.proofs.premises.premise_known.Goals as goal

pub returns-in-Some : goal.returns-in-Some
returns-in-Some g c =
    let site = c.args.site.now in
    let is = site.is in
    let binding = c.args.binding.now in
    let premise = c.args.premise.now in
    let args = c.as_slice-in-Some.ensures.value ∙ c.in-Some.ensures.found ∙ ap (λ (bases : List RuleBase). map (arg_under binding) bases) c.as_slice.ensures.value in
    c.known_on_all.ensures
    ∙ ap (λ (others : List Arg). list_all (known_on site.schemas.now site.program.now (g.T.BitTest.holds c.args.known.now) site.place site.proc.now (record { schema = premise.schema; args = others })) site.entering.now) args
    ∙ known_before site.schemas.now site.program.now (g.T.BitTest.holds c.args.known.now) site.place site.proc.now is.proc_at site.node site.entering.now (fact_under binding premise) is.entering_are

pub returns-in-None : goal.returns-in-None
returns-in-None g c =
    let site = c.args.site.now in
    let is = site.is in
    let binding = c.args.binding.now in
    let premise = c.args.premise.now in
    let size = length-map premise.args (arg_under binding) in
    let same = ap length c.as_slice.ensures.value in
    let many : 6 < length (map (arg_under binding) premise.args) = omega (arith, c.in-None.ensures.none, size, same) in
    c.is_empty.ensures
    ∙ many_unknown site.schemas.now site.program.now (g.T.BitTest.holds c.args.known.now) site.place site.proc.now is.proc_at is.laid.few_schemas site.node site.entering.now (fact_under binding premise) many is.entering_are
