use Rattle.std.proofs.Common.{◌≡◌, Some, refl, sym, ap, ◌∙◌}
use Rattle.std.specs.Prelude.{slice_get}
use Rattle.std.proofs.lemmas.Option.{same_Some, slice_get_read}
use Rattle.rh_system.specs.Bits.{bits_in}
use Rattle.rh_rows.proofs.FirstInstance.{few_params, none_known, one_proc, same_known}
use Rattle.rh_rows.proofs.ground.Ground.first_instance.Goals as goal

pub returns-in_err-site : goal.returns-in_err-site
returns-in_err-site c = λ proc shape at rule_at.
    let ground = c.args.self.now in
    c.from_residual.ensures ∙ sym (none_known ground.file.schemas ground.program (bits_in c.args.words.now) c.args.place proc c.args.node shape at c.in_err-site.ensures.none)

pub first_known-requires : goal.first_known-requires
first_known-requires c =
    let ground = c.args.self.now in
    let rule = c.in_ok-rule.rule.now in
    let read : slice_get ground.file.rules c.args.rule ≡ Some rule = ap (λ rules. slice_get rules c.args.rule) (sym c.rules.ensures.value) ∙ slice_get_read c.rules.result.now _ c.args.rule rule refl c.in_ok-rule.ensures.lookup.3.0 c.in_ok-rule.ensures.lookup.1 in
    few_params ground.file c.args.rule rule c.rules.ensures.file read

pub returns : goal.returns
returns c = λ proc shape at rule_at.
    let ground = c.args.self.now in
    let site = c.in_ok-site.site in
    let told = c.in_ok-site.ensures in
    let rule = c.in_ok-rule.rule.now in
    let read : slice_get ground.file.rules c.args.rule ≡ Some rule = ap (λ rules. slice_get rules c.args.rule) (sym c.rules.ensures.value) ∙ slice_get_read c.rules.result.now _ c.args.rule rule refl c.in_ok-rule.ensures.lookup.3.0 c.in_ok-rule.ensures.lookup.1 in
    c.first_known.ensures
    ∙ same_known site.schemas.now ground.file.schemas site.program.now ground.program (bits_in c.args.words.now) site.place c.args.place site.proc.now proc site.node c.args.node rule shape told.schemas told.program told.at.0
    (one_proc site.program.now ground.program site.place c.args.place site.proc.now proc told.program told.at.0 site.is.proc_at at) told.at.1 (same_Some rule shape (sym read ∙ rule_at))
