use Rattle.std.proofs.Common.{◌∷◌, ◌++◌, ap, sym, refl, ◌∙◌}
use Rattle.std.specs.Prelude.{slice_get}
use Rattle.rh_domain.specs.Binding.{bindings_in}
use Rattle.rh_domain.proofs.Joined.{digits_of, found_joined, no_such_digit, one_behind, stride_is}
use Rattle.rh_domain.proofs.numbering.+push_args.Goals as goal

pub returns-in-Some-arg : goal.returns-in-Some-arg
returns-in-Some-arg t c =
    let more = c.push_args.ensures in (
      c.in-Some-arg.arg ∷ more.0,
      more.1 ∙ ap (λ args. args ++ more.0) c.push.ensures ∙ one_behind c.args.args.now c.in-Some-arg.arg more.0,
      ap (slice_get (bindings_in c.args.domain.now c.args.params.now)) (digits_of c.args.domain.now c.args.params.now c.in-Some.param.now c.in-Some.others.now c.in-Some.ensures.cases.0 c.args.count c.args.number c.count.result c.requires.count c.requires.below c.count.ensures)
          ∙ found_joined c.args.domain.now c.args.params.now c.in-Some.param.now c.in-Some.others.now c.in-Some.ensures.cases.0 (c.in-Some-arg.arg ∷ more.0) c.in-Some-arg.arg more.0 _ _ _ refl (sym c.arg.ensures ∙ c.in-Some-arg.is) more.2
          (stride_is c.args.domain.now c.args.params.now c.in-Some.param.now c.in-Some.others.now c.in-Some.ensures.cases.0 c.args.count c.args.number c.count.result c.requires.count c.requires.below c.count.ensures),
    )

pub returns-in_default-arg : goal.returns-in_default-arg
returns-in_default-arg t c =
    absurd (no_such_digit c.args.domain.now c.args.params.now c.in-Some.param.now c.in-Some.others.now c.in-Some.ensures.cases.0 c.args.count c.args.number c.count.result c.requires.count c.requires.below c.count.ensures
    (sym c.arg.ensures ∙ c.in_default-arg.is))
