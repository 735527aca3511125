use Rattle.std.proofs.Common.{◌∷◌, [], ap, sym, ◌∙◌, arith}
use Rattle.std.specs.Prelude.{if◌then◌else◌}
use Rattle.std.proofs.lemmas.Option.{slice_get_within}
use Rattle.rh_domain.specs.Binding.{args_in}
use Rattle.rh_ground.specs.Find.{args_to_try}
use Rattle.rh_ground.proofs.Finding.{between_one}
use Rattle.rh_ground.proofs.SameArgs.{among, not_among}
use Rattle.rh_ground.proofs.find.numbers_to_try.Goals as goal

pub returns-in-Some-number_of-clause-all : goal.returns-in-Some-number_of-clause-all
returns-in-Some-number_of-clause-all c =
    let args = args_in c.args.domain.now c.args.kind in
    let arg = c.in-Some.arg in
    let there = among args c.in-Some-number_of.number arg c.in-Some-number_of.ensures.found in
    between_one args c.in-Some-number_of.number arg c.in-Some-number_of.ensures.found
    ∙ sym (ap (λ fixed. args_to_try fixed args) c.in-Some.is ∙ ap (λ b. if b then arg ∷ [] else []) there)

pub returns-in-Some-number_of-clause-within : goal.returns-in-Some-number_of-clause-within
returns-in-Some-number_of-clause-within c =
    let within = slice_get_within (args_in c.args.domain.now c.args.kind) c.in-Some-number_of.number c.in-Some.arg c.in-Some-number_of.ensures.found in
    omega (arith, within)

pub returns-in-None-number_of-clause-all : goal.returns-in-None-number_of-clause-all
returns-in-None-number_of-clause-all c =
    let args = args_in c.args.domain.now c.args.kind in
    let arg = c.in-Some.arg in
    let missing = not_among args arg c.in-None-number_of.ensures.none in
    sym (ap (λ fixed. args_to_try fixed args) c.in-Some.is ∙ ap (λ b. if b then arg ∷ [] else []) missing)
