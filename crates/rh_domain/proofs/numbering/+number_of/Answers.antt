use Rattle.std.proofs.Common.{arith}
use Rattle.rh_domain.proofs.Joined.{found_joined, no_args, no_digit, no_rest, number_below, empty}
use Rattle.rh_domain.proofs.numbering.+number_of.Goals as goal

pub returns-in_default-split_first-clause-none : goal.returns-in_default-split_first-clause-none
returns-in_default-split_first-clause-none t c =
    no_args c.args.domain.now c.args.params.now c.in-Some.param.now c.in-Some.other_params.now c.in-Some.ensures.cases.0 c.args.args.now (empty c.args.args.now c.in_default-split_first.ensures.cases)

pub returns-in_default-number_of-clause-none : goal.returns-in_default-number_of-clause-none
returns-in_default-number_of-clause-none t c =
    no_digit c.args.domain.now c.args.params.now c.in-Some.param.now c.in-Some.other_params.now c.in-Some.ensures.cases.0 c.args.args.now c.in-Some-split_first.arg.now c.in-Some-split_first.other_args.now
    c.in-Some-split_first.ensures.cases.0 c.in_default-number_of.ensures.none

pub returns-in_default-number_of-2-clause-none : goal.returns-in_default-number_of-2-clause-none
returns-in_default-number_of-2-clause-none t c =
    no_rest c.args.domain.now c.args.params.now c.in-Some.param.now c.in-Some.other_params.now c.in-Some.ensures.cases.0 c.args.args.now c.in-Some-split_first.arg.now c.in-Some-split_first.other_args.now
    c.in-Some-split_first.ensures.cases.0 c.in_default-number_of-2.ensures.none

pub returns-clause-found : goal.returns-clause-found
returns-clause-found t c =
    found_joined c.args.domain.now c.args.params.now c.in-Some.param.now c.in-Some.other_params.now c.in-Some.ensures.cases.0 c.args.args.now c.in-Some-split_first.arg.now c.in-Some-split_first.other_args.now
    c.in-Some-number_of.digit c.in-Some-number_of-2.number c.in-Some-number_of-2.count c.in-Some-split_first.ensures.cases.0 c.in-Some-number_of.ensures.found c.in-Some-number_of-2.ensures.found c.in-Some-number_of-2.ensures.count

pub overflow_add-result : goal.overflow_add-result
overflow_add-result t c =
    let whole = found_joined c.args.domain.now c.args.params.now c.in-Some.param.now c.in-Some.other_params.now c.in-Some.ensures.cases.0 c.args.args.now c.in-Some-split_first.arg.now c.in-Some-split_first.other_args.now
    c.in-Some-number_of.digit c.in-Some-number_of-2.number c.in-Some-number_of-2.count c.in-Some-split_first.ensures.cases.0 c.in-Some-number_of.ensures.found c.in-Some-number_of-2.ensures.found c.in-Some-number_of-2.ensures.count in
    let below = number_below c.args.domain.now c.args.params.now _ c.args.args.now whole in
    omega (arith, below, c.requires.few)
