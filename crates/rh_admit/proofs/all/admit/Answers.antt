use Rattle.std.proofs.Common.{◌≡◌, Ok, map}
use Rattle.std.specs.List.{AllZip}
use Rattle.rayon.proofs.ListFacts.{IfOk-then}
use Rattle.rh_admit.specs.Rules.{IsTold}
use Rattle.rh_admit.proofs.Answered.{excess_first, told_all}
use Rattle.rh_admit.proofs.all.admit.Goals as goal

pub returns-clause-told : goal.returns-clause-told
returns-clause-told g c =
    let file = c.args.file.now in
    let answers = c.in_ok-answers.answers.items in
    IfOk-then c.admissions_in.result (λ made. answers ≡ map Ok made.items) (λ made. AllZip (IsTold file.schemas) file.rules made.items)
    c.admissions_in.ensures.admissions (λ made are. told_all file answers made.items c.in_ok-answers.ensures are)

pub returns-clause-too_many : goal.returns-clause-too_many
returns-clause-too_many g c = λ rule count is.
    let file = c.args.file.now in
    excess_first file c.in_ok-answers.answers.items rule count c.in_ok-answers.ensures (c.admissions_in.ensures.fault rule count is)
