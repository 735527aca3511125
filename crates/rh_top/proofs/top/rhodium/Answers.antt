use Rattle.rh_args.specs.Forms.{texts}
use Rattle.rh_top.specs.Requests.{request_of}
use Rattle.rh_top.proofs.Asked.{asks, ends_by_words, ranges}
use Rattle.rh_top.proofs.Completeness.{done_or_nothing}
use Rattle.rh_top.proofs.top.rhodium.Goals as goal

pub done-requires-clause-range : goal.done-requires-clause-range
done-requires-clause-range g c κs within = ranges (texts c.args.words.now) (request_of c.in-Ok.command) (asks (texts c.args.words.now) c.in-Ok.command c.in-Ok.ensures.meaning)

pub returns-in-Ok-clause-ends : goal.returns-in-Ok-clause-ends
returns-in-Ok-clause-ends g c = λ request is.
    let words = texts c.args.words.now in
    ends_by_words words _ _ (request_of c.in-Ok.command) request c.done.result (asks words c.in-Ok.command c.in-Ok.ensures.meaning) c.done.ensures is

pub returns-in-Ok-clause-complete : goal.returns-in-Ok-clause-complete
returns-in-Ok-clause-complete g c = λ request is good.
    let words = texts c.args.words.now in
    done_or_nothing _ _ request good c.done.result
    (ends_by_words words _ _ (request_of c.in-Ok.command) request c.done.result (asks words c.in-Ok.command c.in-Ok.ensures.meaning) c.done.ensures is)
