use Rattle.std.proofs.Common.{◌≡◌, ◌+◌, ℕ, List, [], Option, Some, None, MatchOption, arith, sym, subst, ◌∙◌}
use Rattle.std.specs.Prelude.{option_and_then}
use Rattle.rh_log_text.specs.declared.line.Line.{Line}
use Rattle.rh_log_text.specs.declared.reader.Reader.{Reader}
use Rattle.rh_log_text.specs.Faults.{IsSyntaxFault}
use Rattle.rh_log_text.specs.Reader.{IsFine, Reads, advance, at_of}
use Rattle.rh_log_text.specs.Reading.{line_of}
use Rattle.rh_log_text.proofs.Cutting.{lines_short}
use Rattle.rh_log_text.proofs.Going.{Goes, answers, goes_first, goes_on, goes_with, is_whole, refuses, stops, wants}
use Rattle.rh_log_text.proofs.Steps.{all_read, empty_is, same_place}
use Rattle.rh_log_text.proofs.reading.read_logs.Goals as goal
use Rattle.rh_log_text.proofs.reading.read_logs.Goals.{then-not-is_comment+in_ok-next+in-Some, else-not-is_comment}

pub loop-rest-init : goal.loop-rest-init
loop-rest-init c = goes_first c.args.text.now

pub overflow_add-number : goal.overflow_add-number
overflow_add-number c = omega (arith, c.requires, c.loop-rest.invariant.count, lines_short c.args.text.now)

pub returns-in-None-clause-fault : goal.returns-in-None-clause-fault
returns-in-None-clause-fault c = λ number e.
    subst (IsSyntaxFault c.args.text.now) (same_place c.loop-rest.number number e)
    (stops c.args.text.now c.loop-rest.rest.now c.cut_line.result.1.now c.cut_line.result.0.now c.loop-rest.number c.loop-rest.reader c.cut_line.ensures.lines c.loop-rest.invariant
    (sym c.is_comment.ensures ∙ c.if-not-is_comment.true)
    (subst (λ (next : Option Reader). MatchOption next
    (IsFine c.loop-rest.reader → option_and_then (advance (at_of c.loop-rest.reader)) (line_of c.cut_line.result.0.now) ≡ None)
    (λ next. (read : Line) × (line_of c.cut_line.result.0.now ≡ Some read) × Reads c.loop-rest.reader c.loop-rest.number read next)) c.in-None.is c.in_ok-next.ensures))

pub loop-rest-preserved : goal.loop-rest-preserved
loop-rest-preserved c =
    elim c.if-not-is_comment.branch [
      | then-not-is_comment+in_ok-next+in-Some w ↦
          let step = subst (λ (next : Option Reader). MatchOption next
          (IsFine c.loop-rest.reader → option_and_then (advance (at_of c.loop-rest.reader)) (line_of c.cut_line.result.0.now) ≡ None)
          (λ next. (read : Line) × (line_of c.cut_line.result.0.now ≡ Some read) × Reads c.loop-rest.reader c.loop-rest.number read next)) w.in-Some.is w.in_ok-next.ensures in
          subst (Goes c.args.text.now c.cut_line.result.1.now (c.loop-rest.number + 1)) (sym w.reader-is)
          (goes_with c.args.text.now c.loop-rest.rest.now c.cut_line.result.1.now c.cut_line.result.0.now c.loop-rest.number c.loop-rest.reader c.cut_line.ensures.lines c.loop-rest.invariant
          w.in-Some.next step.0 (sym c.is_comment.ensures ∙ w.if-not-is_comment.true) step.1 step.2)
      | else-not-is_comment w ↦
          subst (Goes c.args.text.now c.cut_line.result.1.now (c.loop-rest.number + 1)) (sym w.reader-is)
          (goes_on c.args.text.now c.loop-rest.rest.now c.cut_line.result.1.now c.cut_line.result.0.now c.loop-rest.number c.loop-rest.reader c.cut_line.ensures.lines c.loop-rest.invariant
          (sym c.is_comment.ensures ∙ w.if-not-is_comment.false))
    ]

pub returns-clause-read : goal.returns-clause-read
returns-clause-read c =
    let rest : c.loop-rest.rest.now ≡ [] = empty_is c.loop-rest.rest.now (sym c.is_empty.ensures ∙ c.loop-rest-test.false) in
    all_read (λ sections. is_whole c.args.text.now c.loop-rest.number c.loop-rest.reader sections (subst (λ (rest : List ℕ). Goes c.args.text.now rest c.loop-rest.number c.loop-rest.reader) rest c.loop-rest.invariant))
    c.finish.result c.finish.ensures.all

pub returns-clause-fault : goal.returns-clause-fault
returns-clause-fault c = λ number e.
    let rest : c.loop-rest.rest.now ≡ [] = empty_is c.loop-rest.rest.now (sym c.is_empty.ensures ∙ c.loop-rest-test.false) in
    wants c.args.text.now c.loop-rest.number number c.loop-rest.reader (subst (λ (rest : List ℕ). Goes c.args.text.now rest c.loop-rest.number c.loop-rest.reader) rest c.loop-rest.invariant)
    (c.finish.ensures.fault number e)

pub returns-in-None-clause-whole : goal.returns-in-None-clause-whole
returns-in-None-clause-whole c =
    refuses c.args.text.now c.loop-rest.rest.now c.cut_line.result.1.now c.cut_line.result.0.now c.loop-rest.number c.loop-rest.reader c.cut_line.ensures.lines c.loop-rest.invariant
    (sym c.is_comment.ensures ∙ c.if-not-is_comment.true)
    (subst (λ (next : Option Reader). MatchOption next
    (IsFine c.loop-rest.reader → option_and_then (advance (at_of c.loop-rest.reader)) (line_of c.cut_line.result.0.now) ≡ None)
    (λ next. (read : Line) × (line_of c.cut_line.result.0.now ≡ Some read) × Reads c.loop-rest.reader c.loop-rest.number read next)) c.in-None.is c.in_ok-next.ensures)

pub returns-clause-whole : goal.returns-clause-whole
returns-clause-whole c = λ sections is.
    let rest : c.loop-rest.rest.now ≡ [] = empty_is c.loop-rest.rest.now (sym c.is_empty.ensures ∙ c.loop-rest-test.false) in
    answers c.args.text.now c.loop-rest.number c.loop-rest.reader sections (subst (λ (rest : List ℕ). Goes c.args.text.now rest c.loop-rest.number c.loop-rest.reader) rest c.loop-rest.invariant) is
    c.finish.result c.finish.ensures.all c.finish.ensures.fault
