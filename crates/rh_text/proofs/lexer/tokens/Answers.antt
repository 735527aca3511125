use Rattle.std.proofs.Common.{is_ok, ap, subst, sym}
use Rattle.std.proofs.ResultArms.{chosen}
use Rattle.rh_text.proofs.TokenLemmas.{all_read, each_token}
use Rattle.rh_text.proofs.Unique.{tokens_unique, tokens_have_no_fault}
use Rattle.rh_text.proofs.FirstFault.{first_fault, fault_not_tokens, fault_is_first}
use Rattle.rh_text.proofs.PieceLemmas.{IsReadTo, front_within, read_gap, read_token}
use Rattle.rh_text.proofs.lexer.tokens.Goals as goal

pub loop-at-preserved-in_ok-push : goal.loop-at-preserved-in_ok-push
loop-at-preserved-in_ok-push c =
    let text = c.args.text.now in
    let at = c.loop-at.at in
    let front = c.in_ok-front.front in
    let pushed = chosen _ _ _ _ c.push.ensures.items (ap is_ok c.in_ok-push.was) in
    record {
      read = subst (IsReadTo text _) (sym pushed) (read_token text at front c.in_ok-front.ensures _ _ c.loop-at.invariant.read c.in-Some.is);
      within = front_within text at front c.in_ok-front.ensures c.loop-at.invariant.within;
    }

pub loop-at-preserved : goal.loop-at-preserved
loop-at-preserved c =
    let text = c.args.text.now in
    let at = c.loop-at.at in
    let front = c.in_ok-front.front in
    record {
      read = read_gap text at front c.in_ok-front.ensures _ c.loop-at.invariant.read c.in_default.is;
      within = front_within text at front c.in_ok-front.ensures c.loop-at.invariant.within;
    }

pub returns-in_err-front-clause-whole : goal.returns-in_err-front-clause-whole
returns-in_err-front-clause-whole c =
    let first = first_fault c.args.text.now c.loop-at.at _ c.in_err-front.field-0.0 c.loop-at.invariant.read c.in_err-front.ensures in
    fault_not_tokens c.args.text.now c.in_err-front.field-0.0 first c.from_residual.result c.from_residual.ensures.1

pub returns-in_err-front-clause-first : goal.returns-in_err-front-clause-first
returns-in_err-front-clause-first c =
    let first = first_fault c.args.text.now c.loop-at.at _ c.in_err-front.field-0.0 c.loop-at.invariant.read c.in_err-front.ensures in
    fault_is_first c.args.text.now c.in_err-front.field-0.0 first c.from_residual.result c.from_residual.ensures.1

pub returns-clause-each : goal.returns-clause-each
returns-clause-each c =
    let text = c.args.text.now in each_token text _ (all_read text c.loop-at.at _ c.loop-at-test.false c.loop-at.invariant.read)

pub returns-clause-whole : goal.returns-clause-whole
returns-clause-whole c all are =
    let text = c.args.text.now in tokens_unique text _ all (all_read text c.loop-at.at _ c.loop-at-test.false c.loop-at.invariant.read) are

pub returns-clause-first : goal.returns-clause-first
returns-clause-first c fault first =
    let text = c.args.text.now in
    tokens_have_no_fault text _ fault (all_read text c.loop-at.at _ c.loop-at-test.false c.loop-at.invariant.read) first
