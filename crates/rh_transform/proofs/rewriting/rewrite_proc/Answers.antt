use Rattle.rh_il.specs.declared.program.Stmt.TheVariants.{Skip}
use Rattle.rh_rows.specs.Known.{known_in}
use Rattle.rh_transform.specs.Rewritten.{rewritten_statement}
use Rattle.rh_transform.proofs.Numbered.{changed_more}
use Rattle.rh_transform.proofs.rewriting.rewrite_proc.Goals as goal

pub loop-number-preserved : goal.loop-number-preserved
loop-number-preserved c =
    let ground = c.args.ground.now in
    let known = known_in ground.file.schemas ground.program c.args.words.now in
    changed_more (rewritten_statement known ground.file.rules ground.rulings c.args.place c.args.proc.now) c.args.proc.now.body c.as_slice-stmt-items.result.now c.loop-number.number Skip c.replaced.result c.loop-number.body c.push.new.self
    c.as_slice-stmt-items.ensures.value c.loop-number-test.true (c.replaced.ensures c.args.proc.now c.requires.stands) c.loop-number.invariant c.in_ok-push.ensures.ok
