use Rattle.std.proofs.Common.{◌≡◌, drop}
use Rattle.rh_rows.specs.Support.{rules_give}
use Rattle.rh_rows.proofs.support.rules_give.Given as goal

-- the rules so far give nothing, so those that are left decide
abbrev pub invariant-loop-rule : goal.invariant-loop-rule
invariant-loop-rule g l =
    rules_give l.sought.site.schemas.now l.sought.site.program.now (g.T.BitTest.holds l.sought.known.now) l.sought.fact.now l.sought.site.proc.now (drop l.rule-index l.rules) l.left
    ≡ rules_give l.sought.site.schemas.now l.sought.site.program.now (g.T.BitTest.holds l.sought.known.now) l.sought.fact.now l.sought.site.proc.now l.rules l.fn.rulings
