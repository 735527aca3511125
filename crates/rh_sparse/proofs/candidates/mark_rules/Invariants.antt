use Rattle.std.proofs.Common.{ℕ, List, drop}
use Rattle.rh_sparse.specs.Candidates.{Marks, rules_conclude}
use Rattle.rh_sparse.proofs.candidates.mark_rules.Given as goal

-- with what the rules that are left conclude, all is marked that the rules conclude
abbrev pub invariant-loop-rule : goal.invariant-loop-rule
invariant-loop-rule l =
    let conclude = rules_conclude l.site.schemas.now l.site.program.now l.site.place l.site.proc.now l.site.edge in
    (new : List ℕ) → Marks (conclude (drop l.rule-index l.rules) l.left) l.masks.items new → Marks (conclude l.rules l.fn.rulings) l.fn.masks.items new
