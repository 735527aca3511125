use Rattle.std.proofs.Common.{List, length, ◌<◌, ◌^◌, sym, subst}
use Rattle.rh_rule.specs.declared.schema.Param.{Param}
use Rattle.rh_goals.proofs.hypothesis_list.hypotheses.Goals as goal

pub push_conclusion_clauses-requires : goal.push_conclusion_clauses-requires
push_conclusion_clauses-requires c =
    subst (λ (params : List Param). length params < 2 ^ 32) (sym c.as_slice-params.ensures.value) c.requires
