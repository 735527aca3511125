use Rattle.std.proofs.Common.{Bool, ◌&&◌, List, ap, sym, ◌∙◌, subst}
use Rattle.rh_domain.specs.declared.domain.Domain.{Domain}
use Rattle.rh_domain.specs.Binding.{Binding, bindings, bindings_in}
use Rattle.rh_ground.specs.Instance.{is_instance}
use Rattle.rh_system.specs.Bits.{BitSet}
use Rattle.rh_sparse.specs.Candidates.{Marks, fact_on, is_bit_of, some_concludes}
use Rattle.rh_sparse.proofs.Marking.{any_of, marks_nothing, wanted_mark}
use Rattle.rh_sparse.proofs.Outside.{outside}
use Rattle.rh_sparse.proofs.candidates.mark_matching.Goals as goal

pub returns-then-is_rule_in : goal.returns-then-is_rule_in
returns-then-is_rule_in c =
    let site = c.args.site.now in
    let rule = c.args.rule.now in
    let tests : Binding → BitSet = λ binding. is_bit_of site.schemas.now site.program.now (fact_on site.place site.edge c.args.concluded.now binding) in
    let accepts : Binding → Bool = λ binding. is_instance site.proc.now rule binding site.edge.node in
    let same = ap (λ (d : Domain). bindings_in d c.as_slice.result.now) site.is.domain_is ∙ ap (bindings site.proc.now) c.as_slice.ensures.value in
    subst (λ (bs : List Binding). Marks (any_of (λ binding bit. accepts binding && tests binding bit) bs) c.args.masks.now.items c.visit_bindings.new.kept.items) same
    (wanted_mark tests accepts (bindings_in site.domain.now c.as_slice.result.now) c.args.masks.now c.visit_bindings.new.kept c.visit_bindings.ensures)

pub returns-else-is_rule_in : goal.returns-else-is_rule_in
returns-else-is_rule_in c =
    let site = c.args.site.now in
    let rule = c.args.rule.now in
    let concluded = c.args.concluded.now in
    marks_nothing (some_concludes site.schemas.now site.program.now site.place site.proc.now site.edge rule concluded) c.args.masks.now.items
    (λ bit below. outside site.schemas.now site.program.now site.place site.proc.now site.edge rule concluded (sym c.is_rule_in.ensures ∙ c.if-is_rule_in.false) bit)
