use Rattle.std.proofs.Common.{◌*◌, ap, ◌∙◌, length, arith}
use Rattle.rh_domain.specs.Binding.{args_in}
use Rattle.rh_domain.specs.Count.{binding_count}
use Rattle.rh_domain.proofs.Bounds.{few_bindings}
use Rattle.rh_domain.proofs.numbering.+binding_count.Goals as goal

pub overflow_mul-result : goal.overflow_mul-result
overflow_mul-result t c =
    let bound = few_bindings c.args.domain.now c.args.params.now c.requires.small c.requires.few in
    let whole = ap (binding_count c.args.domain.now) c.in-Some.ensures.cases.0 in
    let product =
    ap (λ n. n * c.binding_count.result) (c.from.ensures ∙ c.count.ensures)
    ∙ ap (λ n. length (args_in c.args.domain.now c.in-Some.param.now.kind) * n) c.binding_count.ensures in
    omega (arith, bound, whole, product)
