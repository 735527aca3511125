use Rattle.std.proofs.Common.{◌==◌, false, length, map, ap, ◌∙◌, arith}
use Rattle.std.specs.Option.{option_map_or}
use Rattle.std.proofs.lemmas.List.{length-map}
use Rattle.rh_domain.specs.declared.fact.GroundFact.{GroundFact}
use Rattle.rh_domain.specs.Binding.{Binding, arg_under}
use Rattle.rh_ground.specs.Instance.{fact_under}
use Rattle.rh_sparse.specs.Candidates.{is_bit_of}
use Rattle.rh_sparse.proofs.OwnBits.{bit_told, many_args}
use Rattle.rh_sparse.proofs.candidates.Concluding.bit_under.Goals as goal

pub returns-in_err-args : goal.returns-in_err-args
returns-in_err-args c = λ bit.
    let site = c.args.self.now.site in
    let concluded = c.args.self.now.concluded.now in
    let is = site.is in
    let fact = fact_under c.args.binding.now concluded in
    let many = c.in_err-args.ensures.none in
    let given = ap length c.as_slice.ensures.value in
    let size = length-map concluded.args (arg_under c.args.binding.now) in
    ap (λ found. option_map_or (λ own. own == bit) found false) c.from_residual.ensures
    ∙ many_args site.schemas.now site.program.now site.place site.number site.proc.now site.edge is.proc_at is.edge_at fact is.laid.few_schemas (omega (arith, many, given, size)) bit

pub returns : goal.returns
returns c = λ bit.
    let site = c.args.self.now.site in
    let concluded = c.args.self.now.concluded.now in
    let is = site.is in
    let binding = c.args.binding.now in
    let fact : GroundFact = record { schema = concluded.schema; args = c.as_slice-2.result.now } in
    let args = c.as_slice-2.ensures.value ∙ c.in_ok-args.ensures.found ∙ ap (map (arg_under binding)) c.as_slice.ensures.value in
    bit_told site.schemas.now site.program.now site.place site.number site.proc.now site.edge is.proc_at is.edge_at fact site.layout.now c.bit_of.result is.laid c.bit_of.ensures.found c.bit_of.ensures.none bit
    ∙ ap (λ (xs : Binding). is_bit_of site.schemas.now site.program.now (record { proc = site.place; edge = site.edge; fact = record { schema = concluded.schema; args = xs } }) bit) args
