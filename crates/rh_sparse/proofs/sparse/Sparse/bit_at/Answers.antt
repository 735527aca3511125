use Rattle.std.proofs.Common.{◌<◌, subst}
use Rattle.std.specs.Prelude.{IsSome, ◌↔◌}
use Rattle.rh_sparse.proofs.Numbers.{count_is}
use Rattle.rh_sparse.proofs.sparse.Sparse.bit_at.Goals as goal

pub returns-clause-some : goal.returns-clause-some
returns-clause-some c =
    let me = c.args.self.now in
    subst (λ count. IsSome c.bit_at.result ↔ (c.args.number < count)) (count_is me.facts.now me.numbering.words me.candidates) c.bit_at.ensures.some
