use Rattle.std.proofs.Common.{List, [], None, arith, refl}
use Rattle.std.specs.List.{flat_map}
use Rattle.rh_term.specs.Clauses.{part_clauses}
use Rattle.rh_refuter.proofs.Adding.{adds_both}
use Rattle.rh_refuter.proofs.Choosing.{false_within}
use Rattle.rh_refuter.proofs.choice.best_of.Goals as goal

pub returns : goal.returns
returns c =
    let labels = c.args.labels.now in
    let all = adds_both labels (record { count = 0; best = None }) c.with_parts.result c.with_made.result (flat_map part_clauses c.args.parts.now) c.args.last.now
    c.with_parts.ensures c.with_made.ensures in
    all.best [] refl (λ number f. absurd (omega (arith, false_within labels [] number f)))
