use Rattle.std.proofs.Common.{ℕ, List, ◌++◌, drop, length, replicate, sym, ◌∙◌, subst}
use Rattle.rh_il.specs.Spelling.{IsSpelling}
use Rattle.rh_il.proofs.Names.{spelled}
use Rattle.rh_il.proofs.name.Name.of.Goals as goal

pub invariant_of-result : goal.invariant_of-result
invariant_of-result c =
    subst (λ (front : List ℕ). IsSpelling (front ++ drop (length c.args.bytes.now) (replicate 32 0)) (length c.args.bytes.now))
    (sym c.copy_from_slice.ensures.after)
    (spelled c.args.bytes.now (sym c.is_name.ensures ∙ c.if-not-is_name.false))
