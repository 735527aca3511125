use Rattle.std.proofs.Common.{◌∙◌, sym, arith}
use Rattle.rh_classes.proofs.Chaining.{bucket_here, leaf_reached, entered, chain_reached}
use Rattle.rh_classes.proofs.chains.enter.Goals as goal

pub returns-in_default-clause-reached : goal.returns-in_default-clause-reached
returns-in_default-clause-reached c =
    leaf_reached _ _ _ c.requires.list (bucket_here _ _ _ _ c.requires.place ∙ sym c.bucket.ensures.value ∙ c.in_default.is)

pub returns-clause-chained : goal.returns-clause-chained
returns-clause-chained c =
    entered _ _ _ _ _ _ c.requires.chained (bucket_here _ _ _ _ c.requires.place ∙ sym c.bucket.ensures.value ∙ c.in-Some.is)
    c.in-Some.ensures.within c.requires.heads (omega arith)

pub returns-clause-reached : goal.returns-clause-reached
returns-clause-reached c =
    chain_reached _ _ _ c.args.links.now _ _ c.requires.chained (bucket_here _ _ _ _ c.requires.place ∙ sym c.bucket.ensures.value ∙ c.in-Some.is)
    c.in-Some.ensures.within c.requires.heads (omega arith)
