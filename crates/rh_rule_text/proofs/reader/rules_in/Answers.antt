use Rattle.std.proofs.Common.{◌≡◌, List, true, subst}
use Rattle.std.specs.List.{list_all}
use Rattle.rh_rule_source.specs.declared.word.Word.{Word}
use Rattle.rh_rule_text.specs.Proper.{is_proper_word}
use Rattle.rh_rule_text.proofs.ProperNames.{words_proper}
use Rattle.rh_rule_text.proofs.reader.rules_in.Goals as goal

pub resolved-requires : goal.resolved-requires
resolved-requires c =
    subst (λ (words : List Word). list_all is_proper_word words ≡ true) c.in_ok-source.ensures.source.same (words_proper c.args.src.now c.as_slice.result.now)
