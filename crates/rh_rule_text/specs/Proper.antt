-- Words that are proper names.
use Rattle.std.specs.Prelude.{Bool, true}
use Rattle.rh_il.specs.Name.{is_upper_name}
use Rattle.rh_rule.specs.Words.{is_proper}
use Rattle.rh_rule_source.specs.declared.word.Word.{Word}
use Rattle.rh_rule_source.specs.declared.word.Word.TheVariants.{Fixed, Lower, Upper, Number}

-- a name with a small letter is one that a fact or a rule may have, and one with a capital letter one that a metavariable may have
abbrev pub is_proper_word : Word → Bool
is_proper_word (Fixed class) = true
is_proper_word (Lower s) = is_proper s.name
is_proper_word (Upper s) = is_upper_name s.name
is_proper_word (Number n) = true
