use Rattle.rh_rule_text.proofs.OneReading.{one_rule_file, texts_have_no_fault, one_fault}
use Rattle.rh_rule_text.proofs.reader.rule_texts_have_one_answer.Goals as goal

pub returns : goal.returns
returns c text = record {
  one_rule_file = one_rule_file text;
  one_fault = one_fault text;
  not_both = texts_have_no_fault text;
}
