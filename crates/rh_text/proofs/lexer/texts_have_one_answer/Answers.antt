use Rattle.rh_text.proofs.Unique.{tokens_unique, tokens_have_no_fault, one_first_fault}
use Rattle.rh_text.proofs.lexer.texts_have_one_answer.Goals as goal

pub returns : goal.returns
returns c text = record {
  one_list = tokens_unique text;
  one_fault = one_first_fault text;
  not_both = tokens_have_no_fault text;
}
