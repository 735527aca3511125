use Rattle.rh_il_text.proofs.OneReading.{one_program, texts_have_no_fault, one_fault}
use Rattle.rh_il_text.proofs.read.program_texts_have_one_answer.Goals as goal

pub returns : goal.returns
returns c text = record {
  one_program = one_program text;
  one_fault = one_fault text;
  not_both = texts_have_no_fault text;
}
