use Rattle.std.proofs.Common.{◌≡◌, ◌+◌, ◌-◌, ◌≤◌, length, drop}
use Rattle.std.specs.List.{common_prefix_len}
use Rattle.rh_args.specs.Forms.{fits, texts}
use Rattle.rh_args.proofs.shape.front_len.Given as goal

abbrev pub invariant-loop-len : goal.invariant-loop-len
invariant-loop-len l = record {
  so_far : l.len + common_prefix_len fits (drop l.len l.forms) (drop l.len (texts l.words)) ≡ common_prefix_len fits l.forms (texts l.words);
  in_forms : l.len ≤ length l.forms;
  in_words : l.len ≤ length l.words;
}

abbrev pub decreases-loop-len : goal.decreases-loop-len
decreases-loop-len l = length l.forms - l.len
