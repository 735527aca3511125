use Rattle.std.proofs.Common.{◌≡◌, ◌*◌, ◌≤◌, length, take}
use Rattle.rh_list.specs.Each.{EachBefore}
use Rattle.rh_layout.specs.Bits.{word_count}
use Rattle.rh_layout.specs.Layout.{AreLaid, HasFewFacts}
use Rattle.rh_layout.proofs.layout.Layout.new.Given as goal

-- the procedures so far
abbrev pub invariant-loop-number : goal.invariant-loop-number
invariant-loop-number l = record {
  count : length l.procs ≡ l.number;
  words_are : l.words ≡ word_count l.schemas (take l.number l.program);
  room : l.words ≤ l.number * 2098176;
  few : EachBefore (HasFewFacts l.schemas) l.program l.number;
  laid : AreLaid l.schemas l.program l.procs;
}
