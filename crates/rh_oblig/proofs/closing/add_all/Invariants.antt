use Rattle.std.proofs.Common.{◌≡◌, ◌+◌, ◌<◌, ◌^◌, length, drop, fold}
use Rattle.rh_meaning.specs.Tree.{with_term}
use Rattle.rh_oblig.specs.TermList.{AreFit}
use Rattle.rh_oblig.proofs.closing.add_all.Given as goal

abbrev pub invariant-loop-other : goal.invariant-loop-other
invariant-loop-other l =
    record {
      rest : fold with_term l.terms (drop l.other-index l.others) ≡ fold with_term l.fn.terms l.others;
      fit : AreFit l.terms (drop l.other-index l.others);
      room : length l.terms + length (drop l.other-index l.others) < 2 ^ 32;
    }
