use Rattle.std.proofs.Common.{◌≡◌, ◌++◌, map, take}
use Rattle.rh_log_text.specs.Same.{AreLines}
use Rattle.rh_log_text.specs.Text.{lines_text, node_line}
use Rattle.rh_log_text.proofs.printer.push_log.Given as goal

abbrev pub invariant-loop-node : goal.invariant-loop-node
invariant-loop-node l = (l.out.items ≡ l.initial.out.items ++ lines_text (map node_line (take l.node-index l.node-items))) × AreLines (map node_line (take l.node-index l.node-items))
