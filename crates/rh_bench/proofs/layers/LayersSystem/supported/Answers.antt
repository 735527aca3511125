use Rattle.std.proofs.Common.{ℕ, ap, ◌∙◌}
use Rattle.rh_system.specs.Bits.{bits_in}
use Rattle.rh_bench.proofs.LayerSupports.{with_begins, without_begins}
use Rattle.rh_bench.proofs.layers.LayersSystem.supported.Goals as goal

pub returns-then-begins : goal.returns-then-begins
returns-then-begins c = with_begins c.args.self.now.direction c.args.self.now.width c.args.self.now.depth c.args.bit (bits_in c.args.words.now) c.begins.result c.requires.in_range c.begins.ensures c.if-begins.true

pub returns-else-begins : goal.returns-else-begins
returns-else-begins c =
    c.has.ensures
    ∙ ap (bits_in c.args.words.now) c.needed.ensures
    ∙ without_begins c.args.self.now.direction c.args.self.now.width c.args.self.now.depth c.args.bit (bits_in c.args.words.now) c.begins.result c.requires.in_range c.begins.ensures c.if-begins.false
