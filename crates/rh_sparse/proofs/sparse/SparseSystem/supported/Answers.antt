use Rattle.std.proofs.Common.{◌<◌, ◌&&◌, ap, sym, ◌∙◌, subst}
use Rattle.std.proofs.lemmas.Bool.{false≢true}
use Rattle.rh_rank.specs.Rank.{rank}
use Rattle.rh_rows.specs.declared.ground.Ground.{Ground}
use Rattle.rh_system.specs.Bits.{BitSet, bits_in}
use Rattle.rh_system.specs.Rows.{supports}
use Rattle.rh_system.specs.Covered.{covered_by_all}
use Rattle.rh_sparse.specs.Parts.{full_in, rows_in}
use Rattle.rh_sparse.proofs.Numbers.{count_is, none_above, supported_number}
use Rattle.rh_sparse.proofs.sparse.SparseSystem.supported.Goals as goal

pub returns-in-Some : goal.returns-in-Some
returns-in-Some c =
    let me = c.args.self.now in
    let words = me.numbering.words in
    let set : BitSet = λ other. bits_in words other && bits_in c.args.words.now (rank (bits_in words) other) in
    c.is_supported.ensures ∙ ap (λ (f : Ground). supports (rows_in f) set c.in-Some.bit) me.same
    ∙ supported_number me.facts.now me.numbering.words me.candidates (bits_in c.args.words.now) c.in-Some.bit c.args.bit c.in-Some.ensures.set c.in-Some.ensures.number

pub returns-in-None : goal.returns-in-None
returns-in-None c =
    let me = c.args.self.now in
    let rows = rows_in me.facts.now in
    let full = full_in me.facts.now in
    sym (none_above full rows (covered_by_all full rows me.facts.now.covered) (bits_in c.args.words.now) c.args.bit
    (λ below. absurd (false≢true (c.in-None.ensures.some.1 (subst (λ count. c.args.bit < count) (sym (count_is me.facts.now me.numbering.words me.candidates)) below)))))
