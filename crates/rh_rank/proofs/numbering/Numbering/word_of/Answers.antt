use Rattle.std.proofs.Common.{ℕ, ◌≡◌, ◌+◌, ◌/◌, ◌<◌, ◌≤◌, List, get_or, length, ap, sym, subst, arith}
use Rattle.std.specs.List.{between}
use Rattle.std.specs.List.Sorted.{IsNonDecreasing, IsPartitionPoint}
use Rattle.rh_rank.specs.Numbering.{ones_before}
use Rattle.rh_rank.proofs.Counted.{range_rises, word_found}
use Rattle.rh_rank.proofs.Runs.{run_below}
use Rattle.rh_rank.proofs.numbering.Numbering.word_of.Goals as goal

pub not_after-requires : goal.not_after-requires
not_after-requires c =
    let me = c.args.self.now in
    let many = me.counts.as_many in
    let within = c.end_of-end.ensures.within in
    let first = get_or c.as_slice.result.now (c.args.number / 64) 0 in
    subst (λ (list : List ℕ). IsNonDecreasing (between (first + 1) c.end_of-end.result list)) (sym c.as_slice-2.ensures.value)
    (range_rises me.words me.before me.counts (first + 1) c.end_of-end.result (omega (arith, many, within)))

pub returns-clause-stands : goal.returns-clause-stands
returns-clause-stands c =
    let me = c.args.self.now in
    let number = c.args.number in
    let end = c.end_of-end.result in
    let all = me.all in
    let asked = c.requires in
    let below : number < ones_before me.words (length me.words) = omega (arith, asked, all) in
    let run = run_below me.words me.begins me.runs number below in
    let first = get_or c.as_slice.result.now (number / 64) 0 in
    let read : first ≡ get_or me.begins (number / 64) 0 = ap (λ (list : List ℕ). get_or list (number / 64) 0) c.as_slice.ensures.value in
    let stands = (me.runs.stands (number / 64) run).0 in
    let from : ones_before me.words first ≤ number = subst (λ word. ones_before me.words word ≤ number) (sym read) (omega (arith, stands)) in
    let begun = c.end_of-end.ensures.begun in
    let upto = c.end_of-end.ensures.all number (omega arith) asked in
    word_found me.words me.before me.counts first end number c.not_after.result c.end_of-end.ensures.within (omega (arith, read, begun)) from upto
    (subst (λ (list : List ℕ). c.not_after.result ≤ length (between (first + 1) end list)) c.as_slice-2.ensures.value c.not_after.ensures.bound)
    (subst (λ (list : List ℕ). IsPartitionPoint (λ count. count ≤ number) (λ count. number < count) (between (first + 1) end list) c.not_after.result) c.as_slice-2.ensures.value c.not_after.ensures.point)
