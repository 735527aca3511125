use Rattle.std.proofs.Common.{ℕ, ◌≡◌, ◌+◌, ◌<◌, List, get_or, length, ap, ◌∙◌, arith}
use Rattle.rh_rank.proofs.Runs.{begins_inside, begins_rise}
use Rattle.rh_rank.proofs.numbering.Numbering.end_of.Goals as goal

pub returns-in-Some-clause-begun : goal.returns-in-Some-clause-begun
returns-in-Some-clause-begun c =
    let me = c.args.self.now in
    let below : c.args.run + 1 < length me.begins = rw (← c.as_slice.ensures.value) c.in-Some.ensures.lookup.3.0 in
    let read : c.in-Some.word.now ≡ get_or me.begins (c.args.run + 1) 0 = c.in-Some.ensures.lookup.3.1 0 ∙ ap (λ (list : List ℕ). get_or list (c.args.run + 1) 0) c.as_slice.ensures.value in
    let rise = begins_rise me.words me.begins me.runs c.args.run below in
    omega (arith, read, rise)

pub returns-in-Some-clause-within : goal.returns-in-Some-clause-within
returns-in-Some-clause-within c =
    let me = c.args.self.now in
    let below : c.args.run + 1 < length me.begins = rw (← c.as_slice.ensures.value) c.in-Some.ensures.lookup.3.0 in
    let read : c.in-Some.word.now ≡ get_or me.begins (c.args.run + 1) 0 = c.in-Some.ensures.lookup.3.1 0 ∙ ap (λ (list : List ℕ). get_or list (c.args.run + 1) 0) c.as_slice.ensures.value in
    let inside = begins_inside me.words me.begins me.runs (c.args.run + 1) below in
    omega (arith, read, inside)

pub returns-in-None-clause-begun : goal.returns-in-None-clause-begun
returns-in-None-clause-begun c =
    let me = c.args.self.now in
    let inside = begins_inside me.words me.begins me.runs c.args.run c.requires in
    omega (arith, inside, c.len.ensures)
