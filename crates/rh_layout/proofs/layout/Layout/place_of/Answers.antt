use Rattle.std.proofs.Common.{◌<◌, ◌≤◌, length, get_or, ap, sym, ◌∙◌}
use Rattle.std.proofs.lemmas.Bool.{ltb-false}
use Rattle.rh_layout.proofs.WordSearch.{ends_rise, found_there, in_none, past_all}
use Rattle.rh_layout.proofs.layout.Layout.place_of.Goals as goal

pub ended_by-place-requires : goal.ended_by-place-requires
ended_by-place-requires c = ends_rise c.requires.0 c.requires.1 c.args.self.now c.requires.2

pub returns-in_err-laid : goal.returns-in_err-laid
returns-in_err-laid c =
    let whole : length c.args.self.now.procs ≤ c.ended_by-place.result = rw (← c.as_slice.ensures.value) (ltb-false c.ended_by-place.result (length c.as_slice.result.now) (sym c.in_err-laid.ensures.lookup.0)) in
    c.from_residual.ensures ∙ sym (past_all c.requires.0 c.requires.1 c.args.self.now c.requires.2 c.args.word c.ended_by-place.result c.ended_by-place.ensures whole)

pub returns-then-has_word : goal.returns-then-has_word
returns-then-has_word c =
    let below : c.ended_by-place.result < length c.args.self.now.procs = rw (← c.as_slice.ensures.value) c.in_ok-laid.ensures.lookup.3.0 in
    let read = c.in_ok-laid.ensures.lookup.1 ∙ ap (λ procs. get_or procs c.ended_by-place.result c.in_ok-laid.laid.now) c.as_slice.ensures.value in
    sym (found_there c.requires.0 c.requires.1 c.args.self.now c.requires.2 c.args.word c.ended_by-place.result c.ended_by-place.ensures c.in_ok-laid.laid.now below read (sym c.if-has_word.ensures))

pub returns-else-has_word : goal.returns-else-has_word
returns-else-has_word c =
    let below : c.ended_by-place.result < length c.args.self.now.procs = rw (← c.as_slice.ensures.value) c.in_ok-laid.ensures.lookup.3.0 in
    let read = c.in_ok-laid.ensures.lookup.1 ∙ ap (λ procs. get_or procs c.ended_by-place.result c.in_ok-laid.laid.now) c.as_slice.ensures.value in
    sym (in_none c.requires.0 c.requires.1 c.args.self.now c.requires.2 c.args.word c.ended_by-place.result c.ended_by-place.ensures c.in_ok-laid.laid.now below read (sym c.if-has_word.ensures))
