use Rattle.std.proofs.Common.{get_or, ap, sym, ◌∙◌}
use Rattle.std.specs.List.{position}
use Rattle.rh_layout.specs.Layout.{has_word}
use Rattle.rh_layout.proofs.LaidWords.{found, found_full, past_full}
use Rattle.rh_layout.proofs.layout.Layout.full.Goals as goal

pub full_word-requires : goal.full_word-requires
full_word-requires c =
    let layout = c.args.self.now in
    let here = ap (λ word. position (has_word word) layout.procs) (sym c.from.ensures) ∙ sym c.place_of.ensures ∙ c.in-Some.is in
    let laid = c.index-as_slice-place.result in
    let read = c.index-as_slice-place.is ∙ ap (λ items. get_or items c.in-Some.place laid) c.as_slice.ensures.value in
    let at = found c.requires.0 c.requires.1 layout c.args.word c.requires.2 c.in-Some.place laid here read in
    record { from = at.from; some = at.wide; few = at.narrow }

pub returns-in-Some : goal.returns-in-Some
returns-in-Some c =
    let layout = c.args.self.now in
    let here = ap (λ word. position (has_word word) layout.procs) (sym c.from.ensures) ∙ sym c.place_of.ensures ∙ c.in-Some.is in
    let laid = c.index-as_slice-place.result in
    let read = c.index-as_slice-place.is ∙ ap (λ items. get_or items c.in-Some.place laid) c.as_slice.ensures.value in
    λ schemas procs is. c.full_word.ensures ∙ found_full schemas procs layout c.args.word is c.in-Some.place laid here read

pub returns-in-None : goal.returns-in-None
returns-in-None c =
    let layout = c.args.self.now in
    let none = ap (λ word. position (has_word word) layout.procs) (sym c.from.ensures) ∙ sym c.place_of.ensures ∙ c.in-None.is in
    λ schemas procs is. past_full schemas procs layout c.args.word is none
