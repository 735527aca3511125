use Rattle.std.proofs.Common.{◌*◌, ◌+◌, ◌-◌, ◌<◌, count_ones, get_or, ap, sym, ◌∙◌, subst}
use Rattle.rh_system.specs.Bits.{bits_in}
use Rattle.rh_rank.specs.Rank.{rank}
use Rattle.rh_rank.proofs.Counted.{bit_number, bit_set, is_counted}
use Rattle.rh_rank.proofs.numbering.bit_in.Goals as goal

pub place_after-place-requires : goal.place_after-place-requires
place_after-place-requires c =
    let words = c.args.words.now in
    subst (λ before. c.args.number - before < count_ones (get_or words c.args.word 0)) (sym c.requires.before)
    (is_counted words c.args.number c.args.word c.requires.stands (c.type_inv.words c.args.word).fits)

pub returns-clause-set : goal.returns-clause-set
returns-clause-set c =
    let words = c.args.words.now in
    ap (λ place. bits_in words (64 * c.args.word + place)) c.from.ensures
    ∙ bit_set words c.args.number c.args.word c.requires.stands c.place_after-place.result c.place_after-place.ensures.below c.place_after-place.ensures.set

pub returns-clause-number : goal.returns-clause-number
returns-clause-number c =
    let words = c.args.words.now in
    ap (λ place. rank (bits_in words) (64 * c.args.word + place)) c.from.ensures
    ∙ bit_number words c.args.number c.args.word c.requires.stands c.place_after-place.result c.place_after-place.ensures.below
    (c.place_after-place.ensures.after ∙ ap (λ before. c.args.number - before) c.requires.before)
