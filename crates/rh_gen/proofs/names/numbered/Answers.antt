use Rattle.std.proofs.Common.{◌≡◌, ◌∷◌, [], ◌++◌, ap, ◌∙◌}
use Rattle.std.proofs.lemmas.Bool.{false≢true}
use Rattle.std.specs.Fmt.{decimal}
use Rattle.rh_il.specs.Name.{is_name}
use Rattle.rh_gen.specs.Generated.{numbered}
use Rattle.rh_gen.proofs.Numbered.{is_numbered}
use Rattle.rh_gen.proofs.names.numbered.Goals as goal

pub unreachable-requires : goal.unreachable-requires
unreachable-requires c =
    let bytes : c.as_slice.result.now ≡ numbered c.args.letter c.args.number =
    c.as_slice.ensures.value ∙ c.in_ok-push_count.ensures
    ∙ ap (λ front. front ++ decimal c.from.result) (c.in_ok-push.ensures.items ∙ ap (λ front. front ++ c.args.letter ∷ []) c.new-bytes.ensures.items)
    ∙ ap (numbered c.args.letter) c.from.ensures in
    false≢true (c.in-None.ensures.spelled.1 (ap is_name bytes ∙ is_numbered c.args.letter c.args.number c.requires c.ranges.number.fits))
