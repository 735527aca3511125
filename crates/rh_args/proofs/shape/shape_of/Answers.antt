use Rattle.std.proofs.Common.{◌≡◌, ◌+◌, false, max, drop, get_or, sym, ap, ◌∙◌, arith, length, ⊎_elim}
use Rattle.std.proofs.lemmas.List.{length-map}
use Rattle.std.specs.Cmp.Lexicographic.{pointwise}
use Rattle.std.specs.String.{string_bytes}
use Rattle.rh_args.specs.declared.shape.Shape.TheVariants as shapes
use Rattle.rh_args.specs.Forms.{forms_of, fits, texts, farthest}
use Rattle.rh_args.proofs.Fronts.{front, shaped_later, farthest_later, fits_not}
use Rattle.rh_args.proofs.shape.shape_of.Goals as goal

pub loop-shape-preserved : goal.loop-shape-preserved
loop-shape-preserved c =
    let all = c.args.shapes.now in
    let words = c.args.words.now in
    let i = c.loop-shape.shape-index in
    let shape = get_or all i shapes.Opt in
    let forms_is = c.forms_of-forms.ensures.forms in
    let len_is : c.front_len-len.result ≡ front (forms_of shape) (texts words) =
    c.front_len-len.ensures.value ∙ ap (λ f. front f (texts words)) forms_is in
    let not_whole : front (forms_of shape) (texts words) ≡ length (forms_of shape) → front (forms_of shape) (texts words) ≡ length (texts words) → ⊥ =
    λ to_end to_words. ⊎_elim (λ p. p.1 (len_is ∙ to_words ∙ length-map words string_bytes)) (λ differs. differs (len_is ∙ to_end ∙ ap length (sym forms_is))) c.else-len-forms.either in
    let unfit : pointwise fits (forms_of shape) (texts words) ≡ false = fits_not _ _ not_whole in
    let next = farthest_later all (texts words) i shapes.Opt c.loop-shape-test.true c.loop-shape.place in
    record {
      so_far = ap (λ n. max n (farthest (drop (i + 1) all) (texts words))) (c.max-place.ensures ∙ ap (max c.loop-shape.place) len_is) ∙ next ∙ c.loop-shape.invariant.so_far;
      none_so_far = shaped_later all (texts words) i shapes.Opt c.loop-shape-test.true unfit ∙ c.loop-shape.invariant.none_so_far;
      small = omega (arith, c.max-place.ensures, c.loop-shape.invariant.small, c.front_len-len.ensures.bound, c.forms_of-forms.ensures.short);
    }
