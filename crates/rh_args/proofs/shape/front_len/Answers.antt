use Rattle.std.proofs.Common.{sym, ◌∙◌, arith}
use Rattle.rh_args.specs.declared.form.WordForm.TheVariants as forms
use Rattle.rh_args.proofs.Fronts.{one_further, no_further, at_end}
use Rattle.rh_args.proofs.shape.front_len.Goals as goal

pub loop-len-preserved : goal.loop-len-preserved
loop-len-preserved c =
    let further = one_further c.args.forms.now c.args.words.now c.loop-len.len forms.Opt _ c.as_str.result.now c.loop-len-test.true c.if-len-words.true c.index-words-len.is c.as_str.ensures.value (sym c.fits.ensures ∙ c.if-fits.true) in
    record { so_far = omega (arith, further, c.loop-len.invariant.so_far); in_forms = omega arith; in_words = omega arith }

pub returns-else-fits : goal.returns-else-fits
returns-else-fits c =
    let stops = no_further c.args.forms.now c.args.words.now c.loop-len.len forms.Opt _ c.as_str.result.now c.loop-len-test.true c.if-len-words.true c.index-words-len.is c.as_str.ensures.value (sym c.fits.ensures ∙ c.if-fits.false) in
    record { value = omega (arith, stops, c.loop-len.invariant.so_far); bound = omega arith }

pub returns-else-len-words : goal.returns-else-len-words
returns-else-len-words c =
    let stops = at_end c.args.forms.now c.args.words.now c.loop-len.len c.if-len-words.false in
    record { value = omega (arith, stops, c.loop-len.invariant.so_far); bound = omega arith }
