use Rattle.std.proofs.Common.{◌≡◌, ◌<◌, ◌+◌, ◌∷◌, ◌++◌, [], length, take, Some, string_bytes, get_or, ap, sym, subst, ◌∙◌, arith}
use Rattle.std.proofs.lemmas.List.{get_or_default, length-take-le, take_more}
use Rattle.std.proofs.lemmas.Map.Text.{hash_map_updates_text}
use Rattle.rh_names.specs.Index.{IsIndex}
use Rattle.rh_names.proofs.IndexSteps.{index_kept, index_put}
use Rattle.rh_names.proofs.names.index_of.Goals as goal
use Rattle.rh_names.proofs.names.index_of.Goals.{then-not-contains_key+in_ok-from_str+in_ok-insert, else-not-contains_key}

pub loop-place-preserved : goal.loop-place-preserved
loop-place-preserved c =
    let names = c.args.names.now in
    let place = c.loop-place.place in
    let old = c.loop-place.places in
    let key = c.text_of-text.result.now in
    let below : place < length names = omega (arith, c.loop-place-test.true) in
    let is : key ≡ get_or names place [] = c.text_of-text.ensures ∙ c.index-names-place.is ∙ get_or_default names place c.index-names-place.result [] below in
    let more : take (place + 1) names ≡ take place names ++ key ∷ [] = take_more names place [] below ∙ ap (λ k. take place names ++ k ∷ []) (sym is) in
    record {
      index = subst (IsIndex c.if-not-contains_key.places) (sym more) (elim c.if-not-contains_key.branch [
        | then-not-contains_key+in_ok-from_str+in_ok-insert w ↦
            subst (λ m. IsIndex m (take place names ++ key ∷ [])) (sym w.places-is)
            (index_put old w.insert.new.self (take place names) place key (string_bytes w.in_ok-from_str.field-0) (sym (length-take-le place names (omega (arith, below)))) w.in_ok-from_str.ensures.ok c.loop-place.invariant.index (sym c.contains_key.ensures ∙ w.if-not-contains_key.true)
            (hash_map_updates_text (string_bytes w.in_ok-from_str.field-0) old w.insert.new.self (Some place) w.in_ok-insert.ensures.updates))
        | else-not-contains_key w ↦ subst (λ m. IsIndex m (take place names ++ key ∷ [])) (sym w.places-is) (index_kept old (take place names) key c.loop-place.invariant.index (sym c.contains_key.ensures ∙ w.if-not-contains_key.false))
      ]);
    }
