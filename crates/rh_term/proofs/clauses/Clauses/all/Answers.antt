use Rattle.std.proofs.Common.{◌≡◌, ◌&&◌, ◌∙◌, ap, sym}
use Rattle.std.specs.List.{flat_map, list_all}
use Rattle.std.proofs.lemmas.List.Folds.{list_all-append}
use Rattle.rh_term.specs.Clauses.{part_clauses}
use Rattle.rh_term.proofs.InParts.{all_flat}
use Rattle.rh_term.proofs.clauses.Clauses.all.Goals as goal

pub returns-then-all_in_parts : goal.returns-then-all_in_parts
returns-then-all_in_parts g c =
    let passes = g.T.ClauseTest.passes c.args.test.now in
    let parts = c.parts.result.0.now in
    let last = c.parts.result.1.now in
    c.all_made.ensures
    ∙ ap (λ first. first && list_all passes last) (sym c.if-all_in_parts.true ∙ c.all_in_parts.ensures ∙ all_flat passes part_clauses parts)
    ∙ sym (list_all-append passes (flat_map part_clauses parts) last)
    ∙ ap (list_all passes) c.parts.ensures

pub returns-else-all_in_parts : goal.returns-else-all_in_parts
returns-else-all_in_parts g c =
    let passes = g.T.ClauseTest.passes c.args.test.now in
    let parts = c.parts.result.0.now in
    let last = c.parts.result.1.now in
    c.if-all_in_parts.false
    ∙ ap (λ first. first && list_all passes last) (sym c.if-all_in_parts.false ∙ c.all_in_parts.ensures ∙ all_flat passes part_clauses parts)
    ∙ sym (list_all-append passes (flat_map part_clauses parts) last)
    ∙ ap (list_all passes) c.parts.ensures
