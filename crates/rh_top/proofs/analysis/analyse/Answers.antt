use Rattle.std.proofs.Common.{ℕ, ◌≡◌, List, ap, sym, ◌∙◌, subst, arith}
use Rattle.rh_rows.specs.declared.ground.Ground.{Ground}
use Rattle.rh_sparse.specs.Parts.{full_in, rows_in}
use Rattle.rh_sparse.specs.Sparse.{missing_count, sparse_rows}
use Rattle.rh_system.specs.Bits.{bit_count}
use Rattle.rh_system.specs.Rows.{IsGreatest}
use Rattle.rh_top.proofs.analysis.analyse.Goals as goal

pub returns-clause-greatest : goal.returns-clause-greatest
returns-clause-greatest g c =
    let facts = c.in_ok-sparse.sparse.facts.now in
    let solved = subst (IsGreatest (sparse_rows (rows_in facts))) (sym c.as_slice.ensures.value) c.in_ok-solved.ensures.greatest in
    subst (IsGreatest (rows_in c.args.ground.now)) (sym c.from.ensures)
    (subst (λ (ground : Ground). IsGreatest (rows_in ground) c.in_ok-words.words.items) c.in_ok-sparse.ensures (c.in_ok-words.ensures.greatest solved))

pub returns-clause-cleared : goal.returns-clause-cleared
returns-clause-cleared g c =
    let facts = c.in_ok-sparse.sparse.facts.now in
    let items = c.in_ok-words.words.items in
    let read = c.as_slice.ensures.value in
    let solved = subst (IsGreatest (sparse_rows (rows_in facts))) (sym read) c.in_ok-solved.ensures.greatest in
    let missing = c.in_ok-words.ensures.missing solved in
    let cleared = c.in_ok-solved.ensures.cleared in
    let same = ap bit_count read in
    let count : c.in_ok-solved.solved.cleared ≡ missing_count (full_in facts) (rows_in facts) items = omega (arith, missing, cleared, same) in
    count ∙ ap (λ (ground : Ground). missing_count (full_in ground) (rows_in ground) items) c.in_ok-sparse.ensures
    ∙ ap (missing_count (full_in c.args.ground.now) (rows_in c.args.ground.now)) (sym c.from.ensures)
