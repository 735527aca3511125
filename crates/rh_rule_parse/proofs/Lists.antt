-- The alternatives of the lists of the grammar.
use Rattle.std.proofs.Common.{ℕ, ◌+◌, ◌<◌, List, refl, lit<, arith}
use Rattle.std.proofs.lemmas.Option.{slice_get_within}
use Rattle.rh_grammar.specs.declared.grammar.Symbol.{Symbol}
use Rattle.rh_grammar.specs.Derivation.{alternatives}
use Rattle.rh_rule_source.specs.Grammar.{productions, COMMA, AND, param, params, atom, atoms, mbase, args, cond, conds, item, items}
use Rattle.rh_rule_parse.specs.Lists.{IsSeparated, IsRepeated}

-- two alternatives are all of the nonterminal
two : (n : ℕ) (to : List Symbol) → n < 2 → (0 < n + 1) × (n < 0 + 2)
two n to low = (omega arith, omega arith)

pub params_separated : IsSeparated param params COMMA 0
unfolding productions
params_separated = record { one_more = refl; none_more = refl; no_other = λ n to is. two n to (slice_get_within (alternatives productions params) n to is); fixed = lit< tt; small = lit< tt }

pub atoms_separated : IsSeparated atom atoms AND 0
unfolding productions
atoms_separated = record { one_more = refl; none_more = refl; no_other = λ n to is. two n to (slice_get_within (alternatives productions atoms) n to is); fixed = lit< tt; small = lit< tt }

pub args_separated : IsSeparated mbase args COMMA 0
unfolding productions
args_separated = record { one_more = refl; none_more = refl; no_other = λ n to is. two n to (slice_get_within (alternatives productions args) n to is); fixed = lit< tt; small = lit< tt }

pub conds_separated : IsSeparated cond conds COMMA 0
unfolding productions
conds_separated = record { one_more = refl; none_more = refl; no_other = λ n to is. two n to (slice_get_within (alternatives productions conds) n to is); fixed = lit< tt; small = lit< tt }

pub items_repeated : IsRepeated item items 0
unfolding productions
items_repeated = record { one_more = refl; none_more = refl; no_other = λ n to is. two n to (slice_get_within (alternatives productions items) n to is); small = lit< tt }
