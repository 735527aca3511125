-- What `gen` writes: how many procedures, proved rules, refused rules, known facts and rewritten statements there are.
use Rattle.std.specs.Prelude.{ℕ, zero, suc, ◌+◌, Bool, true, false, List, [], ◌∷◌, ◌++◌, codes, filter, length, if◌then◌else◌}
use Rattle.std.specs.Fmt.{decimal}
use Rattle.std.specs.Option.{is_some}
use Rattle.rh_il.specs.declared.program.Proc.{Proc}
use Rattle.rh_rule.specs.declared.rule.Ruling.{Ruling}
use Rattle.rh_rule.specs.declared.rule.Ruling.TheVariants.{Admitted, Refused}
use Rattle.rh_rule.specs.declared.schema.Schema.{Schema}
use Rattle.rh_rule.specs.RuleFiles.{Rules}
use Rattle.rh_domain.specs.Facts.{Known, all_facts}
use Rattle.rh_transform.specs.Rewritten.{first_applicable}

-- how many of so many numbers from one on pass a test
unfoldable pub counted : (ℕ → Bool) → ℕ → ℕ → ℕ
counted test from zero = 0
counted test from (suc count) = (if test from then 1 else 0) + counted test (from + 1) count

abbrev pub is_admitted : Ruling → Bool
is_admitted Admitted = true
is_admitted (Refused obligation) = false

abbrev pub is_refused : Ruling → Bool
is_refused Admitted = false
is_refused (Refused obligation) = true

-- how many facts of the program are known
abbrev pub facts_known : List Schema → Known → List Proc → ℕ
facts_known schemas known procs = length (filter known (all_facts schemas procs))

-- some proved transformation rule applies to the statement, also where its template is the statement itself
abbrev pub is_rewritten : Rules → List Ruling → Known → ℕ → Proc → ℕ → Bool
is_rewritten file rulings known place proc number = is_some (first_applicable known file.rules rulings place proc number)

-- how many such statements a procedure has
abbrev pub rewrites_in : Rules → List Ruling → Known → ℕ → Proc → ℕ
rewrites_in file rulings known place proc = counted (is_rewritten file rulings known place proc) 0 (length proc.body)

-- how many procedures have, of which the first has this number
unfoldable pub rewrites_from : Rules → List Ruling → Known → ℕ → List Proc → ℕ
rewrites_from file rulings known place [] = 0
rewrites_from file rulings known place (proc ∷ procs) = rewrites_in file rulings known place proc + rewrites_from file rulings known (place + 1) procs

-- a line: what is counted, and how many there are
abbrev pub count_line : List ℕ → ℕ → List ℕ
count_line title count = title ++ codes " " ++ decimal count ++ codes "\n"

-- what `gen` writes where these are the rulings and the known facts
abbrev pub counts_text : Rules → List Ruling → Known → List Proc → List ℕ
counts_text file rulings known procs =
    count_line (codes "procedures") (length procs) ++ count_line (codes "admitted") (length (filter is_admitted rulings)) ++ count_line (codes "refused") (length (filter is_refused rulings))
    ++ count_line (codes "facts") (facts_known file.schemas known procs) ++ count_line (codes "rewrites") (rewrites_from file rulings known 0 procs)
