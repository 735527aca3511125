-- The reserved words of programs.
use Rattle.std.specs.Prelude.{ℕ, List, Option, Some, None, codes, if◌then◌else◌}
use Rattle.std.specs.Str.{bytes_eq}
use Rattle.rh_il.specs.declared.keyword.Keyword.{Keyword}
use Rattle.rh_il.specs.declared.keyword.Keyword.TheVariants.{Skip, Goto, If, Else, Return, New, Var}

-- the reserved word that the bytes spell
abbrev pub keyword_of : List ℕ → Option Keyword
keyword_of bytes =
    if bytes_eq bytes (codes "skip") then Some Skip
    else (if bytes_eq bytes (codes "goto") then Some Goto
    else (if bytes_eq bytes (codes "if") then Some If
    else (if bytes_eq bytes (codes "else") then Some Else
    else (if bytes_eq bytes (codes "return") then Some Return
    else (if bytes_eq bytes (codes "new") then Some New
    else (if bytes_eq bytes (codes "var") then Some Var
    else None))))))
