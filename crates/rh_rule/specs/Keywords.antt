-- The reserved words of rule files.
use Rattle.std.specs.Prelude.{ℕ, List, Option, Some, None, codes, if◌then◌else◌}
use Rattle.std.specs.Option.{option_or}
use Rattle.std.specs.Str.{bytes_eq}
use Rattle.rh_rule.specs.declared.keyword.RuleKeyword.{RuleKeyword}
use Rattle.rh_rule.specs.declared.keyword.RuleKeyword.TheVariants.{Rhodium, Fact, Var, Const, Means, And, Number, Pointer, Unaliased, Rule, When, In, Out, Then, Else, Transform, Entry, Goto, Skip, If, Return, New, Call}

-- a reserved word of facts
abbrev pub fact_keyword : List ℕ → Option RuleKeyword
fact_keyword bytes =
    if bytes_eq bytes (codes "rhodium") then Some Rhodium else
    (if bytes_eq bytes (codes "fact") then Some Fact else
    (if bytes_eq bytes (codes "var") then Some Var else
    (if bytes_eq bytes (codes "const") then Some Const else
    (if bytes_eq bytes (codes "means") then Some Means else
    (if bytes_eq bytes (codes "and") then Some And else
    (if bytes_eq bytes (codes "number") then Some Number else
    (if bytes_eq bytes (codes "pointer") then Some Pointer else
    (if bytes_eq bytes (codes "unaliased") then Some Unaliased else None))))))))

-- a reserved word around the statements of rules
abbrev pub rule_keyword : List ℕ → Option RuleKeyword
rule_keyword bytes =
    if bytes_eq bytes (codes "rule") then Some Rule else
    (if bytes_eq bytes (codes "when") then Some When else
    (if bytes_eq bytes (codes "in") then Some In else
    (if bytes_eq bytes (codes "out") then Some Out else
    (if bytes_eq bytes (codes "then") then Some Then else
    (if bytes_eq bytes (codes "else") then Some Else else
    (if bytes_eq bytes (codes "transform") then Some Transform else None))))))

-- a reserved word of statements
abbrev pub form_keyword : List ℕ → Option RuleKeyword
form_keyword bytes =
    if bytes_eq bytes (codes "entry") then Some Entry else
    (if bytes_eq bytes (codes "goto") then Some Goto else
    (if bytes_eq bytes (codes "skip") then Some Skip else
    (if bytes_eq bytes (codes "if") then Some If else
    (if bytes_eq bytes (codes "return") then Some Return else
    (if bytes_eq bytes (codes "new") then Some New else
    (if bytes_eq bytes (codes "call") then Some Call else None))))))

-- the reserved word that the bytes spell
abbrev pub keyword_of : List ℕ → Option RuleKeyword
keyword_of bytes = option_or (fact_keyword bytes) (option_or (rule_keyword bytes) (form_keyword bytes))
