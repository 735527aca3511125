-- The obligations of a rule of a rule file are few, and none has 2^32 clauses or a clause of 2^32 literals.
use Rattle.std.proofs.Common.{ℕ, ◌≡◌, ◌<◌, ◌≤◌, ◌^◌, List, [], ◌∷◌, ◌++◌, length, get_or, Some, ap, sym, ◌∙◌, arith, length-append}
use Rattle.std.proofs.lemmas.Option.{slice_get-get_or}
use Rattle.std.specs.Prelude.{IfOk, OnOk, Result, Ok, Err, slice_get}
use Rattle.std.specs.List.{AllByRecursion}
use Rattle.std.proofs.lemmas.List.{length-map}
use Rattle.std.proofs.lemmas.List.Elements.{All-from_recursion}
use Rattle.rh_list.proofs.Appended.{joined}
use Rattle.rh_axioms.specs.Rows.{all_schemas, instances_of}
use Rattle.rh_axioms.proofs.Bounds.{IsShort, instances_below, rows_short}
use Rattle.rh_rule.specs.declared.rule.Rule.{Rule}
use Rattle.rh_rule.specs.declared.schema.Schema.{Schema}
use Rattle.rh_rule.specs.RuleFiles.{IsRuleOf}
use Rattle.rh_term.specs.declared.clause.Clause.{Clause}
use Rattle.rh_term.specs.declared.term.Term.{Term}
use Rattle.rh_term.specs.Laws.{denial}
use Rattle.rh_meaning.specs.Literal.{TreeLit, TreeClause}
use Rattle.rh_meaning.specs.Placed.{clause_in, clauses_in, lit_in}
use Rattle.rh_goals.specs.Goals.{goals}
use Rattle.rh_goals.specs.Hypotheses.{hypotheses}
use Rattle.rh_oblig.specs.Obligation.{obligation_clauses, obligations_of, parts_of, AreSmallClauses}
use Rattle.rh_term.specs.declared.obligation.Obligation.{Obligation}
use Rattle.rh_goals.specs.Few.{AreFewClauses}
use Rattle.rh_oblig.proofs.Each.{part_for}
use Rattle.rh_goals.proofs.Sizes.{IsShortClause, goals_few}

-- ---- the clauses of an obligation

placed_short : (terms : List Term) (clauses : List TreeClause) → AllByRecursion IsShortClause clauses → AllByRecursion IsShort (clauses_in terms clauses)
placed_short terms [] short = tt
placed_short terms (clause ∷ clauses) short = (omega (arith, length-map clause (lit_in terms), short.0), placed_short terms clauses short.1)

all_narrow : (clauses : List Clause) → AllByRecursion IsShort clauses → AllByRecursion (λ (clause : Clause). length clause.lits < 2 ^ 32) clauses
all_narrow [] short = tt
all_narrow (clause ∷ clauses) short = (omega (arith, short.0), all_narrow clauses short.1)

pub clauses_small : (terms : List Term) (hypotheses : List TreeClause) (goal : TreeLit) → AreFewClauses hypotheses → length terms ≤ 512 → AreSmallClauses (obligation_clauses terms hypotheses goal)
clauses_small terms hypotheses goal few small =
    let placed : List Clause = clauses_in terms hypotheses in
    let axioms : List Clause = instances_of all_schemas terms in
    let denied : List Clause = denial (lit_in terms goal) ∷ [] in
    let all : AllByRecursion IsShort ((placed ++ axioms) ++ denied) =
    joined IsShort (placed ++ axioms) denied (joined IsShort placed axioms (placed_short terms hypotheses few.short) (rows_short terms all_schemas)) (omega arith, tt) in
    record {
      few = omega (arith, length-append (placed ++ axioms) denied, length-append placed axioms, length-map hypotheses (clause_in terms), few.few, instances_below terms small);
      narrow = All-from_recursion (λ (clause : Clause). length clause.lits < 2 ^ 32) ((placed ++ axioms) ++ denied) (all_narrow ((placed ++ axioms) ++ denied) all);
    }

-- ---- what is told of a rule of a file

abbrev part_of : Obligation → List Term × List Clause
part_of obligation = (obligation.terms, obligation.clauses)

pub made_few : (schemas : List Schema) (rule : Rule) (made : List Obligation) → IsRuleOf schemas rule → parts_of made ≡ obligations_of schemas rule → length made < 2 ^ 32
made_few schemas rule made is same =
    let as_many : length made ≡ length (goals schemas rule) = sym (length-map made part_of) ∙ ap length same ∙ length-map (goals schemas rule) (part_for schemas rule) in
    omega (arith, as_many, goals_few schemas rule is)

pub ok_leads : {T E : Type 0} (P Q : T → Type 0) (result : Result T E) → ((x : T) → P x → Q x) → IfOk result P → IfOk result Q
ok_leads P Q (Ok x) leads has = leads x has
ok_leads P Q (Err e) leads has = has

pub on_ok_leads : {T E : Type 0} (P Q : Type 0) (result : Result T E) → (P → Q) → OnOk result P → OnOk result Q
on_ok_leads P Q (Ok x) leads has = leads has
on_ok_leads P Q (Err e) leads has = has

-- the rule that is read of the rules of a file
pub read_at : (rules given : List Rule) (number : ℕ) (rule : Rule) → number < length rules → given ≡ rules → rule ≡ get_or given number rule → slice_get rules number ≡ Some rule
read_at rules given number rule within same is =
    slice_get-get_or rules number rule within ∙ ap (λ (all : List Rule). Some (get_or all number rule)) (sym same) ∙ ap (λ (one : Rule). Some one) (sym is)
