-- What the code has made after some of the goals.
use Rattle.std.proofs.Common.{ℕ, ◌≡◌, ◌<◌, ◌≤◌, ◌+◌, ◌++◌, [], ◌∷◌, List, Bool, Option, None, Some, Result, Ok, Err, map, length, drop, take, get_or, suc, ap, sym, subst, ◌∙◌}
use Rattle.std.specs.Prelude.{find, nat_lt, if◌then◌else◌}
use Rattle.std.specs.Option.{option_or}
use Rattle.std.specs.Result.{IsErrAnd}
use Rattle.std.specs.List.{AllByRecursion}
use Rattle.std.proofs.Math.Seq.{drop-cons}
use Rattle.std.proofs.lemmas.Bool.{le-ltb, lt-ltb}
use Rattle.std.proofs.lemmas.List.{map-append, take-append-drop, take_more}
use Rattle.std.proofs.lemmas.List.Folds.{find-append}
use Rattle.rh_list.proofs.Appended.{apart}
use Rattle.rh_rule.specs.declared.rule.Rule.{Rule}
use Rattle.rh_rule.specs.declared.schema.Schema.{Schema}
use Rattle.rh_term.specs.declared.term.Term.{Term}
use Rattle.rh_term.specs.declared.clause.Clause.{Clause}
use Rattle.rh_meaning.specs.declared.literal.TreeLit.{TreeLit as BuiltLit}
use Rattle.rh_meaning.specs.Literal.{TreeLit, TreeClause}
use Rattle.rh_meaning.specs.View.{lit_of, lits_of}
use Rattle.rh_goals.specs.Hypotheses.{hypotheses}
use Rattle.rh_oblig.specs.Obligation.{clauses_for, first_excess, obligation_clauses, terms_of}
use Rattle.rh_oblig.specs.TermList.{term_list}

-- the obligation of a goal
abbrev pub part_for : List Schema → Rule → TreeLit → List Term × List Clause
part_for schemas rule goal = (terms_of schemas rule goal, clauses_for schemas rule goal)

pub part_is : (schemas : List Schema) (rule : Rule) (taken : List TreeClause) (goal : TreeLit) (terms : List Term) (clauses : List Clause) → taken ≡ hypotheses schemas rule
    → terms ≡ term_list rule.params rule.pattern taken goal → clauses ≡ obligation_clauses terms taken goal → (terms, clauses) ≡ part_for schemas rule goal
part_is schemas rule taken goal terms clauses known listed placed =
    ap (λ (clauses : List Clause). (terms, clauses)) placed
    ∙ ap (λ terms. (terms, obligation_clauses terms taken goal)) listed
    ∙ ap (λ taken. (term_list rule.params rule.pattern taken goal, obligation_clauses (term_list rule.params rule.pattern taken goal) taken goal)) known

-- one more goal has its obligation
pub parts_more : (schemas : List Schema) (rule : Rule) (goals : List BuiltLit) (i : ℕ) (d : BuiltLit) → i < length goals
    → map (part_for schemas rule) (lits_of (take (i + 1) goals)) ≡ map (part_for schemas rule) (lits_of (take i goals)) ++ part_for schemas rule (lit_of (get_or goals i d)) ∷ []
parts_more schemas rule goals i d within =
    ap (λ (front : List BuiltLit). map (part_for schemas rule) (lits_of front)) (take_more goals i d within)
    ∙ ap (map (part_for schemas rule)) (map-append lit_of (take i goals) (get_or goals i d ∷ []))
    ∙ map-append (part_for schemas rule) (lits_of (take i goals)) (lit_of (get_or goals i d) ∷ [])

-- the numbers of terms of some goals
abbrev sizes : List Schema → Rule → List TreeLit → List ℕ
sizes schemas rule goals = map (λ goal. length (terms_of schemas rule goal)) goals

picked_not : (size : ℕ) → size ≤ 512 → find (nat_lt 512) (size ∷ []) ≡ None
picked_not size small = ap (λ (holds : Bool). if holds then Some size else None) (le-ltb 512 size small)

picked : (size : ℕ) (sizes : List ℕ) → 512 < size → find (nat_lt 512) (size ∷ sizes) ≡ Some size
picked size sizes large = ap (λ (holds : Bool). if holds then Some size else find (nat_lt 512) sizes) (lt-ltb 512 size large)

excess_apart : (schemas : List Schema) (rule : Rule) (front back : List TreeLit) → first_excess schemas rule front ≡ None
    → first_excess schemas rule (front ++ back) ≡ first_excess schemas rule back
excess_apart schemas rule front back none =
    ap (find (nat_lt 512)) (map-append (λ goal. length (terms_of schemas rule goal)) front back)
    ∙ find-append (nat_lt 512) (sizes schemas rule front) (sizes schemas rule back)
    ∙ ap (λ (found : Option ℕ). option_or found (first_excess schemas rule back)) none

-- one more goal has few terms
pub excess_more : (schemas : List Schema) (rule : Rule) (goals : List BuiltLit) (i : ℕ) (d : BuiltLit) → i < length goals → first_excess schemas rule (lits_of (take i goals)) ≡ None
    → length (terms_of schemas rule (lit_of (get_or goals i d))) ≤ 512 → first_excess schemas rule (lits_of (take (i + 1) goals)) ≡ None
excess_more schemas rule goals i d within none small =
    ap (λ (front : List BuiltLit). first_excess schemas rule (lits_of front)) (take_more goals i d within)
    ∙ ap (first_excess schemas rule) (map-append lit_of (take i goals) (get_or goals i d ∷ []))
    ∙ excess_apart schemas rule (lits_of (take i goals)) (lit_of (get_or goals i d) ∷ []) none
    ∙ picked_not (length (terms_of schemas rule (lit_of (get_or goals i d)))) small

-- the goals before a place, the goal there, and those after it
cut_at : (goals : List BuiltLit) (i : ℕ) (d : BuiltLit) → i < length goals → lits_of goals ≡ lits_of (take i goals) ++ lit_of (get_or goals i d) ∷ lits_of (drop (suc i) goals)
cut_at goals i d within =
    ap lits_of (sym (take-append-drop i goals) ∙ ap (λ (rest : List BuiltLit). take i goals ++ rest) (drop-cons goals i d within))
    ∙ map-append lit_of (take i goals) (get_or goals i d ∷ drop (suc i) goals)

-- a goal is the first with too many
pub excess_here : (schemas : List Schema) (rule : Rule) (goals : List BuiltLit) (i : ℕ) (d : BuiltLit) → i < length goals → first_excess schemas rule (lits_of (take i goals)) ≡ None
    → 512 < length (terms_of schemas rule (lit_of (get_or goals i d))) → first_excess schemas rule (lits_of goals) ≡ Some (length (terms_of schemas rule (lit_of (get_or goals i d))))
excess_here schemas rule goals i d within none large =
    ap (first_excess schemas rule) (cut_at goals i d within)
    ∙ excess_apart schemas rule (lits_of (take i goals)) (lit_of (get_or goals i d) ∷ lits_of (drop (suc i) goals)) none
    ∙ picked (length (terms_of schemas rule (lit_of (get_or goals i d)))) (sizes schemas rule (lits_of (drop (suc i) goals))) large

-- what each goal has
pub at_goal : (P : TreeLit → Type 0) (goals : List BuiltLit) (i : ℕ) (d : BuiltLit) → i < length goals → AllByRecursion P (lits_of goals) → P (lit_of (get_or goals i d))
at_goal P goals i d within all =
    (apart P (lits_of (take i goals)) (lit_of (get_or goals i d) ∷ lits_of (drop (suc i) goals)) (subst (AllByRecursion P) (cut_at goals i d within) all)).1.0

pub err_is : {T E : Type 0} → (result : Result T E) (given told : E) → IsErrAnd result (λ fault. fault ≡ given) → result ≡ Err told → given ≡ told
err_is (Ok value) given told same is = elim same [ ]
err_is (Err fault) given told same is = let one : Err fault ≡ Err told = is in cc

-- the error of a goal with too many terms
pub too_many_at : (schemas : List Schema) (rule : Rule) (taken : List TreeClause) (goals : List BuiltLit) (i : ℕ) (d : BuiltLit) (count : ℕ) → taken ≡ hypotheses schemas rule → i < length goals
    → d ≡ get_or goals i d → first_excess schemas rule (lits_of (take i goals)) ≡ None → (512 < count) × (count ≡ length (term_list rule.params rule.pattern taken (lit_of d)))
    → first_excess schemas rule (lits_of goals) ≡ Some count
too_many_at schemas rule taken goals i d count known within here none many =
    let size : count ≡ length (terms_of schemas rule (lit_of (get_or goals i d))) =
    many.1
    ∙ ap (λ (known : List TreeClause). length (term_list rule.params rule.pattern known (lit_of d))) known
    ∙ ap (λ (goal : BuiltLit). length (terms_of schemas rule (lit_of goal))) here in
    excess_here schemas rule goals i d within none (subst (λ n. 512 < n) size many.0) ∙ ap Some (sym size)
