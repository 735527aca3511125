-- One more section marks its rule.
use Rattle.std.proofs.Common.{◌≡◌, ◌≢◌, ℕ, zero, suc, ◌+◌, Bool, true, false, ◌||◌, List, [], ◌∷◌, ◌++◌, map, take, length, Some, refl, ap, sym, ◌∙◌, arith}
use Rattle.std.proofs.lemmas.Bool.{false_from_ne_true}
use Rattle.std.proofs.lemmas.List.{take_more}
use Rattle.std.proofs.lemmas.Option.{get_or_from_slice_get, same_Some, slice_get_within}
use Rattle.std.proofs.lemmas.Slice.Eq.{bytes_eq-Decides}
use Rattle.std.specs.Prelude.{replicate, slice_get, slice_set}
use Rattle.std.specs.List.{list_any}
use Rattle.std.specs.Str.{bytes_eq}
use Rattle.rh_log_text.specs.declared.logs.RuleLogs.{RuleLogs}
use Rattle.rh_rule.specs.declared.rule.Rule.{Rule}
use Rattle.rh_rule.specs.RuleFiles.{IsRuleFile, Rules}
use Rattle.rh_audit.specs.Audit.{has_logs}
use Rattle.rh_audit.specs.Faults.{IsOf}
use Rattle.rh_audit.proofs.Distinct.{one_rule}

same_map : {X : Type 0} (f g : X → Bool) (xs : List X) → ((k : ℕ) (x : X) → slice_get xs k ≡ Some x → f x ≡ g x) → map f xs ≡ map g xs
same_map f g [] same = refl
same_map f g (x ∷ xs) same =
    let first : f x ≡ g x = same zero x refl in
    let rest : map f xs ≡ map g xs = same_map f g xs (λ k y read. same (suc k) y read) in
    λ i. first i ∷ rest i

-- a test that one item passes, and that is as another test on all others
marked : {X : Type 0} (f g : X → Bool) (xs : List X) (n : ℕ) → ((k : ℕ) (x : X) → k ≢ n → slice_get xs k ≡ Some x → f x ≡ g x) → ((x : X) → slice_get xs n ≡ Some x → g x ≡ true)
    → slice_set (map f xs) n true ≡ map g xs
marked f g [] n same here = refl
marked f g (x ∷ xs) zero same here =
    let first : true ≡ g x = sym (here x refl) in
    let rest : map f xs ≡ map g xs = same_map f g xs (λ k y read. same (suc k) y (λ e. absurd (omega (arith, e))) read) in
    λ i. first i ∷ rest i
marked f g (x ∷ xs) (suc n) same here =
    let first : f x ≡ g x = same zero x (λ e. absurd (omega (arith, e))) refl in
    let rest : slice_set (map f xs) n true ≡ map g xs = marked f g xs n (λ k y differs read. same (suc k) y (λ e. differs (omega (arith, e))) read) here in
    λ i. first i ∷ rest i

any_more : {X : Type 0} (test : X → Bool) (xs : List X) (x : X) → list_any test (xs ++ x ∷ []) ≡ (list_any test xs || test x)
any_more test [] x = elim (test x) as (λ b. (b || false) ≡ b) [ true ↦ refl | false ↦ refl ]
any_more test (y ∷ xs) x =
    ap (λ b. test y || b) (any_more test xs x) ∙ elim (test y) as (λ b. (b || (list_any test xs || test x)) ≡ ((b || list_any test xs) || test x)) [ true ↦ refl | false ↦ refl ]

pub unmarked : (rules : List Rule) → replicate (length rules) false ≡ map (has_logs []) rules
unmarked [] = refl
unmarked (rule ∷ rules) = let rest : replicate (length rules) false ≡ map (has_logs []) rules = unmarked rules in λ i. false ∷ rest i

or_with : (a b : Bool) → b ≡ true → (a || b) ≡ true
or_with true b e = refl
or_with false b e = e

or_without : (a b : Bool) → b ≡ false → (a || b) ≡ a
or_without true b e = refl
or_without false b e = e

pub marked_more : (file : Rules) (sections : List RuleLogs) (n : ℕ) (section : RuleLogs) (number : ℕ) (rule : Rule) → IsRuleFile file → slice_get sections n ≡ Some section → IsOf file section number rule
    → slice_set (map (has_logs (take n sections)) file.rules) number true ≡ map (has_logs (take (n + 1) sections)) file.rules
marked_more file sections n section number rule is_file stands of =
    let front : take (n + 1) sections ≡ take n sections ++ section ∷ [] =
    take_more sections n section (slice_get_within sections n section stands)
    ∙ ap (λ (s : RuleLogs). take n sections ++ s ∷ []) (get_or_from_slice_get sections n section section stands) in
    let with_one : (other : Rule) → has_logs (take (n + 1) sections) other ≡ (has_logs (take n sections) other || bytes_eq section.name other.name) =
    λ other. ap (λ (all : List RuleLogs). has_logs all other) front ∙ any_more (λ (s : RuleLogs). bytes_eq s.name other.name) (take n sections) section in
    marked (has_logs (take n sections)) (has_logs (take (n + 1) sections)) file.rules number
    (λ k other differs read.
    let not_named : bytes_eq section.name other.name ≡ false =
    false_from_ne_true (bytes_eq section.name other.name)
    (λ named. differs (one_rule file section k number other rule is_file (record { stands = read; named = (bytes_eq-Decides section.name other.name).0 named }) of).0) in
    sym (with_one other ∙ or_without (has_logs (take n sections) other) (bytes_eq section.name other.name) not_named))
    (λ other read.
    let named : section.name ≡ other.name = of.named ∙ ap (λ (r : Rule). r.name) (same_Some rule other (sym of.stands ∙ read)) in
    with_one other ∙ or_with (has_logs (take n sections) other) (bytes_eq section.name other.name) ((bytes_eq-Decides section.name other.name).1 named))
