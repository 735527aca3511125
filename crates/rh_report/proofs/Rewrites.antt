-- How many statements of a procedure, and of a program, a rule applies to.
use Rattle.std.proofs.Common.{ℕ, zero, suc, ◌≡◌, ◌+◌, List, [], ◌∷◌, drop, Option, Some, None, refl, ap, sym, ◌∙◌, arith}
use Rattle.std.proofs.lemmas.Option.{same_Some}
use Rattle.std.specs.Option.{is_some, option_map}
use Rattle.std.specs.Prelude.{slice_get}
use Rattle.rh_il.specs.declared.program.Proc.{Proc}
use Rattle.rh_rule.specs.declared.rule.Ruling.{Ruling}
use Rattle.rh_rule.specs.RuleFiles.{Rules}
use Rattle.rh_domain.specs.Facts.{Known}
use Rattle.rh_report.specs.Counts.{rewrites_from, rewrites_in}

pub some_mapped : {X Y : Type 0} (f : X → Y) (o : Option X) → is_some (option_map f o) ≡ is_some o
some_mapped f None = refl
some_mapped f (Some x) = refl

rest_at : {X : Type 0} (xs : List X) (place : ℕ) (x : X) → slice_get xs place ≡ Some x → drop place xs ≡ x ∷ drop (suc place) xs
rest_at [] place x read = absurd cc
rest_at (y ∷ ys) zero x read = ap (λ z. z ∷ ys) (same_Some y x read)
rest_at (y ∷ ys) (suc place) x read = rest_at ys place x read

module _ (file : Rules) (rulings : List Ruling) (known : Known) where
  -- those of one procedure more
  pub rewrites_more : (procs : List Proc) (place : ℕ) (proc : Proc) (count here after whole : ℕ) → slice_get procs place ≡ Some proc → here ≡ rewrites_in file rulings known place proc → after ≡ count + here
      → count + rewrites_from file rulings known place (drop place procs) ≡ whole → after + rewrites_from file rulings known (place + 1) (drop (place + 1) procs) ≡ whole
  unfolding rewrites_from
  rewrites_more procs place proc count here after whole read is one so_far =
      let next : place + 1 ≡ suc place = omega arith in
      let rest = rewrites_from file rulings known (place + 1) (drop (suc place) procs) in
      let parts : (count + here) + rest ≡ count + (here + rest) = omega arith in
      ap (λ n. after + rewrites_from file rulings known (place + 1) (drop n procs)) next ∙ ap (λ n. n + rest) one ∙ parts ∙ ap (λ n. count + (n + rest)) is
      ∙ ap (λ ps. count + rewrites_from file rulings known place ps) (sym (rest_at procs place proc read)) ∙ so_far

  -- no procedure is left
  pub rewrites_all : (procs : List Proc) (place count whole : ℕ) → drop place procs ≡ [] → count + rewrites_from file rulings known place (drop place procs) ≡ whole → count ≡ whole
  unfolding rewrites_from
  rewrites_all procs place count whole none so_far =
      let same : count ≡ count + 0 = omega arith in same ∙ ap (λ ps. count + rewrites_from file rulings known place ps) (sym none) ∙ so_far
