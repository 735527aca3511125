-- What was read part by part, as the words of the whole.
use Rattle.std.proofs.Common.{◌≡◌, ℕ, List, [], ◌∷◌, ◌++◌, refl, sym, ap, ◌∙◌, append_assoc, arith, cond, ◌^◌}
use Rattle.std.proofs.lemmas.List.{append-nil}
use Rattle.std.specs.List.{flat_map}
use Rattle.std.proofs.lemmas.Bool.{eqb-true}
use Rattle.std.specs.Prelude.{Bool, true, false, ◌==◌}
use Rattle.rh_rule_source.specs.declared.word.Word.{Word}
use Rattle.rh_rule_source.specs.declared.word.Word.TheVariants.{Number}
use Rattle.rh_rule_source.specs.Words.{number_class}
use Rattle.rh_rule_source.specs.Grammar.{ONE}

pub two_behind : (w0 w1 w2 w3 w4 part : List Word) (a b : Word) → w0 ≡ w1 → w1 ≡ part ++ w2 → w2 ≡ a ∷ w3 → w3 ≡ b ∷ w4 → w0 ≡ (part ++ a ∷ b ∷ []) ++ w4
two_behind w0 w1 w2 w3 w4 part a b e0 e1 e2 e3 = simp append_assoc (cc)

pub header_before : (w0 w1 w2 w3 w4 w5 items : List Word) (a b : Word) (n : ℕ) → n ≡ 1 → w0 ≡ w1 → w1 ≡ a ∷ w2 → w2 ≡ Number n ∷ w3 → w3 ≡ b ∷ w4 → w4 ≡ items ++ w5 → w0 ≡ a ∷ Number 1 ∷ b ∷ (items ++ w5)
header_before w0 w1 w2 w3 w4 w5 items a b n one e0 e1 e2 e3 e4 = cc

pub one_before : {T : Type 0} (f : T → List Word) (x : T) (parts : List T) (w0 w1 w2 w3 all : List Word) → parts ≡ x ∷ [] → w0 ≡ w1 → w1 ≡ f x ++ w2 → flat_map f parts ++ w2 ≡ all ++ w3 → w0 ≡ all ++ w3
one_before f x parts w0 w1 w2 w3 all is e0 e1 e2 =
    let e3 : flat_map f parts ≡ f x = ap (flat_map f) is ∙ append-nil (f x) in
    e0 ∙ e1 ∙ ap (λ l. l ++ w2) (sym e3) ∙ e2

pub rule_joined : (w0 w1 w2 w3 w4 w5 w6 w7 w8 w9 w10 w11 w12 params pattern conds conclusion : List Word) (a b c d e f g : Word) → w0 ≡ w1 → w1 ≡ a ∷ w2 → w2 ≡ b ∷ w3 → w3 ≡ c ∷ w4 → w4 ≡ params ++ w5 → w5 ≡ d ∷ w6 → w6 ≡ e ∷ w7 → w7 ≡ pattern ++ w8 → w8 ≡ conds ++ w9 → w9 ≡ f ∷ w10 → w10 ≡ conclusion ++ w11 → w11 ≡ g ∷ w12 → w0 ≡ (a ∷ b ∷ c ∷ (params ++ d ∷ e ∷ ((pattern ++ (conds ++ f ∷ conclusion)) ++ g ∷ []))) ++ w12
rule_joined w0 w1 w2 w3 w4 w5 w6 w7 w8 w9 w10 w11 w12 params pattern conds conclusion a b c d e f g e0 e1 e2 e3 e4 e5 e6 e7 e8 e9 e10 e11 = simp append_assoc (cc)

one_if : (a b : Bool) → ◌≡◌ {A = ℕ} (cond a 42 (cond b 44 43)) 42 → a ≡ true
one_if true b h = refl
one_if false true h = absurd (omega arith)
one_if false false h = absurd (omega arith)

-- the number of the class of 1 is 1
pub is_one : (n : ℕ) → number_class n ≡ ONE → n ≡ 1
is_one n h = eqb-true n 1 (one_if (n == 1) (n == 2 ^ 63) h)
