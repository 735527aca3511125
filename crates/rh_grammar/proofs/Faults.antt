-- Tokens are derived, or they have one fault.
use Rattle.std.proofs.Common.{◌≡◌, ℕ, ◌+◌, ◌<◌, ◌≤◌, ◌⊎◌, inl, inr, List, ◌++◌, length, take, drop, sym, ap, subst, ◌∙◌, arith, append_assoc, take-append-drop}
use Rattle.std.proofs.lemmas.Bool.{cases_order}
use Rattle.std.proofs.lemmas.List.{take-take}
use Rattle.rh_grammar.specs.Derivation.{Rules, Derivable, BeginsDerivable, IsSyntaxFault}

module _ (rules : Rules) (rule : ℕ) (tokens : List ℕ) where
  -- what stands before tokens that begin a derivable list begins one too
  begins_shorter : (m n : ℕ) → m ≤ n → BeginsDerivable rules rule (take n tokens) → BeginsDerivable rules rule (take m tokens)
  begins_shorter m n less begins =
      let between = drop m (take n tokens) in
      let whole : take n tokens ≡ take m tokens ++ between =
      sym (take-append-drop m (take n tokens)) ∙ ap (λ (l : List ℕ). l ++ between) (take-take m n tokens less) in (
        between ++ begins.0,
        subst (Derivable rules rule)
            (ap (λ (l : List ℕ). l ++ begins.0) whole ∙ append_assoc (take m tokens) between begins.0)
            begins.1,
      )

  begins_itself : (n : ℕ) → Derivable rules rule tokens → BeginsDerivable rules rule (take n tokens)
  begins_itself n derivable = (drop n tokens, subst (Derivable rules rule) (sym (take-append-drop n tokens)) derivable)

  fault_or_derived : (place : ℕ) → Derivable rules rule tokens → IsSyntaxFault rules rule tokens place → (place ≡ length tokens) ⊎ ((place < length tokens) ⊎ (length tokens < place)) → ⊥
  fault_or_derived place derivable fault (inl end) = fault.at_end end derivable
  fault_or_derived place derivable fault (inr (inl before)) = fault.here before (begins_itself (place + 1) derivable)
  fault_or_derived place derivable fault (inr (inr behind)) = let within = fault.within in omega arith

  -- tokens that are derived have no fault
  pub derivable_has_no_fault : (place : ℕ) → Derivable rules rule tokens → IsSyntaxFault rules rule tokens place → ⊥
  derivable_has_no_fault place derivable fault = fault_or_derived place derivable fault (cases_order place (length tokens))

  no_later_fault : (p q : ℕ) → IsSyntaxFault rules rule tokens p → IsSyntaxFault rules rule tokens q → p < q → ⊥
  no_later_fault p q first second later =
      let within = second.within in first.here (omega arith) (begins_shorter (p + 1) q (omega arith) second.before)

  one_of_order : (p q : ℕ) → IsSyntaxFault rules rule tokens p → IsSyntaxFault rules rule tokens q → (p ≡ q) ⊎ ((p < q) ⊎ (q < p)) → p ≡ q
  one_of_order p q first second (inl same) = same
  one_of_order p q first second (inr (inl before)) = absurd (no_later_fault p q first second before)
  one_of_order p q first second (inr (inr behind)) = absurd (no_later_fault q p second first behind)

  -- the fault of tokens stands at one place
  pub one_syntax_place : (p q : ℕ) → IsSyntaxFault rules rule tokens p → IsSyntaxFault rules rule tokens q → p ≡ q
  one_syntax_place p q first second = one_of_order p q first second (cases_order p q)
