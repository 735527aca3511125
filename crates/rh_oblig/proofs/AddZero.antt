-- The obligation of the rule that drops `+ 0`, worked by hand: its definition gives these terms.
use Rattle.std.specs.Prelude.{pos, List, [], ◌∷◌, ◌≡◌, refl}
use Rattle.rh_il.specs.declared.value.Op.TheVariants.{Add}
use Rattle.rh_rule.specs.declared.rule.Conclusion.TheVariants.{Transform}
use Rattle.rh_rule.specs.declared.rule.Form.TheVariants.{Assign, Compute}
use Rattle.rh_rule.specs.declared.rule.Rule.{Rule}
use Rattle.rh_rule.specs.declared.rule.RuleBase.TheVariants.{Meta, Num as ANumber}
use Rattle.rh_rule.specs.declared.schema.Kind.TheVariants.{Var}
use Rattle.rh_term.specs.declared.term.Term.{Term}
use Rattle.rh_term.specs.declared.term.Term.TheVariants.{Num, Addr, Before, Sel, Upd, Op, Kind, IsNum, IsPtr, Yes}
use Rattle.rh_meaning.specs.Literal.{TreeLit}
use Rattle.rh_goals.specs.Hypotheses.{hypotheses}
use Rattle.rh_goals.specs.Goals.{goals}
use Rattle.rh_oblig.specs.TermList.{term_list}

abbrev add_zero : Rule
add_zero = record {
  name = [];
  params = record { name = []; kind = Var } ∷ record { name = []; kind = Var } ∷ [];
  pattern = Compute 0 Add (Meta 1) (ANumber (pos 0));
  premises = [];
  sides = [];
  conclusion = Transform (Assign 0 (Meta 1));
}

abbrev terms_by_hand : List Term
terms_by_hand =
    Num (pos 0) ∷ Num (pos 1) ∷ IsNum ∷ IsPtr ∷ Yes ∷ Addr 0 ∷ Addr 1 ∷ Before ∷ Sel 7 6 ∷ Kind 8
    ∷ Kind 0 ∷ Op Add 8 0 ∷ Upd 7 5 11 ∷ Upd 7 5 8 ∷ Kind 1 ∷ Kind 5 ∷ Kind 6 ∷ Kind 11 ∷ Sel 7 5 ∷ Kind 18 ∷ []

abbrev the_terms : List TreeLit → List Term
the_terms [] = []
the_terms (goal ∷ others) = term_list add_zero.params add_zero.pattern (hypotheses [] add_zero) goal

terms_are : the_terms (goals [] add_zero) ≡ terms_by_hand
terms_are = refl
