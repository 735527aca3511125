-- Metavariables, operands, operations and parameters as they are printed.
use Rattle.std.proofs.Common.{Option, ◌≡◌, ℕ, ◌<◌, ◌≤◌, true, false, List, [], ◌∷◌, ◌++◌, map, length, None, codes, refl, sym, ap, ◌∙◌, subst, arith, append_assoc, append-nil}
use Rattle.std.proofs.lemmas.Bool.{ltb-true, false≢true}
use Rattle.std.specs.Prelude.{nat_lt}
use Rattle.std.specs.List.{AllByRecursion}
use Rattle.std.specs.Option.{option_or, option_map_or}
use Rattle.rh_il.specs.Name.{is_upper_name}
use Rattle.rh_il.specs.declared.value.Op.{Op}
use Rattle.rh_print.specs.Operators.{op_text}
use Rattle.rh_rule.specs.declared.schema.Param.{Param}
use Rattle.rh_rule.specs.declared.schema.MeaningBase.{MeaningBase}
use Rattle.rh_rule.specs.declared.schema.MeaningBase.TheVariants.{Param as AParam, Num as ANumber}
use Rattle.rh_rule.specs.declared.rule.RuleBase.{RuleBase}
use Rattle.rh_rule.specs.declared.rule.RuleBase.TheVariants.{Meta, Num as RuleNum, Wild as AnyBase}
use Rattle.rh_rule.specs.Words.{are_proper_params}
use Rattle.rh_rule.specs.Numbers.{base_is_below, is_below}
use Rattle.rh_rule.specs.Operands.{is_wild}
use Rattle.rh_rule_source.specs.declared.word.Word.{Word}
use Rattle.rh_rule_source.specs.declared.word.Word.TheVariants.{Fixed, Upper}
use Rattle.rh_rule_source.specs.declared.source.SourceBase.{SourceBase}
use Rattle.rh_rule_source.specs.declared.source.SourceBase.TheVariants.{Named, Num}
use Rattle.rh_rule_source.specs.declared.source.SourceOperand.TheVariants.{Wild, Plain as PlainOperand}
use Rattle.rh_rule_source.specs.declared.source.SourceOperation.{SourceOperation}
use Rattle.rh_rule_source.specs.declared.source.SourceParam.{SourceParam}
use Rattle.rh_rule_source.specs.Grammar.{COMMA, OPEN_PAREN, CLOSE_PAREN}
use Rattle.rh_rule_source.specs.Source.{base_words, operand_words, op_word, operation_words, computed_words, kind_word, param_words, params_words}
use Rattle.rh_list.proofs.AtPlace.{passes_at, read_at}
use Rattle.rh_rule_text.specs.Resolve.{place_of, meaning_base, rule_base, rule_operand, rule_param}
use Rattle.rh_rule_text.specs.Unknown.{first_of, unknown, unknown_base, unknown_operand}
use Rattle.rh_rule_print.specs.Text.{param_name, param_text, params_text, base_text, operand_text}
use Rattle.rh_rule.specs.Ranges.{MeaningNumberFits, NumberFits}
use Rattle.rh_rule_source.proofs.SourceInRange.{BaseInRange, OperandInRange, OperationInRange}
use Rattle.rh_rule_print.proofs.Each.{each_passes}
use Rattle.rh_rule_print.proofs.Prints.{Prints, Always, Ends, tells, as_text, in_fewer, behind, fixed_behind, fixed_before}
use Rattle.rh_rule_print.proofs.FixedTexts.{open_text, comma_text, underscore_text, space_text, op_printed, kind_printed}
use Rattle.rh_rule_print.proofs.PrintedNames.{upper_printed, number_printed}
use Rattle.rh_rule_print.proofs.DistinctNames.{AreDistinct, IsDeclared, place, declared_place, declared_known}
use Rattle.rh_rule_print.proofs.Tells.{Tells, both_known, bracketed_printed, joined_printed}

-- parameters or metavariables with proper names, no two the same
pub record AreMetas (params : List Param) : Type 0 where
  pub few : length params ≤ 6
  pub proper : are_proper_params params ≡ true
  pub distinct : AreDistinct (λ (p : Param). p.name) params

abbrev pub names_of : List Param → List (List ℕ)
names_of params = map (λ p. p.name) params

-- the name of the metavariable of a number
abbrev pub TellsMeta : List (List ℕ) → ℕ → List Word → Type 0
TellsMeta names = Tells (λ s. Upper s ∷ []) (place_of names) (unknown names) (λ s. Unit {0})

pub meta_printed : (params : List Param) → AreMetas params → (number : ℕ) → nat_lt number (length params) ≡ true → Prints Ends (param_name params number) (TellsMeta (names_of params) number)
meta_printed params metas number below =
    let less : number < length params = ltb-true number (length params) below in
    let read = read_at params number less in
    let name : List ℕ = read.0.name in
    let text : param_name params number ≡ name = ap (λ o. option_map_or (λ (p : Param). p.name) o []) read.1 in
    let is : IsDeclared (names_of params) number name =
    record { first = place (λ (p : Param). p.name) params number read.0 metas.distinct read.1 less; small = omega (arith, less, metas.few) } in
    as_text (sym text)
    (tells (upper_printed name (passes_at (λ (p : Param). is_upper_name p.name) params number read.0 metas.proper read.1))
    (λ w told.
    let declared : IsDeclared (names_of params) number told.0.name = subst (IsDeclared (names_of params) number) (sym told.2) is in
    record {
      source = told.0;
      same = told.1;
      means = declared_place (names_of params) number told.0 declared;
      known = declared_known (names_of params) number told.0 declared;
      in_range = tt;
    }))

-- ---- operands

module _ {B : Type 0} (names : List (List ℕ)) (meaning : SourceBase → B) where
  abbrev pub TellsBase : B → List Word → Type 0
  TellsBase = Tells base_words meaning (unknown_base names) BaseInRange

  abbrev operation_meaning : SourceOperation → B × Op × B
  operation_meaning o = (meaning o.left, o.op, meaning o.right)

  abbrev operation_unknown : SourceOperation → Option ℕ
  operation_unknown o = option_or (unknown_base names o.left) (unknown_base names o.right)

  abbrev pub TellsOperation : B × Op × B → List Word → Type 0
  TellsOperation = Tells operation_words operation_meaning operation_unknown OperationInRange

  abbrev pub TellsComputed : B × Op × B → List Word → Type 0
  TellsComputed = Tells computed_words operation_meaning operation_unknown OperationInRange

  arranged : (v w : List Word) (op : Word) → (((v ++ []) ++ (op ∷ [])) ++ []) ++ w ≡ v ++ (op ∷ w)
  arranged v w op = simp (append-nil, append_assoc)

  pub operation_printed : {l r : List ℕ} (a : B) (op : Op) (b : B) → Prints Ends l (TellsBase a) → Prints Ends r (TellsBase b) → Prints Ends (l ++ codes " " ++ op_text op ++ codes " " ++ r) (TellsOperation (a, op, b))
  operation_printed a op b left right =
      behind right (λ rest h. tt)
      (fixed_behind space_text (λ rest h. tt)
      (fixed_behind (op_printed op) (λ rest h. tt)
      (fixed_behind space_text (λ rest h. refl)
      (tells left
      (λ v first w second. record {
        source = record { left = first.source; op = op; right = second.source };
        same = arranged v w (op_word op) ∙ (λ i. first.same i ++ (op_word op ∷ second.same i));
        means = λ i. (first.means i, op, second.means i);
        known = both_known _ _ first.known second.known;
        in_range = (first.in_range, second.in_range);
      })))))

  pub computed_printed : {l r : List ℕ} (a : B) (op : Op) (b : B) → Prints Ends l (TellsBase a) → Prints Ends r (TellsBase b) → Prints Always (codes "(" ++ (l ++ codes " " ++ op_text op ++ codes " " ++ r) ++ codes ")") (TellsComputed (a, op, b))
  computed_printed a op b left right =
      bracketed_printed operation_words operation_meaning operation_unknown OperationInRange open_text (operation_printed a op b left right)

module _ (params : List Param) (metas : AreMetas params) where
  -- an operand of a meaning
  pub meaning_base_printed : (base : MeaningBase) → base_is_below (length params) base ≡ true → MeaningNumberFits base → Prints Ends (base_text params base) (TellsBase (names_of params) (meaning_base (names_of params)) base)
  meaning_base_printed (AParam param) below fits =
      tells (meta_printed params metas param below)
      (λ w told. record { source = Named told.source; same = told.same; means = ap AParam told.means; known = told.known; in_range = tt })
  meaning_base_printed (ANumber number) below fits =
      tells (number_printed number fits)
      (λ w told. record { source = Num told.negative told.size; same = told.same; means = ap ANumber told.means; known = refl; in_range = told.in_range })

  -- an operand of a rule
  pub base_printed : (base : RuleBase) → is_below (length params) base ≡ true → is_wild base ≡ false → NumberFits base → Prints Ends (operand_text params base) (TellsBase (names_of params) (rule_base (names_of params)) base)
  base_printed (Meta meta) below plain fits =
      tells (meta_printed params metas meta below)
      (λ w told. record { source = Named told.source; same = told.same; means = ap Meta told.means; known = told.known; in_range = tt })
  base_printed (RuleNum number) below plain fits =
      tells (number_printed number fits)
      (λ w told. record { source = Num told.negative told.size; same = told.same; means = ap RuleNum told.means; known = refl; in_range = told.in_range })
  base_printed AnyBase below plain fits = absurd (false≢true (sym plain))

  abbrev pub TellsOperand : RuleBase → List Word → Type 0
  TellsOperand = Tells operand_words (rule_operand (names_of params)) (unknown_operand (names_of params)) OperandInRange

  plain_operand : (base : RuleBase) (w : List Word) → TellsBase (names_of params) (rule_base (names_of params)) base w → TellsOperand base w
  plain_operand base w told = record { source = PlainOperand told.source; same = told.same; means = told.means; known = told.known; in_range = told.in_range }

  -- an operand, or `_`
  pub operand_printed : (base : RuleBase) → is_below (length params) base ≡ true → NumberFits base → Prints Ends (operand_text params base) (TellsOperand base)
  operand_printed (Meta meta) below fits = tells (base_printed (Meta meta) below refl fits) (plain_operand (Meta meta))
  operand_printed (RuleNum number) below fits = tells (base_printed (RuleNum number) below refl fits) (plain_operand (RuleNum number))
  operand_printed AnyBase below fits =
      in_fewer (λ rest h. tt)
      (tells underscore_text (λ w same. record { source = Wild; same = same; means = refl; known = refl; in_range = tt }))

-- ---- parameters

abbrev pub TellsParam : Param → List Word → Type 0
TellsParam = Tells param_words rule_param (λ p. None) (λ p. Unit {0})

pub param_printed : (param : Param) → is_upper_name param.name ≡ true → Prints Ends (param_text param) (TellsParam param)
param_printed param upper =
    fixed_before (kind_printed param.kind)
    (tells (upper_printed param.name upper)
    (λ w told. record {
      source = record { kind = param.kind; name = told.0 };
      same = ap (λ (w : List Word). kind_word param.kind ∷ w) told.1;
      means = λ i. record { name = told.2 i; kind = param.kind };
      known = refl;
      in_range = tt;
    }))

-- parameters in brackets
abbrev pub bracketed_params : List SourceParam → List Word
bracketed_params params = Fixed OPEN_PAREN ∷ (params_words params ++ (Fixed CLOSE_PAREN ∷ []))

abbrev pub TellsParams : List Param → List Word → Type 0
TellsParams = Tells bracketed_params (map rule_param) (first_of (λ p. None)) (AllByRecursion (λ p. Unit {0}))

pub params_printed : (params : List Param) → are_proper_params params ≡ true → Prints Always (params_text params) (TellsParams params)
params_printed params proper =
    bracketed_printed params_words (map rule_param) (first_of (λ p. None)) (AllByRecursion (λ p. Unit)) open_text
    (joined_printed param_words rule_param (λ p. None) (λ p. Unit) param_text (codes ", ") (Fixed COMMA) comma_text (λ rest. refl) (λ p. is_upper_name p.name ≡ true) param_printed params (each_passes (λ (p : Param). is_upper_name p.name) params proper))
