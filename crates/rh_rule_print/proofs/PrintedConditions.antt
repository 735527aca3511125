-- Facts, premises and side conditions of rules as they are printed.
use Rattle.std.proofs.Common.{◌≡◌, ℕ, ◌<◌, ◌≤◌, true, false, List, [], ◌∷◌, ◌++◌, map, length, Option, codes, refl, sym, ap, ◌∙◌, subst, arith, append_assoc}
use Rattle.std.proofs.lemmas.Bool.{and_parts, ltb-true}
use Rattle.std.specs.Prelude.{nat_lt}
use Rattle.std.specs.List.{list_all, flat_map, AllByRecursion}
use Rattle.std.specs.Option.{option_map_or}
use Rattle.rh_rule.specs.declared.schema.Param.{Param}
use Rattle.rh_rule.specs.declared.schema.Schema.{Schema}
use Rattle.rh_rule.specs.declared.rule.RuleBase.{RuleBase}
use Rattle.rh_rule.specs.declared.rule.FactUse.{FactUse}
use Rattle.rh_rule.specs.declared.rule.SideTerm.{SideTerm}
use Rattle.rh_rule.specs.declared.rule.SideTerm.TheVariants.{Plain as PlainTermOfSide, Compute as ComputeTermOfSide}
use Rattle.rh_rule.specs.declared.rule.Side.{Side as RuleSide}
use Rattle.rh_rule.specs.declared.rule.Side.TheVariants.{Same as SameSide, Differ as DifferSide}
use Rattle.rh_rule.specs.Words.{is_proper, schema_is_proper, are_proper_params}
use Rattle.rh_rule.specs.Numbers.{is_below, are_below}
use Rattle.rh_rule.specs.Operands.{is_wild, term_operands, side_terms}
use Rattle.rh_rule.specs.Shapes.{has_wild}
use Rattle.rh_rule_source.specs.declared.word.Word.{Word}
use Rattle.rh_rule_source.specs.declared.word.Word.TheVariants.{Fixed, Lower}
use Rattle.rh_rule_source.specs.declared.source.Relation.{Relation}
use Rattle.rh_rule_source.specs.declared.source.Relation.TheVariants.{Same, Differ}
use Rattle.rh_rule_source.specs.declared.source.SourceSide.TheVariants.{Plain as PlainSide, Compute as ComputedSide}
use Rattle.rh_rule_source.specs.declared.source.SourceCond.{SourceCond}
use Rattle.rh_rule_source.specs.declared.source.SourceCond.TheVariants.{Fact as FactCond, Side}
use Rattle.rh_rule_source.specs.Grammar.{COMMA, OPEN_PAREN, CLOSE_PAREN, AT, IN, WHEN}
use Rattle.rh_rule_source.specs.Source.{base_words, use_words, side_words, cond_words, when_words, relation_word}
use Rattle.rh_list.proofs.AtPlace.{passes_at, read_at}
use Rattle.rh_rule_text.specs.Resolve.{place_of, rule_base, fact_of, side_term, compared_side, premises_of, sides_of}
use Rattle.rh_rule_text.specs.Unknown.{unknown, unknown_base, unknown_use, unknown_side, unknown_cond, first_of}
use Rattle.rh_rule_print.specs.Text.{operand_text, schema_name, fact_text, premise_text, side_term_text, side_text, listed, conditions_text}
use Rattle.rh_rule.specs.Ranges.{NumberFits, NumbersFit}
use Rattle.rh_rule_source.proofs.SourceInRange.{BaseInRange, UseInRange, SideInRange, CondInRange, IsFilled}
use Rattle.rh_rule_print.proofs.Each.{each_passes, each_fails, each_both, filled}
use Rattle.rh_rule_print.proofs.Prints.{Prints, Exactly, Always, Ends, tells, as_text, behind, fixed_behind, fixed_before, anywhere, nothing}
use Rattle.rh_rule_print.proofs.FixedTexts.{open_text, close_text, comma_text, same_text, differ_text, when_text, at_in_text}
use Rattle.rh_rule_print.proofs.PrintedNames.{lower_printed}
use Rattle.rh_rule_print.proofs.DistinctNames.{AreDistinct, IsDeclared, place, declared_place, declared_known}
use Rattle.rh_rule_print.proofs.Tells.{Tells, both_known, related_printed, joined_printed}
use Rattle.rh_rule_print.proofs.PrintedBases.{AreMetas, names_of, base_printed, computed_printed}

-- schemas with proper names, no two the same
pub record AreFacts (schemas : List Schema) : Type 0 where
  pub few : length schemas ≤ 64
  pub proper : list_all schema_is_proper schemas ≡ true
  pub distinct : AreDistinct (λ (s : Schema). s.name) schemas

abbrev pub facts_of : List Schema → List (List ℕ)
facts_of schemas = map (λ s. s.name) schemas

-- what is asked of a use of a fact
pub record UseFits (schemas : List Schema) (params : List Param) (fact : FactUse) : Type 0 where
  pub schema : nat_lt fact.schema (length schemas) ≡ true
  pub below : are_below (length params) fact.args ≡ true
  pub plain : has_wild fact.args ≡ false
  pub some_args : IsFilled fact.args
  pub numbers : NumbersFit fact.args

abbrev pub BasesFit : List Param → List RuleBase → Type 0
BasesFit params bases = AllByRecursion (λ base. (is_below (length params) base ≡ true) × (is_wild base ≡ false) × NumberFits base) bases

-- what is asked of a side condition
abbrev pub SideFits : List Param → RuleSide → Type 0
SideFits params side = BasesFit params (term_operands (side_terms side).0) × BasesFit params (term_operands (side_terms side).1)

module _ (schemas : List Schema) (facts : AreFacts schemas) (params : List Param) (metas : AreMetas params) where
  -- the name of the fact of a number
  abbrev TellsFact : ℕ → List Word → Type 0
  TellsFact = Tells (λ s. Lower s ∷ []) (place_of (facts_of schemas)) (unknown (facts_of schemas)) (λ s. Unit {0})

  name_printed : (number : ℕ) → nat_lt number (length schemas) ≡ true → Prints Ends (schema_name schemas number) (TellsFact number)
  name_printed number below =
      let less : number < length schemas = ltb-true number (length schemas) below in
      let read = read_at schemas number less in
      let schema : Schema = read.0 in
      let text : schema_name schemas number ≡ schema.name = ap (λ o. option_map_or (λ (s : Schema). s.name) o []) read.1 in
      let proper = (and_parts (is_proper schema.name) (are_proper_params schema.params) (passes_at schema_is_proper schemas number schema facts.proper read.1)).0 in
      let is : IsDeclared (facts_of schemas) number schema.name =
      record { first = place (λ (s : Schema). s.name) schemas number schema facts.distinct read.1 less; small = omega (arith, less, facts.few) } in
      as_text (sym text)
      (tells (lower_printed schema.name proper)
      (λ w told.
      let declared : IsDeclared (facts_of schemas) number told.0.name = subst (IsDeclared (facts_of schemas) number) (sym told.2) is in
      record {
        source = told.0;
        same = told.1;
        means = declared_place (facts_of schemas) number told.0 declared;
        known = declared_known (facts_of schemas) number told.0 declared;
        in_range = tt;
      }))

  abbrev pub TellsUse : FactUse → List Word → Type 0
  TellsUse = Tells use_words (fact_of (facts_of schemas) (names_of params)) (unknown_use (facts_of schemas) (names_of params)) UseInRange

  pub use_printed : (fact : FactUse) → UseFits schemas params fact → Prints Always (fact_text schemas params fact) (TellsUse fact)
  use_printed fact fits =
      let names = names_of params in
      let below = λ (base : RuleBase). is_below (length params) base ≡ true in
      let plain = λ (base : RuleBase). is_wild base ≡ false in
      let rest = λ (base : RuleBase). plain base × NumberFits base in
      let args = joined_printed base_words (rule_base names) (unknown_base names) BaseInRange (operand_text params) (codes ", ") (Fixed COMMA) comma_text (λ rest. refl)
      (λ base. below base × rest base) (λ base is. base_printed params metas base is.0 is.1.0 is.1.1) fact.args
      (each_both below rest fact.args (each_passes (is_below (length params)) fact.args fits.below) (each_both plain NumberFits fact.args (each_fails is_wild fact.args fits.plain) fits.numbers)) in
      fixed_behind close_text (λ rest h. refl)
      (behind args (λ rest h. tt)
      (fixed_behind open_text (λ rest h. refl)
      (tells (name_printed fact.schema fits.schema)
      (λ v name w args. record {
        source = record { name = name.source; args = args.source };
        same = λ i. ((name.same i ++ (Fixed OPEN_PAREN ∷ [])) ++ args.same i) ++ (Fixed CLOSE_PAREN ∷ []);
        means = λ i. record { schema = name.means i; args = args.means i };
        known = both_known _ _ name.known args.known;
        in_range = record { some_args = filled (rule_base names) args.source fact.args args.means fits.some_args; args = args.in_range };
      }))))

  -- ---- one condition

  abbrev TellsSide : SideTerm → List Word → Type 0
  TellsSide = Tells side_words (side_term (names_of params)) (unknown_side (names_of params)) SideInRange

  side_term_printed : (term : SideTerm) → BasesFit params (term_operands term) → Prints Ends (side_term_text params term) (TellsSide term)
  side_term_printed (PlainTermOfSide base) fits =
      tells (base_printed params metas base fits.0.0 fits.0.1 fits.0.2)
      (λ w told. record { source = PlainSide told.source; same = told.same; means = ap PlainTermOfSide told.means; known = told.known; in_range = told.in_range })
  side_term_printed (ComputeTermOfSide op left right) fits =
      let others = fits.1 in
      tells
      (anywhere (computed_printed (names_of params) (rule_base (names_of params)) left op right (base_printed params metas left fits.0.0 fits.0.1 fits.0.2) (base_printed params metas right others.0.0 others.0.1 others.0.2)))
      (λ w told. record {
        source = ComputedSide told.source;
        same = told.same;
        means = ap (λ parts. ComputeTermOfSide parts.1 parts.0 parts.2) told.means;
        known = told.known;
        in_range = told.in_range;
      })

  -- the premises and the side conditions that conditions are
  abbrev meaning : SourceCond → List FactUse × List RuleSide
  meaning cond = (premises_of (facts_of schemas) (names_of params) cond, sides_of (names_of params) cond)

  abbrev unknown_name : SourceCond → Option ℕ
  unknown_name = unknown_cond (facts_of schemas) (names_of params)

  abbrev TellsCond : List FactUse × List RuleSide → List Word → Type 0
  TellsCond = Tells cond_words meaning unknown_name CondInRange

  premise_printed : (fact : FactUse) → UseFits schemas params fact → Prints Ends (premise_text schemas params fact) (TellsCond (fact ∷ [], []))
  premise_printed fact fits =
      fixed_behind at_in_text (λ rest h. tt)
      (tells (use_printed fact fits)
      (λ w told. record {
        source = FactCond told.source;
        same = ap (λ (w : List Word). w ++ (Fixed AT ∷ Fixed IN ∷ [])) told.same;
        means = λ i. (told.means i ∷ [], []);
        known = told.known;
        in_range = told.in_range;
      }))

  compared_printed : {text : List ℕ} (relation : Relation) → Prints Always text (Exactly (relation_word relation ∷ [])) → ((rest : List ℕ) → Ends (text ++ rest)) → (s t : SideTerm) → BasesFit params (term_operands s) → BasesFit params (term_operands t)
      → Prints Ends (side_term_text params s ++ text ++ side_term_text params t) (TellsCond ([], compared_side relation s t ∷ []))
  compared_printed relation between ends s t first_fits second_fits =
      tells
      (related_printed side_words (side_term (names_of params)) (unknown_side (names_of params)) SideInRange (side_term_printed s first_fits) between ends (side_term_printed t second_fits))
      (λ w told. record {
        source = Side told.source.0 relation told.source.1;
        same = told.same;
        means = ap (λ terms. ([], compared_side relation terms.0 terms.1 ∷ [])) told.means;
        known = told.known;
        in_range = told.in_range;
      })

  side_printed : (side : RuleSide) → SideFits params side → Prints Ends (side_text params side) (TellsCond ([], side ∷ []))
  side_printed (SameSide s t) fits = compared_printed Same same_text (λ rest. refl) s t fits.0 fits.1
  side_printed (DifferSide s t) fits = compared_printed Differ differ_text (λ rest. refl) s t fits.0 fits.1

  -- ---- all conditions

  -- the words of conditions, with what the conditions mean
  abbrev TellsAll : (List SourceCond → List Word) → List FactUse × List RuleSide → List Word → Type 0
  TellsAll words =
      Tells words (λ conds. (flat_map (premises_of (facts_of schemas) (names_of params)) conds, flat_map (sides_of (names_of params)) conds)) (first_of unknown_name) (AllByRecursion CondInRange)

  -- a text of conditions, after which a name ends where it does after what follows
  record PrintsAll (words : List SourceCond → List Word) (text : List ℕ) (premises : List FactUse) (sides : List RuleSide) : Type 0 where
    prints : Prints Ends text (TellsAll words (premises, sides))
    ends : (rest : List ℕ) → Ends rest → Ends (text ++ rest)

  abbrev more_words : List SourceCond → List Word
  more_words conds = flat_map (λ cond. Fixed COMMA ∷ cond_words cond) conds

  -- one more condition after a comma
  one_more : {text others : List ℕ} (premise : List FactUse) (side : List RuleSide) (premises : List FactUse) (sides : List RuleSide) → Prints Ends text (TellsCond (premise, side)) → PrintsAll more_words others premises sides
      → PrintsAll more_words ((codes ", " ++ text) ++ others) (premise ++ premises) (side ++ sides)
  one_more premise side premises sides first others = record {
    prints =
        behind others.prints others.ends
        (fixed_before comma_text
        (tells first
        (λ v first w others. record {
          source = first.source ∷ others.source;
          same = λ i. Fixed COMMA ∷ (first.same i ++ others.same i);
          means = λ i. ((first.means i).0 ++ (others.means i).0, (first.means i).1 ++ (others.means i).1);
          known = both_known _ _ first.known others.known;
          in_range = (first.in_range, others.in_range);
        })));
    ends = λ rest h. refl;
  }

  -- the first condition after `when`
  first_one : {text others : List ℕ} (premise : List FactUse) (side : List RuleSide) (premises : List FactUse) (sides : List RuleSide) → Prints Ends text (TellsCond (premise, side)) → PrintsAll more_words others premises sides
      → PrintsAll when_words ((codes " when " ++ text) ++ others) (premise ++ premises) (side ++ sides)
  first_one premise side premises sides first others = record {
    prints =
        behind others.prints others.ends
        (fixed_before when_text
        (tells first
        (λ v first w others. record {
          source = first.source ∷ others.source;
          same = λ i. Fixed WHEN ∷ (first.same i ++ others.same i);
          means = λ i. ((first.means i).0 ++ (others.means i).0, (first.means i).1 ++ (others.means i).1);
          known = both_known _ _ first.known others.known;
          in_range = (first.in_range, others.in_range);
        })));
    ends = λ rest h. refl;
  }

  none_left : (words : List SourceCond → List Word) → words [] ≡ [] → PrintsAll words [] [] []
  none_left words none = record {
    prints = anywhere (nothing (record { source = []; same = sym none; means = refl; known = refl; in_range = tt }));
    ends = λ rest h. h;
  }

  in_text : {words : List SourceCond → List Word} {a b : List ℕ} {premises : List FactUse} {sides : List RuleSide} → a ≡ b → PrintsAll words a premises sides → PrintsAll words b premises sides
  in_text same part = record { prints = as_text same part.prints; ends = λ rest h. subst (λ (t : List ℕ). Ends (t ++ rest)) same (part.ends rest h) }

  abbrev sides_text : List RuleSide → List ℕ
  sides_text sides = flat_map (λ side. codes ", " ++ side_text params side) sides

  abbrev premises_text : List FactUse → List ℕ
  premises_text premises = flat_map (λ fact. codes ", " ++ premise_text schemas params fact) premises

  more_sides : (sides : List RuleSide) → AllByRecursion (SideFits params) sides → PrintsAll more_words (sides_text sides) [] sides
  more_sides [] fits = none_left more_words refl
  more_sides (side ∷ sides) fits = one_more [] (side ∷ []) [] sides (side_printed side fits.0) (more_sides sides fits.1)

  more_conditions : (premises : List FactUse) (sides : List RuleSide) → AllByRecursion (UseFits schemas params) premises → AllByRecursion (SideFits params) sides → PrintsAll more_words (premises_text premises ++ sides_text sides) premises sides
  more_conditions [] sides premises_fit sides_fit = more_sides sides sides_fit
  more_conditions (premise ∷ premises) sides premises_fit sides_fit =
      in_text (sym (append_assoc (codes ", " ++ premise_text schemas params premise) (premises_text premises) (sides_text sides)))
      (one_more (premise ∷ []) [] premises sides (premise_printed premise premises_fit.0) (more_conditions premises sides premises_fit.1 sides_fit))

  listed_sides : (sides : List RuleSide) → listed (codes ", ") (side_text params) sides ≡ sides_text sides
  listed_sides [] = refl
  listed_sides (side ∷ sides) = refl

  all_conditions : (premises : List FactUse) (sides : List RuleSide) → AllByRecursion (UseFits schemas params) premises → AllByRecursion (SideFits params) sides → PrintsAll when_words (conditions_text schemas params premises sides) premises sides
  all_conditions [] [] premises_fit sides_fit = none_left when_words refl
  all_conditions [] (side ∷ sides) premises_fit sides_fit = first_one [] (side ∷ []) [] sides (side_printed side sides_fit.0) (more_sides sides sides_fit.1)
  all_conditions (premise ∷ premises) sides premises_fit sides_fit =
      let first = codes " when " ++ premise_text schemas params premise in
      in_text
      (sym (append_assoc first (premises_text premises) (sides_text sides)) ∙ ap (λ (t : List ℕ). (first ++ premises_text premises) ++ t) (sym (listed_sides sides)))
      (first_one (premise ∷ []) [] premises sides (premise_printed premise premises_fit.0) (more_conditions premises sides premises_fit.1 sides_fit))

  abbrev pub TellsConditions : List FactUse × List RuleSide → List Word → Type 0
  TellsConditions = TellsAll when_words

  module _ (premises : List FactUse) (sides : List RuleSide) (premises_fit : AllByRecursion (UseFits schemas params) premises) (sides_fit : AllByRecursion (SideFits params) sides) where
    pub conditions_printed : Prints Ends (conditions_text schemas params premises sides) (TellsConditions (premises, sides))
    conditions_printed = (all_conditions premises sides premises_fit sides_fit).prints

    pub conditions_end : (rest : List ℕ) → Ends rest → Ends (conditions_text schemas params premises sides ++ rest)
    conditions_end = (all_conditions premises sides premises_fit sides_fit).ends
