-- The words of the parts of a source are derived, whatever comes after them.
use Rattle.std.proofs.Common.{◌≡◌, ℕ, ◌<◌, ◌^◌, Bool, true, false, cond, List, ◌∷◌, ◌++◌, map, Some, refl, sym, subst, arith, append_assoc}
use Rattle.std.specs.Prelude.{◌==◌}
use Rattle.std.proofs.lemmas.Bool.{ne_eqb}
use Rattle.rh_il.specs.declared.value.Op.{Op}
use Rattle.rh_il.specs.declared.value.Op.TheVariants.{Add, Sub, Mul, Less, Equal}
use Rattle.rh_rule.specs.declared.schema.Kind.{Kind}
use Rattle.rh_rule.specs.declared.schema.Kind.TheVariants.{Var, Const}
use Rattle.rh_grammar.specs.declared.grammar.Symbol.{Symbol}
use Rattle.rh_grammar.specs.declared.grammar.Symbol.TheVariants.{Token, Rule}
use Rattle.rh_grammar.specs.Derivation.{alternative, Leads, token, expand}
use Rattle.rh_rule_source.specs.declared.word.Word.{Word}
use Rattle.rh_rule_source.specs.declared.word.Word.TheVariants.{Upper, Number}
use Rattle.rh_rule_source.specs.declared.source.SourceBase.{SourceBase}
use Rattle.rh_rule_source.specs.declared.source.SourceBase.TheVariants.{Named, Num}
use Rattle.rh_rule_source.specs.declared.source.Relation.{Relation}
use Rattle.rh_rule_source.specs.declared.source.Relation.TheVariants.{Same, Differ}
use Rattle.rh_rule_source.specs.declared.source.SourceParam.{SourceParam}
use Rattle.rh_rule_source.specs.Grammar.{productions, ONE, NUMBER, LARGEST, mbase, num, size, op, relation, param}
use Rattle.rh_rule_source.specs.Words.{class_of}
use Rattle.rh_rule_source.specs.Source.{base_words, number_words, op_word, relation_word, kind_word, param_words}
use Rattle.rh_rule_source.proofs.SourceInRange.{NumberInRange, BaseInRange}

-- the symbols derive the words
pub record Derived (symbols : List Symbol) (words : List Word) : Type 0 where
  pub leads : Leads productions symbols (map class_of words)

-- one word more in front
pub next : {symbols : List Symbol} {words : List Word} (word : Word) → Derived symbols words → Derived (Token (class_of word) ∷ symbols) (word ∷ words)
next word d = record { leads = (d.leads.0, token d.leads.1) }

-- the alternative replaces the nonterminal
pub by : {rule : ℕ} {to symbols : List Symbol} {words : List Word} (p : ℕ) → alternative productions rule p ≡ Some to → Derived (to ++ symbols) words → Derived (Rule rule ∷ symbols) words
by p is d = record { leads = (p ∷ d.leads.0, expand is d.leads.1) }

-- words in another grouping
pub regrouped : {symbols : List Symbol} (a b c : List Word) → Derived symbols (a ++ (b ++ c)) → Derived symbols ((a ++ b) ++ c)
regrouped {symbols = symbols} a b c d = subst (Derived symbols) (sym (append_assoc a b c)) d

-- ---- numbers

size_tokens : (one largest : Bool) (symbols : List Symbol) (tokens : List ℕ) → Leads productions symbols tokens → Leads productions (Rule size ∷ symbols) (cond one ONE (cond largest LARGEST NUMBER) ∷ tokens)
unfolding productions
size_tokens true largest symbols tokens d = (0 ∷ d.0, expand refl (token d.1))
size_tokens false true symbols tokens d = (2 ∷ d.0, expand refl (token d.1))
size_tokens false false symbols tokens d = (1 ∷ d.0, expand refl (token d.1))

plain_tokens : (one largest : Bool) (symbols : List Symbol) (tokens : List ℕ) → largest ≡ false → Leads productions symbols tokens → Leads productions (Rule num ∷ symbols) (cond one ONE (cond largest LARGEST NUMBER) ∷ tokens)
unfolding productions
plain_tokens true largest symbols tokens small d = (1 ∷ d.0, expand refl (token d.1))
plain_tokens false true symbols tokens small d = absurd cc
plain_tokens false false symbols tokens small d = (2 ∷ d.0, expand refl (token d.1))

size_derived : {symbols : List Symbol} {words : List Word} (n : ℕ) → Derived symbols words → Derived (Rule size ∷ symbols) (Number n ∷ words)
size_derived {symbols = symbols} {words = words} n d = record { leads = size_tokens (n == 1) (n == 2 ^ 63) symbols (map class_of words) d.leads }

plain_derived : {symbols : List Symbol} {words : List Word} (n : ℕ) → n < 2 ^ 63 → Derived symbols words → Derived (Rule num ∷ symbols) (Number n ∷ words)
plain_derived {symbols = symbols} {words = words} n small d =
    record { leads = plain_tokens (n == 1) (n == 2 ^ 63) symbols (map class_of words) (ne_eqb n (2 ^ 63) (λ e. absurd (omega (arith, e, small)))) d.leads }

number_derived : {symbols : List Symbol} {words : List Word} (negative : Bool) (n : ℕ) → NumberInRange negative n → Derived symbols words → Derived (Rule num ∷ symbols) (number_words negative n ++ words)
unfolding productions
number_derived true n in_range d = by 0 refl (next _ (size_derived n d))
number_derived false n in_range d = plain_derived n in_range d

-- ---- single words and operands

pub base_derived : {symbols : List Symbol} {words : List Word} (base : SourceBase) → BaseInRange base → Derived symbols words → Derived (Rule mbase ∷ symbols) (base_words base ++ words)
unfolding productions
base_derived (Named name) in_range d = by 0 refl (next _ d)
base_derived (Num negative n) in_range d = by 1 refl (number_derived negative n in_range d)

pub op_derived : {symbols : List Symbol} {words : List Word} (o : Op) → Derived symbols words → Derived (Rule op ∷ symbols) (op_word o ∷ words)
unfolding productions
op_derived Add d = by 0 refl (next _ d)
op_derived Sub d = by 1 refl (next _ d)
op_derived Mul d = by 2 refl (next _ d)
op_derived Less d = by 3 refl (next _ d)
op_derived Equal d = by 4 refl (next _ d)

pub relation_derived : {symbols : List Symbol} {words : List Word} (r : Relation) → Derived symbols words → Derived (Rule relation ∷ symbols) (relation_word r ∷ words)
unfolding productions
relation_derived Same d = by 0 refl (next _ d)
relation_derived Differ d = by 1 refl (next _ d)

kind_derived : {symbols : List Symbol} {words : List Word} (p : SourceParam) (kind : Kind) → Derived symbols words → Derived (Rule param ∷ symbols) (kind_word kind ∷ Upper p.name ∷ words)
unfolding productions
kind_derived p Var d = by 0 refl (next _ (next _ d))
kind_derived p Const d = by 1 refl (next _ (next _ d))

pub param_derived : {symbols : List Symbol} {words : List Word} (p : SourceParam) → Derived symbols words → Derived (Rule param ∷ symbols) (param_words p ++ words)
param_derived p d = kind_derived p p.kind d
