-- What is printed of a rule or a fact is free of ends of lines.
use Rattle.std.proofs.Common.{◌≡◌, ℕ, zero, suc, ◌+◌, ◌/◌, ◌%◌, ℤ, pos, negsuc, length, Bool, true, false, not, ◌==◌, ◌&&◌, List, [], ◌∷◌, ◌++◌, Option, Some, None, codes, refl, sym, ap, ◌∙◌, arith}
use Rattle.std.proofs.lemmas.Bool.{and_parts, and_from, eqb-true, true≢false}
use Rattle.std.specs.Prelude.{nat_le, nat_lt, slice_get, if◌then◌else◌}
use Rattle.std.specs.Char.{is_ascii_alphabetic, is_ascii_lowercase}
use Rattle.std.specs.Fmt.{decimal, digit_glyph, digits, digits_onto, signed_decimal}
use Rattle.std.specs.List.{list_all, flat_map}
use Rattle.std.specs.Option.{is_none, option_map_or}
use Rattle.rh_list.proofs.AtPlace.{passes_at}
use Rattle.rh_text.specs.Pieces.{is_comment_byte}
use Rattle.rh_il.specs.Checks.{has_proper_names, is_proper}
use Rattle.rh_il.specs.Keywords.{keyword_of}
use Rattle.rh_il.specs.Name.{is_lower_name, is_name, is_word_byte}
use Rattle.rh_il.specs.declared.program.Node.{Node}
use Rattle.rh_il.specs.declared.program.Node.TheVariants.{Entry, At}
use Rattle.rh_il.specs.declared.program.Proc.{Proc}
use Rattle.rh_il.specs.declared.program.Slot.{Slot}
use Rattle.rh_il.specs.declared.program.Slot.TheVariants.{Out, Then, Else}
use Rattle.rh_il_print.specs.Text.{proc_name}
use Rattle.rh_rule.specs.Keywords.{keyword_of as rule_keyword_of}
use Rattle.rh_rule.specs.Words.{are_proper_params, schema_is_proper}
use Rattle.rh_rule.specs.declared.rule.Arg.{Arg}
use Rattle.rh_rule.specs.declared.rule.Arg.TheVariants.{Var, Const}
use Rattle.rh_rule.specs.declared.schema.Schema.{Schema}
use Rattle.rh_rule_print.specs.Text.{joined, schema_name, slot_text}
use Rattle.rh_domain.specs.declared.fact.FactAt.{FactAt}
use Rattle.rh_domain.specs.declared.fact.GroundFact.{GroundFact}
use Rattle.rh_report.specs.Output.{arg_text, ground_fact_text, node_text, vars_at}

abbrev pub IsFree : List ℕ → Type 0
IsFree bytes = list_all is_comment_byte bytes ≡ true

pub free_joined : (xs ys : List ℕ) → IsFree xs → IsFree ys → IsFree (xs ++ ys)
free_joined [] ys first second = second
free_joined (x ∷ xs) ys first second =
    let parts = and_parts (is_comment_byte x) (list_all is_comment_byte xs) first in
    and_from (is_comment_byte x) (list_all is_comment_byte (xs ++ ys)) parts.0 (free_joined xs ys parts.1 second)

-- ---- names

-- a byte that passes a test which the end of a line does not pass
other_byte : (test : ℕ → Bool) (b : ℕ) → test 10 ≡ false → test b ≡ true → is_comment_byte b ≡ true
other_byte test b no_end passes = by (b == 10) refl
  where
    by : (t : Bool) → (b == 10) ≡ t → not t ≡ true
    by true e = let same : b ≡ 10 = eqb-true b 10 e in absurd (true≢false (sym passes ∙ ap test same ∙ no_end))
    by false e = refl

other_bytes : (test : ℕ → Bool) (bytes : List ℕ) → test 10 ≡ false → list_all test bytes ≡ true → IsFree bytes
other_bytes test [] no_end passes = refl
other_bytes test (b ∷ bs) no_end passes =
    let parts = and_parts (test b) (list_all test bs) passes in
    and_from (is_comment_byte b) (list_all is_comment_byte bs) (other_byte test b no_end parts.0) (other_bytes test bs no_end parts.1)

pub name_is_free : (name : List ℕ) → is_lower_name name ≡ true → IsFree name
name_is_free [] is = refl
name_is_free (first ∷ rest) is =
    let named = (and_parts (is_ascii_lowercase first) (is_name (first ∷ rest)) is).1 in
    let parts = and_parts (is_ascii_alphabetic first) (nat_le (length rest) 31 && list_all is_word_byte rest) named in
    and_from (is_comment_byte first) (list_all is_comment_byte rest) (other_byte is_ascii_alphabetic first refl parts.0)
    (other_bytes is_word_byte rest refl (and_parts (nat_le (length rest) 31) (list_all is_word_byte rest) parts.1).1)

proper_is_free : (name : List ℕ) → is_proper name ≡ true → IsFree name
proper_is_free name is = name_is_free name (and_parts (is_lower_name name) (is_none (keyword_of name)) is).0

-- what is read of a list whose items have it
read_free : {X : Type 0} (test : X → Bool) (text : X → List ℕ) (xs : List X) → list_all test xs ≡ true → ((x : X) → test x ≡ true → IsFree (text x)) → (number : ℕ) → IsFree (option_map_or text (slice_get xs number) [])
read_free {X} test text xs all each number = by (slice_get xs number) refl
  where
    by : (o : Option X) → slice_get xs number ≡ o → IsFree (option_map_or text o [])
    by None read = refl
    by (Some x) read = each x (passes_at test xs number x all read)

-- ---- numbers

glyph_byte : (d : ℕ) (low : Bool) → is_comment_byte (if low then 48 + d else 87 + d) ≡ true
glyph_byte d true = grind arith
glyph_byte d false = grind arith

digits_free : (k n : ℕ) (acc : List ℕ) → IsFree acc → IsFree (digits_onto k 10 false n acc)
digits_free zero n acc free = free
digits_free (suc k) n acc free =
    let more : IsFree (digit_glyph false (n % 10) ∷ acc) = and_from (is_comment_byte (digit_glyph false (n % 10))) (list_all is_comment_byte acc) (glyph_byte (n % 10) (nat_lt (n % 10) 10)) free in
    by (n / 10 == 0) more (digits_free k (n / 10) (digit_glyph false (n % 10) ∷ acc) more)
  where
    by : (last : Bool) → IsFree (digit_glyph false (n % 10) ∷ acc) → IsFree (digits_onto k 10 false (n / 10) (digit_glyph false (n % 10) ∷ acc))
        → IsFree (if last then digit_glyph false (n % 10) ∷ acc else digits_onto k 10 false (n / 10) (digit_glyph false (n % 10) ∷ acc))
    by true here rest = here
    by false here rest = rest

pub decimal_is_free : (n : ℕ) → IsFree (decimal n)
unfolding digits
decimal_is_free n = digits_free 64 n [] refl

signed_is_free : (number : ℤ) → IsFree (signed_decimal number)
signed_is_free (pos n) = decimal_is_free n
signed_is_free (negsuc n) = decimal_is_free (suc n)

-- ---- facts

node_free : (node : Node) → IsFree (node_text node)
node_free Entry = refl
node_free (At number) = decimal_is_free number

slot_free : (slot : Slot) → IsFree (slot_text slot)
slot_free Out = refl
slot_free Then = refl
slot_free Else = refl

module _ (vars : List (List ℕ)) (named : list_all is_proper vars ≡ true) where
  arg_free : (arg : Arg) → IsFree (arg_text vars arg)
  arg_free (Var number) = read_free is_proper (λ name. name) vars named proper_is_free number
  arg_free (Const number) = signed_is_free number

  more_free : (args : List Arg) → IsFree (flat_map (λ arg. codes ", " ++ arg_text vars arg) args)
  more_free [] = refl
  more_free (arg ∷ args) = free_joined (arg_text vars arg) (flat_map (λ a. codes ", " ++ arg_text vars a) args) (arg_free arg) (more_free args)

  args_free : (args : List Arg) → IsFree (joined (codes ", ") (arg_text vars) args)
  args_free [] = refl
  args_free (arg ∷ args) = free_joined (arg_text vars arg) (flat_map (λ a. codes ", " ++ arg_text vars a) args) (arg_free arg) (more_free args)

-- what stands between `#` and the end of a fact's line
abbrev pub fact_body : List Schema → List Proc → FactAt → List ℕ
fact_body schemas procs fact =
    codes " fact " ++ proc_name procs fact.proc ++ codes " " ++ node_text fact.edge.node ++ codes "." ++ slot_text fact.edge.slot
    ++ codes " " ++ ground_fact_text schemas (vars_at procs fact.proc) fact.fact

module _ (schemas : List Schema) (procs : List Proc) (schemas_named : list_all schema_is_proper schemas ≡ true) (procs_named : list_all has_proper_names procs ≡ true) where
  schema_free : (number : ℕ) → IsFree (schema_name schemas number)
  schema_free number =
      read_free schema_is_proper (λ schema. schema.name) schemas schemas_named
      (λ schema is. name_is_free schema.name
      (and_parts (is_lower_name schema.name) (is_none (rule_keyword_of schema.name)) (and_parts _ (are_proper_params schema.params) is).0).0)
      number

  proc_free : (number : ℕ) → IsFree (proc_name procs number)
  proc_free number =
      read_free has_proper_names (λ proc. proc.name) procs procs_named (λ proc is. proper_is_free proc.name (and_parts (is_proper proc.name) (list_all is_proper proc.vars) is).0) number

  vars_named : (number : ℕ) → list_all is_proper (vars_at procs number) ≡ true
  vars_named number = by (slice_get procs number) refl
    where
      by : (o : Option Proc) → slice_get procs number ≡ o → list_all is_proper (option_map_or (λ (proc : Proc). proc.vars) o []) ≡ true
      by None read = refl
      by (Some proc) read = (and_parts (is_proper proc.name) (list_all is_proper proc.vars) (passes_at has_proper_names procs number proc procs_named read)).1

  ground_free : (vars : List (List ℕ)) (fact : GroundFact) → list_all is_proper vars ≡ true → IsFree (ground_fact_text schemas vars fact)
  ground_free vars fact named =
      let head = schema_name schemas fact.schema ++ codes "(" in
      let args = joined (codes ", ") (arg_text vars) fact.args in
      free_joined (head ++ args) (codes ")") (free_joined head args (free_joined (schema_name schemas fact.schema) (codes "(") (schema_free fact.schema) refl) (args_free vars named fact.args)) refl

  pub fact_is_free : (fact : FactAt) → IsFree (fact_body schemas procs fact)
  fact_is_free fact =
      let proc = codes " fact " ++ proc_name procs fact.proc in
      let node = proc ++ codes " " ++ node_text fact.edge.node in
      let slot = node ++ codes "." ++ slot_text fact.edge.slot in
      let ground = ground_fact_text schemas (vars_at procs fact.proc) fact.fact in
      let to_proc : IsFree (proc ++ codes " ") = free_joined proc (codes " ") (proc_free fact.proc) refl in
      let to_node : IsFree (node ++ codes ".") = free_joined node (codes ".") (free_joined (proc ++ codes " ") (node_text fact.edge.node) to_proc (node_free fact.edge.node)) refl in
      let to_slot : IsFree (slot ++ codes " ") = free_joined slot (codes " ") (free_joined (node ++ codes ".") (slot_text fact.edge.slot) to_node (slot_free fact.edge.slot)) refl in
      free_joined (slot ++ codes " ") ground to_slot (ground_free (vars_at procs fact.proc) fact.fact (vars_named fact.proc))
