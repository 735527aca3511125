-- A line is read from the bytes that spell it, and from no others.
use Rattle.std.proofs.Common.{ℕ, suc, ◌≡◌, ◌<◌, ◌+◌, ◌^◌, List, [], ◌∷◌, ◌++◌, append_assoc, length, take, drop, Bool, true, false, Option, Some, None, arith, refl, ap, sym, subst, ◌∙◌}
use Rattle.std.specs.Prelude.{◌==◌, ◌&&◌, not, nat_lt, cond, codes, option_map, if◌then◌else◌}
use Rattle.std.specs.Fmt.{decimal}
use Rattle.std.specs.List.{position, position_or_len}
use Rattle.std.specs.Str.{bytes_eq}
use Rattle.std.specs.Str.Parse.{AllDigits, IsNumeral}
use Rattle.std.proofs.lemmas.Str.Parse.{digit_from_value}
use Rattle.std.proofs.Math.Seq.{take-append_seam}
use Rattle.std.proofs.lemmas.Bool.{lt-ltb, ne_eqb}
use Rattle.std.proofs.lemmas.Fmt.{decimal_is_IsNumeral}
use Rattle.std.proofs.lemmas.List.{take-append-drop, length-append}
use Rattle.std.proofs.lemmas.Option.{none-some, same_Some}
use Rattle.std.proofs.lemmas.Slice.Eq.{bytes_eq-Decides}
use Rattle.rh_il.specs.Name.{is_name}
use Rattle.rh_log.specs.declared.log.LogNode.{LogNode}
use Rattle.rh_log_text.specs.declared.line.Line.{Line}
use Rattle.rh_log_text.specs.declared.line.Line.TheVariants.{Rule, Log, Node}
use Rattle.rh_log_text.specs.Reading.{after, line_of, node_of, node_with, number_of, rule_of}
use Rattle.rh_log_text.specs.Text.{IsLine, line_text}
use Rattle.rh_log_text.proofs.Cutting.{CutAt, cut_at}
use Rattle.rh_log_text.proofs.Numbers.{Spells, number_back, number_is}

-- a byte in front of another front
other_front : (byte first : ℕ) (bytes front : List ℕ) → (byte ≡ first → ⊥) → after (first ∷ front) (byte ∷ bytes) ≡ None
other_front byte first bytes front differ =
    ap (λ (test : Bool). if test && bytes_eq (take (length front) bytes) front then Some (drop (length front) bytes) else None) (ne_eqb byte first differ)

-- words of digits
digits_apart : (word rest front : List ℕ) (first : ℕ) → 57 < first → 0 < length word → AllDigits 10 word → after (first ∷ front) (word ++ rest) ≡ None
digits_apart [] rest front first above some digits = absurd (omega (arith, some))
digits_apart (byte ∷ bytes) rest front first above some digits =
    let range = digit_from_value byte digits.0 in other_front byte first (bytes ++ rest) front (λ e. absurd (omega (arith, e, range.0, range.1, above)))

space_behind : (word rest : List ℕ) → AllDigits 10 word → position_or_len (λ byte. byte == 32) (word ++ 32 ∷ rest) ≡ length word
space_behind [] rest digits = refl
space_behind (byte ∷ bytes) rest digits =
    let range = digit_from_value byte digits.0 in
    let other : (byte == 32) ≡ false = ne_eqb byte 32 (λ e. absurd (omega (arith, e, range.0, range.1))) in
    ap (λ (test : Bool). cond (not test) (1 + position_or_len (λ byte. byte == 32) (bytes ++ 32 ∷ rest)) 0) other
    ∙ ap (λ n. 1 + n) (space_behind bytes rest digits.1) ∙ omega arith

space_at : (word rest : List ℕ) → AllDigits 10 word → position (λ byte. byte == 32) (word ++ 32 ∷ rest) ≡ Some (length word)
space_at word rest digits =
    ap (λ n. cond (nat_lt n (length (word ++ 32 ∷ rest))) (Some n) None) (space_behind word rest digits)
    ∙ ap (λ (test : Bool). cond test (Some (length word)) None) (lt-ltb (length word) (length (word ++ 32 ∷ rest)) (omega (arith, length-append word (32 ∷ rest))))

drop_past : (word rest : List ℕ) (byte : ℕ) → drop (suc (length word)) (word ++ byte ∷ rest) ≡ rest
drop_past [] rest byte = refl
drop_past (first ∷ word) rest byte = drop_past word rest byte

node_split : (left right : List ℕ) → AllDigits 10 left → node_of (left ++ 32 ∷ right) ≡ node_with (number_of left) (number_of right)
node_split left right digits =
    ap (λ (at : Option ℕ). elim at as (λ _. Option Line) [ None ↦ None | Some end ↦ node_with (number_of (take end (left ++ 32 ∷ right))) (number_of (drop (suc end) (left ++ 32 ∷ right))) ]) (space_at left right digits)
    ∙ ap (λ (word : List ℕ). node_with (number_of word) (number_of (drop (suc (length left)) (left ++ 32 ∷ right)))) (take-append_seam left (32 ∷ right))
    ∙ ap (λ (word : List ℕ). node_with (number_of left) (number_of word)) (drop_past left right 32)

node_back : (node : LogNode) → node.clause < 2 ^ 32 → node.children < 2 ^ 32 → line_of (decimal node.clause ++ 32 ∷ decimal node.children) ≡ Some (Node node)
node_back node small fit =
    let numeral : IsNumeral 10 (decimal node.clause) = (decimal_is_IsNumeral node.clause (omega (arith, small))).0 in
    let text : List ℕ = decimal node.clause ++ 32 ∷ decimal node.children in
    ap (λ (found : Option (List ℕ)). elim found as (λ _. Option Line) [
      | Some name ↦ rule_of name
      | None ↦ elim (after (codes "log ") text) as (λ _. Option Line) [ Some word ↦ option_map Log (number_of word) | None ↦ node_of text ]
    ]) (digits_apart (decimal node.clause) (32 ∷ decimal node.children) (codes "ule ") 114 (omega arith) numeral.0 numeral.1)
    ∙ ap (λ (found : Option (List ℕ)). elim found as (λ _. Option Line) [ Some word ↦ option_map Log (number_of word) | None ↦ node_of text ])
    (digits_apart (decimal node.clause) (32 ∷ decimal node.children) (codes "og ") 108 (omega arith) numeral.0 numeral.1)
    ∙ node_split (decimal node.clause) (decimal node.children) numeral.1
    ∙ ap (λ (read : Option ℕ). node_with read (number_of (decimal node.children))) (number_back node.clause small)
    ∙ ap (node_with (Some node.clause)) (number_back node.children fit)

-- a line is read from its bytes
pub line_back : (line : Line) → IsLine line → line_of (line_text line) ≡ Some line
line_back (Rule name) good = ap (λ (test : Bool). if test then Some (Rule name) else None) good
line_back (Log number) good = ap (option_map Log) (number_back number good)
line_back (Node node) good = ap line_of (append_assoc (decimal node.clause) (32 ∷ []) (decimal node.children)) ∙ node_back node good.0 good.1

-- ---- and from no others

pub record Spelled (bytes : List ℕ) (line : Line) : Type 0 where
  pub text : bytes ≡ line_text line
  pub good : IsLine line

after_so : (front bytes : List ℕ) (test : Bool) → bytes_eq (take (length front) bytes) front ≡ test → (rest : List ℕ) → (if test then Some (drop (length front) bytes) else None) ≡ Some rest → bytes ≡ front ++ rest
after_so front bytes true told rest e =
    sym (take-append-drop (length front) bytes)
    ∙ ap (λ (begin : List ℕ). begin ++ drop (length front) bytes) ((bytes_eq-Decides (take (length front) bytes) front).0 told)
    ∙ ap (λ (behind : List ℕ). front ++ behind) (same_Some _ rest e)
after_so front bytes false told rest e = absurd (none-some rest e)

after_is : (front bytes rest : List ℕ) → after front bytes ≡ Some rest → bytes ≡ front ++ rest
after_is front bytes rest e = after_so front bytes _ refl rest e

rule_so : (name : List ℕ) (test : Bool) → is_name name ≡ test → (line : Line) → (if test then Some (Rule name) else None) ≡ Some line → Spelled (codes "rule " ++ name) line
rule_so name true good line e = subst (Spelled (codes "rule " ++ name)) (same_Some (Rule name) line e) record { text = refl; good = good }
rule_so name false good line e = absurd (none-some line e)

log_so : (word : List ℕ) (read : Option ℕ) → number_of word ≡ read → (line : Line) → option_map Log read ≡ Some line → Spelled (codes "log " ++ word) line
log_so word (Some number) is line e =
    let spelled = number_is word number is in
    subst (Spelled (codes "log " ++ word)) (same_Some (Log number) line e) record { text = ap (λ (digits : List ℕ). codes "log " ++ digits) spelled.text; good = spelled.small }
log_so word None is line e = absurd (none-some line e)

node_text : (bytes : List ℕ) (end clause children : ℕ) → CutAt 32 bytes end → Spells (take end bytes) clause → Spells (drop (suc end) bytes) children
    → Spelled bytes (Node record { clause = clause; children = children })
node_text bytes end clause children cut left right = record {
  text = cut.whole
      ∙ ap (λ (word : List ℕ). word ++ 32 ∷ drop (suc end) bytes) left.text
      ∙ ap (λ (word : List ℕ). decimal clause ++ 32 ∷ word) right.text
      ∙ sym (append_assoc (decimal clause) (32 ∷ []) (decimal children));
  good = (left.small, right.small);
}

node_so : (bytes : List ℕ) (end : ℕ) (left right : Option ℕ) → CutAt 32 bytes end → number_of (take end bytes) ≡ left → number_of (drop (suc end) bytes) ≡ right
    → (line : Line) → node_with left right ≡ Some line → Spelled bytes line
node_so bytes end (Some clause) (Some children) cut first second line e =
    subst (Spelled bytes) (same_Some (Node record { clause = clause; children = children }) line e)
    (node_text bytes end clause children cut (number_is (take end bytes) clause first) (number_is (drop (suc end) bytes) children second))
node_so bytes end (Some clause) None cut first second line e = absurd (none-some line e)
node_so bytes end None right cut first second line e = absurd (none-some line e)

space_so : (bytes : List ℕ) (at : Option ℕ) → position (λ byte. byte == 32) bytes ≡ at → (line : Line)
    → elim at as (λ _. Option Line) [ None ↦ None | Some end ↦ node_with (number_of (take end bytes)) (number_of (drop (suc end) bytes)) ] ≡ Some line → Spelled bytes line
space_so bytes None is line e = absurd (none-some line e)
space_so bytes (Some end) is line e = node_so bytes end (number_of (take end bytes)) (number_of (drop (suc end) bytes)) (cut_at 32 bytes end is) refl refl line e

behind_so : (bytes : List ℕ) (found : Option (List ℕ)) → after (codes "log ") bytes ≡ found → (line : Line)
    → elim found as (λ _. Option Line) [ Some word ↦ option_map Log (number_of word) | None ↦ node_of bytes ] ≡ Some line → Spelled bytes line
behind_so bytes (Some word) is line e =
    subst (λ (text : List ℕ). Spelled text line) (sym (after_is (codes "log ") bytes word is)) (log_so word (number_of word) refl line e)
behind_so bytes None is line e = space_so bytes (position (λ byte. byte == 32) bytes) refl line e

front_so : (bytes : List ℕ) (found : Option (List ℕ)) → after (codes "rule ") bytes ≡ found → (line : Line)
    → elim found as (λ _. Option Line) [
      | Some name ↦ rule_of name
      | None ↦ elim (after (codes "log ") bytes) as (λ _. Option Line) [ Some word ↦ option_map Log (number_of word) | None ↦ node_of bytes ]
    ] ≡ Some line → Spelled bytes line
front_so bytes (Some name) is line e =
    subst (λ (text : List ℕ). Spelled text line) (sym (after_is (codes "rule ") bytes name is)) (rule_so name (is_name name) refl line e)
front_so bytes None is line e = behind_so bytes (after (codes "log ") bytes) refl line e

pub line_is : (bytes : List ℕ) (line : Line) → line_of bytes ≡ Some line → Spelled bytes line
line_is bytes line e = front_so bytes (after (codes "rule ") bytes) refl line e

-- the two words of a line, cut at the first space
pub node_at : (bytes : List ℕ) (end : ℕ) → position (λ byte. byte == 32) bytes ≡ Some end → node_of bytes ≡ node_with (number_of (take end bytes)) (number_of (drop (suc end) bytes))
node_at bytes end e =
    ap (λ (at : Option ℕ). elim at as (λ _. Option Line) [ None ↦ None | Some end ↦ node_with (number_of (take end bytes)) (number_of (drop (suc end) bytes)) ]) e
