-- The words of a statement tell the statement, whatever comes after them.
use Rattle.std.proofs.Common.{◌≡◌, ℕ, Bool, true, false, cond, List, [], ◌∷◌, ◌++◌, append_assoc, refl, sym, ap, ◌∙◌}
use Rattle.std.specs.List.{flat_map}
use Rattle.rh_text.specs.declared.sign.Sign.{Sign}
use Rattle.rh_text.specs.declared.sign.Sign.TheVariants.{Semicolon, OpenParen, CloseBrace, Plus, Minus, Star, Less, Ampersand}
use Rattle.rh_il.specs.declared.value.Op.{Op}
use Rattle.rh_il.specs.declared.value.Op.TheVariants.{Add, Sub, Mul, Less as LessOp, Equal as EqualOp}
use Rattle.rh_il.specs.declared.keyword.Keyword.TheVariants.{Skip as SkipWord, Goto as GotoWord, If as IfWord, Return as ReturnWord}
use Rattle.rh_il_source.specs.declared.word.Word.{Word}
use Rattle.rh_il_source.specs.declared.word.Word.TheVariants.{Sign as SignWord, Keyword as KeywordWord, Name, Number}
use Rattle.rh_il_source.specs.declared.source.Operand.{Operand}
use Rattle.rh_il_source.specs.declared.source.Operand.TheVariants.{Var, Num}
use Rattle.rh_il_source.specs.declared.source.Line.{Line}
use Rattle.rh_il_source.specs.declared.source.Line.TheVariants.{Skip, Copy, Address, Load, Compute, Write, New, Call, Goto, If, Return}
use Rattle.rh_il_source.specs.Source.{op_sign, operand_words, closed_words}

-- ---- the statement that words begin with, where they begin with one

abbrev LineAndRest : Type 0
LineAndRest = Line × List Word

abbrev none : LineAndRest
none = (Skip, [])

-- the words after the first
abbrev behind : List Word → List Word
behind [] = []
behind (word ∷ words) = words

abbrev with_name : (List ℕ → List Word → LineAndRest) → List Word → LineAndRest
with_name next (Name bytes ∷ words) = next bytes words
with_name next words = none

abbrev with_number : (ℕ → List Word → LineAndRest) → List Word → LineAndRest
with_number next (Number size ∷ words) = next size words
with_number next words = none

abbrev with_operand : (Operand → List Word → LineAndRest) → List Word → LineAndRest
with_operand next (Name bytes ∷ words) = next (Var bytes) words
with_operand next (Number size ∷ words) = next (Num false size) words
with_operand next (SignWord sign ∷ Number size ∷ words) = next (Num true size) words
with_operand next words = none

abbrev op_of : Sign → Op
op_of Plus = Add
op_of Minus = Sub
op_of Star = Mul
op_of Less = LessOp
op_of sign = EqualOp

abbrev is_end : Sign → Bool
is_end Semicolon = true
is_end sign = false

abbrev is_bracket : Sign → Bool
is_bracket OpenParen = true
is_bracket sign = false

-- what is assigned, after its first operand and a sign
abbrev computed : List ℕ → Operand → Sign → List Word → LineAndRest
computed to left sign words =
    cond (is_end sign) (Copy to left, words) (with_operand (λ right rest. (Compute to (op_of sign) left right, behind rest)) words)

abbrev behind_left : List ℕ → Operand → List Word → LineAndRest
behind_left to left (SignWord sign ∷ words) = computed to left sign words
behind_left to left words = none

abbrev behind_name : List ℕ → List ℕ → List Word → LineAndRest
behind_name to first (SignWord sign ∷ words) =
    cond (is_bracket sign) (with_operand (λ arg rest. (Call to first arg, behind (behind rest))) words) (computed to (Var first) sign words)
behind_name to first words = none

abbrev behind_sign : List ℕ → Sign → List Word → LineAndRest
behind_sign to Ampersand words = with_name (λ of rest. (Address to of, behind rest)) words
behind_sign to Star words = with_name (λ from rest. (Load to from, behind rest)) words
behind_sign to sign words = with_number (λ size rest. behind_left to (Num true size) rest) words

-- what is assigned
abbrev assigned : List ℕ → List Word → LineAndRest
assigned to (KeywordWord keyword ∷ words) = (New to, behind words)
assigned to (SignWord sign ∷ words) = behind_sign to sign words
assigned to (Name first ∷ words) = behind_name to first words
assigned to (Number size ∷ words) = behind_left to (Num false size) words
assigned to words = none

abbrev branch : List Word → LineAndRest
branch words =
    with_operand (λ tested goto. with_number (λ taken other. with_number (λ others rest. (If tested taken others, behind rest)) (behind other)) (behind goto)) words

abbrev line_at : List Word → LineAndRest
line_at (KeywordWord SkipWord ∷ words) = (Skip, behind words)
line_at (KeywordWord GotoWord ∷ words) = with_number (λ to rest. (Goto to, behind rest)) words
line_at (KeywordWord IfWord ∷ words) = branch words
line_at (KeywordWord ReturnWord ∷ words) = with_operand (λ value rest. (Return value, behind rest)) words
line_at (SignWord sign ∷ words) = with_name (λ to becomes. with_operand (λ from rest. (Write to from, behind rest)) (behind becomes)) words
line_at (Name to ∷ words) = assigned to (behind words)
line_at words = none

-- ---- a statement is told by its words

abbrev ended : Operand → List Word → List Word
ended operand rest = (operand_words operand ++ SignWord Semicolon ∷ []) ++ rest

operand_back : (next : Operand → List Word → LineAndRest) (operand : Operand) (rest : List Word) → with_operand next (ended operand rest) ≡ next operand (SignWord Semicolon ∷ rest)
operand_back next (Var bytes) rest = refl
operand_back next (Num false size) rest = refl
operand_back next (Num true size) rest = refl

computed_back : (to : List ℕ) (op : Op) (left right : Operand) (rest : List Word) → computed to left (op_sign op) (ended right rest) ≡ (Compute to op left right, rest)
computed_back to Add left right rest = operand_back (λ right rest. (Compute to Add left right, behind rest)) right rest
computed_back to Sub left right rest = operand_back (λ right rest. (Compute to Sub left right, behind rest)) right rest
computed_back to Mul left right rest = operand_back (λ right rest. (Compute to Mul left right, behind rest)) right rest
computed_back to LessOp left right rest = operand_back (λ right rest. (Compute to LessOp left right, behind rest)) right rest
computed_back to EqualOp left right rest = operand_back (λ right rest. (Compute to EqualOp left right, behind rest)) right rest

no_bracket : (op : Op) → is_bracket (op_sign op) ≡ false
no_bracket Add = refl
no_bracket Sub = refl
no_bracket Mul = refl
no_bracket LessOp = refl
no_bracket EqualOp = refl

named_back : (to first : List ℕ) (op : Op) (right : Operand) (rest : List Word) → behind_name to first (SignWord (op_sign op) ∷ ended right rest) ≡ (Compute to op (Var first) right, rest)
named_back to first op right rest =
    ap (λ bracket. cond bracket (with_operand (λ arg rest. (Call to first arg, behind (behind rest))) (ended right rest)) (computed to (Var first) (op_sign op) (ended right rest))) (no_bracket op)
    ∙ computed_back to op (Var first) right rest

pub line_back : (line : Line) (rest : List Word) → line_at (closed_words line ++ rest) ≡ (line, rest)
line_back Skip rest = refl
line_back (Copy to (Var from)) rest = refl
line_back (Copy to (Num false size)) rest = refl
line_back (Copy to (Num true size)) rest = refl
line_back (Address to of) rest = refl
line_back (Load to from) rest = refl
line_back (Compute to op (Var left) right) rest = named_back to left op right rest
line_back (Compute to op (Num false size) right) rest = computed_back to op (Num false size) right rest
line_back (Compute to op (Num true size) right) rest = computed_back to op (Num true size) right rest
line_back (Write to (Var from)) rest = refl
line_back (Write to (Num false size)) rest = refl
line_back (Write to (Num true size)) rest = refl
line_back (New to) rest = refl
line_back (Call to proc (Var arg)) rest = refl
line_back (Call to proc (Num false size)) rest = refl
line_back (Call to proc (Num true size)) rest = refl
line_back (Goto to) rest = refl
line_back (If (Var tested) taken others) rest = refl
line_back (If (Num false size) taken others) rest = refl
line_back (If (Num true size) taken others) rest = refl
line_back (Return (Var value)) rest = refl
line_back (Return (Num false size)) rest = refl
line_back (Return (Num true size)) rest = refl

-- ---- the statements of a body, up to its brace

-- the words go on with a statement, and not with the brace
abbrev goes_on : List Word → Bool
goes_on (SignWord CloseBrace ∷ words) = false
goes_on words = true

line_goes_on : (line : Line) (rest : List Word) → goes_on (closed_words line ++ rest) ≡ true
line_goes_on Skip rest = refl
line_goes_on (Copy to from) rest = refl
line_goes_on (Address to of) rest = refl
line_goes_on (Load to from) rest = refl
line_goes_on (Compute to op left right) rest = refl
line_goes_on (Write to from) rest = refl
line_goes_on (New to) rest = refl
line_goes_on (Call to proc arg) rest = refl
line_goes_on (Goto to) rest = refl
line_goes_on (If tested taken others) rest = refl
line_goes_on (Return value) rest = refl

-- two lists of statements, with the same words after them
pub record SameBodies (a b : List Line) (r s : List Word) : Type 0 where
  pub lines : a ≡ b
  pub rests : r ≡ s

abbrev closing : List Line → List Word → List Word
closing lines rest = flat_map closed_words lines ++ SignWord CloseBrace ∷ rest

first_line : (line : Line) (lines : List Line) (rest : List Word) → closing (line ∷ lines) rest ≡ closed_words line ++ closing lines rest
first_line line lines rest = append_assoc (closed_words line) (flat_map closed_words lines) (SignWord CloseBrace ∷ rest)

no_line : (line : Line) (lines : List Line) (r s : List Word) → SignWord CloseBrace ∷ r ≡ closing (line ∷ lines) s → ⊥
no_line line lines r s e =
    let stops = ap goes_on (e ∙ first_line line lines s) ∙ line_goes_on line (closing lines s) in cc

pub bodies_unique : (a b : List Line) (r s : List Word) → closing a r ≡ closing b s → SameBodies a b r s
bodies_unique [] [] r s e = record { lines = refl; rests = cc }
bodies_unique [] (line ∷ lines) r s e = absurd (no_line line lines r s e)
bodies_unique (line ∷ lines) [] r s e = absurd (no_line line lines s r (sym e))
bodies_unique (line ∷ lines) (other ∷ others) r s e =
    let both : ◌≡◌ {A = LineAndRest} (line, closing lines r) (other, closing others s) =
    sym (line_back line (closing lines r)) ∙ ap line_at (sym (first_line line lines r) ∙ e ∙ first_line other others s) ∙ line_back other (closing others s) in
    let same : line ≡ other = ap (λ (pair : LineAndRest). pair.0) both in
    let behind_both = bodies_unique lines others r s (ap (λ (pair : LineAndRest). pair.1) both) in
    record {
      lines = ap (λ (x : Line). x ∷ lines) same ∙ ap (λ (xs : List Line). other ∷ xs) behind_both.lines;
      rests = behind_both.rests;
    }
