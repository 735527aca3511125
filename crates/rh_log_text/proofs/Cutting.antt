-- A text up to the first of a byte.
use Rattle.std.proofs.Common.{ℕ, suc, ◌≡◌, ◌<◌, ◌≤◌, ◌+◌, ◌-◌, List, [], ◌∷◌, ◌++◌, length, take, drop, Bool, true, false, Some, None, add-one, length-drop, arith, refl, ap, sym, subst, ◌∙◌}
use Rattle.std.specs.Prelude.{◌==◌, not, nat_lt, cond, if◌then◌else◌}
use Rattle.std.specs.List.{AllByRecursion, position, position_or_len}
use Rattle.std.proofs.Math.Seq.{take-length}
use Rattle.std.proofs.lemmas.Bool.{eqb-true, ltb-true, ltb-false}
use Rattle.std.proofs.lemmas.Option.{none-some, same_Some}
use Rattle.rh_log_text.specs.Lines.{lines_of, onto_first}

-- the byte does not stand among these
abbrev pub FreeOf : ℕ → List ℕ → Type 0
FreeOf byte bytes = AllByRecursion (λ other. (other == byte) ≡ false) bytes

pub record CutAt (byte : ℕ) (bytes : List ℕ) (end : ℕ) : Type 0 where
  pub whole : bytes ≡ take end bytes ++ byte ∷ drop (suc end) bytes
  pub free : FreeOf byte (take end bytes)
  pub within : end < length bytes

module _ (byte : ℕ) where
  abbrev first_of : List ℕ → ℕ
  first_of bytes = position_or_len (λ other. other == byte) bytes

  here : (first : ℕ) (bytes : List ℕ) → (first == byte) ≡ true → first_of (first ∷ bytes) ≡ 0
  here first bytes e = ap (λ (test : Bool). cond (not test) (1 + first_of bytes) 0) e

  later : (first : ℕ) (bytes : List ℕ) → (first == byte) ≡ false → first_of (first ∷ bytes) ≡ suc (first_of bytes)
  later first bytes e = ap (λ (test : Bool). cond (not test) (1 + first_of bytes) 0) e ∙ omega arith

  cut_first : (first : ℕ) (bytes : List ℕ) (test : Bool) → (first == byte) ≡ test → first_of (first ∷ bytes) < suc (length bytes)
      → (first_of bytes < length bytes → CutAt byte bytes (first_of bytes)) → CutAt byte (first ∷ bytes) (first_of (first ∷ bytes))
  cut_first first bytes true e below others = subst (CutAt byte (first ∷ bytes)) (sym (here first bytes e)) record {
    whole = ap (λ n. n ∷ bytes) (eqb-true first byte e);
    free = tt;
    within = omega arith;
  }
  cut_first first bytes false e below others =
      let rest = others (omega (arith, below, later first bytes e)) in
      subst (CutAt byte (first ∷ bytes)) (sym (later first bytes e)) record {
        whole = ap (λ (tail : List ℕ). first ∷ tail) rest.whole;
        free = (e, rest.free);
        within = omega (arith, rest.within);
      }

  cut_len : (bytes : List ℕ) → first_of bytes < length bytes → CutAt byte bytes (first_of bytes)
  cut_len [] below = absurd (omega (arith, below))
  cut_len (first ∷ bytes) below = cut_first first bytes (first == byte) refl below (cut_len bytes)

  free_first : (first : ℕ) (bytes : List ℕ) (test : Bool) → (first == byte) ≡ test → suc (length bytes) ≤ first_of (first ∷ bytes)
      → (length bytes ≤ first_of bytes → FreeOf byte bytes) → FreeOf byte (first ∷ bytes)
  free_first first bytes true e past others = absurd (omega (arith, past, here first bytes e))
  free_first first bytes false e past others = (e, others (omega (arith, past, later first bytes e)))

  free_len : (bytes : List ℕ) → length bytes ≤ first_of bytes → FreeOf byte bytes
  free_len [] past = tt
  free_len (first ∷ bytes) past = free_first first bytes (first == byte) refl past (free_len bytes)

  pub cut_at : (bytes : List ℕ) (end : ℕ) → position (λ other. other == byte) bytes ≡ Some end → CutAt byte bytes end
  cut_at bytes end e = by (nat_lt (first_of bytes) (length bytes)) refl e
    where
      by : (test : Bool) → nat_lt (first_of bytes) (length bytes) ≡ test → cond test (Some (first_of bytes)) None ≡ Some end → CutAt byte bytes end
      by true told is = subst (CutAt byte bytes) (same_Some (first_of bytes) end is) (cut_len bytes (ltb-true (first_of bytes) (length bytes) told))
      by false told is = absurd (none-some end is)

  pub no_cut : (bytes : List ℕ) → position (λ other. other == byte) bytes ≡ None → FreeOf byte bytes
  no_cut bytes e = by (nat_lt (first_of bytes) (length bytes)) refl e
    where
      by : (test : Bool) → nat_lt (first_of bytes) (length bytes) ≡ test → cond test (Some (first_of bytes)) None ≡ None → FreeOf byte bytes
      by true told is = absurd (none-some (first_of bytes) (sym is))
      by false told is = free_len bytes (ltb-false (first_of bytes) (length bytes) told)

-- the line up to LF is the first
pub lines_cut : (line rest : List ℕ) → FreeOf 10 line → lines_of (line ++ 10 ∷ rest) ≡ line ∷ lines_of rest
lines_cut [] rest free = refl
lines_cut (first ∷ line) rest free =
    ap (λ (test : Bool). if test then [] ∷ lines_of (line ++ 10 ∷ rest) else onto_first first (lines_of (line ++ 10 ∷ rest))) free.0
    ∙ ap (onto_first first) (lines_cut line rest free.1)

-- without LF there is one line
lines_last : (first : ℕ) (line : List ℕ) → FreeOf 10 (first ∷ line) → lines_of (first ∷ line) ≡ (first ∷ line) ∷ []
lines_last first [] free = ap (λ (test : Bool). if test then [] ∷ [] else onto_first first []) free.0
lines_last first (second ∷ line) free =
    ap (λ (test : Bool). if test then [] ∷ lines_of (second ∷ line) else onto_first first (lines_of (second ∷ line))) free.0
    ∙ ap (onto_first first) (lines_last second line free.1)

pub lines_at : (text : List ℕ) (end : ℕ) → position (λ other. other == 10) text ≡ Some end → lines_of text ≡ take end text ∷ lines_of (drop (suc end) text)
lines_at text end e =
    let cut = cut_at 10 text end e in ap lines_of cut.whole ∙ lines_cut (take end text) (drop (suc end) text) cut.free

pub lines_one : (text : List ℕ) → 0 < length text → position (λ other. other == 10) text ≡ None → lines_of text ≡ text ∷ []
lines_one [] some e = absurd (omega (arith, some))
lines_one (first ∷ line) some e = lines_last first line (no_cut 10 (first ∷ line) e)

-- the rest of a list, as the code cuts it
pub tail_is : (bytes : List ℕ) (k : ℕ) → take (length bytes - (k + 1)) (drop (k + 1) bytes) ≡ drop (suc k) bytes
tail_is bytes k =
    ap (λ n. take n (drop (k + 1) bytes)) (sym (length-drop (k + 1) bytes)) ∙ take-length (drop (k + 1) bytes) ∙ ap (λ n. drop n bytes) (add-one k)

first_short : (byte : ℕ) (lines : List (List ℕ)) → length (onto_first byte lines) ≤ length lines + 1
first_short byte [] = omega arith
first_short byte (line ∷ lines) = omega arith

line_short : (byte : ℕ) (bytes : List ℕ) (test : Bool) → length (if test then [] ∷ lines_of bytes else onto_first byte (lines_of bytes)) ≤ length (lines_of bytes) + 1
line_short byte bytes true = omega arith
line_short byte bytes false = first_short byte (lines_of bytes)

-- there are not more lines than bytes
pub lines_short : (text : List ℕ) → length (lines_of text) ≤ length text
lines_short [] = omega arith
lines_short (byte ∷ bytes) = omega (arith, line_short byte bytes (byte == 10), lines_short bytes)
