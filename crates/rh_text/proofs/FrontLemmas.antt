-- What stands at the front of a text, by its first byte.
use Rattle.std.proofs.Common.{◌≡◌, ℕ, suc, ◌+◌, ◌^◌, ◌<◌, ◌≤◌, Bool, true, false, cond, ◌&&◌, List, [], ◌∷◌, ◌++◌, length, take, drop, get_or, Some, None, refl, sym, ap, ◌∙◌, subst, arith, take-append-drop, length-take-le}
use Rattle.std.proofs.Math.Numerals.{one-add}
use Rattle.std.proofs.lemmas.Bool.{or_left, leb-true, leb-false, false≢true}
use Rattle.std.proofs.lemmas.List.Sums.{prefix_len-le-length}
use Rattle.std.specs.Prelude.{nat_le}
use Rattle.std.specs.List.{prefix_len, list_all}
use Rattle.std.specs.Char.{is_ascii_alphabetic, is_ascii_digit, is_ascii_lowercase}
use Rattle.rh_text.specs.declared.sign.Sign.{Sign}
use Rattle.rh_text.specs.declared.token.TokenKind.{TokenKind}
use Rattle.rh_text.specs.declared.token.TokenKind.TheVariants.{Lower, Upper, Number, Sign as SignKind}
use Rattle.rh_text.specs.declared.token.LexFault.TheVariants.{BadByte, NumberRange, LongName}
use Rattle.rh_text.specs.Signs.{sign_at}
use Rattle.rh_text.specs.Decimal.{up_to_limit}
use Rattle.rh_text.specs.Pieces.{is_space, is_word_byte, is_comment_byte, decimal_value, Piece, Space, Comment, Word, Digits, Mark, spelled, HasForm, IsWord, IsDigits, name_kind, IsFaultAt}
use Rattle.rh_text.specs.Fronts.{IsFront}
use Rattle.rh_text.proofs.Runs.{run_passes, run_stops, run_nonempty, first_of_take}
use Rattle.rh_text.proofs.SignLemmas.{sign_at-text, sign_at-is}

-- the run of bytes that pass, the first of them, and what comes after them
pub record IsRun (p : ℕ → Bool) (text : List ℕ) (n : ℕ) : Type 0 where
  pub whole : text ≡ take n text ++ drop n text
  pub positive : 0 < n
  pub len : length (take n text) ≡ n
  pub passes : list_all p (take n text) ≡ true
  pub stops : prefix_len p (drop n text) ≡ 0
  pub first : get_or (take n text) 0 0 ≡ get_or text 0 0

run : (p : ℕ → Bool) (text : List ℕ) (n : ℕ) → p 0 ≡ false → p (get_or text 0 0) ≡ true → n ≡ prefix_len p text → IsRun p text n
run p [] n zero first e = absurd (false≢true (sym zero ∙ first))
run p (x ∷ xs) n zero first e =
    let positive = run_nonempty p x xs first in
    let low = prefix_len-le-length p (x ∷ xs) in
    subst (IsRun p (x ∷ xs)) (sym e) (record {
      whole = sym (take-append-drop _ (x ∷ xs));
      positive = positive;
      len = length-take-le _ (x ∷ xs) low;
      passes = run_passes p (x ∷ xs);
      stops = run_stops p (x ∷ xs);
      first = first_of_take (x ∷ xs) _ positive;
    })

word_run : (text : List ℕ) (n : ℕ) → is_ascii_alphabetic (get_or text 0 0) ≡ true → n ≡ prefix_len is_word_byte text → IsRun is_word_byte text n
word_run text n letter e =
    run is_word_byte text n refl (or_left _ _ (or_left _ _ letter)) e

-- a name at the front
pub name_front : (text : List ℕ) (n : ℕ) (kind : TokenKind) → is_ascii_alphabetic (get_or text 0 0) ≡ true → n ≡ prefix_len is_word_byte text → n ≤ 32 → kind ≡ name_kind text → IsFront text (record { len = n; kind = Some kind })
name_front text n kind letter e short is_kind =
    let r = word_run text n letter e in
    record {
      piece = Word (take n text);
      after = drop n text;
      whole = r.whole;
      is_piece = record { form = (ap is_ascii_alphabetic r.first ∙ letter, r.passes); longest = r.stops; within = rw r.len short };
      len = sym r.len;
      kind = ap Some (is_kind ∙ ap (λ b. cond (is_ascii_lowercase b) Lower Upper) (sym r.first));
    }

pub name_fault : (text : List ℕ) (n at : ℕ) → is_ascii_alphabetic (get_or text 0 0) ≡ true → n ≡ prefix_len is_word_byte text → 32 < n → IsFaultAt at text (LongName at)
name_fault text n at letter e long =
    let r = word_run text n letter e in (
      refl,
      take n text,
      drop n text,
      record {
        whole = r.whole;
        form = (ap is_ascii_alphabetic r.first ∙ letter, r.passes);
        longest = r.stops;
        large = λ within. omega (arith, r.len);
      },
    )

digit_run : (text : List ℕ) (n : ℕ) → is_ascii_digit (get_or text 0 0) ≡ true → n ≡ prefix_len is_ascii_digit text → IsRun is_ascii_digit text n
digit_run text n digit e = run is_ascii_digit text n refl digit e

-- the digits at the front may be asked for their number
pub digits_pass : (text : List ℕ) (n : ℕ) → is_ascii_digit (get_or text 0 0) ≡ true → n ≡ prefix_len is_ascii_digit text → list_all is_ascii_digit (take n text) ≡ true
digits_pass text n digit e = (digit_run text n digit e).passes

up_to_limit-some : (n x : ℕ) → Some x ≡ up_to_limit n → n ≤ 2 ^ 63
up_to_limit-some n x e =
    elim (nat_le n (2 ^ 63)) as (λ b. nat_le n (2 ^ 63) ≡ b → Some x ≡ cond b (Some n) None → n ≤ 2 ^ 63)
    [ true ↦ λ small _. leb-true n (2 ^ 63) small | false ↦ λ _ e. absurd cc ] refl e

up_to_limit-none : (n : ℕ) → None ≡ up_to_limit n → 2 ^ 63 < n
up_to_limit-none n e =
    elim (nat_le n (2 ^ 63)) as (λ b. nat_le n (2 ^ 63) ≡ b → None ≡ cond b (Some n) None → 2 ^ 63 < n)
    [ true ↦ λ _ e. absurd cc | false ↦ λ large _. leb-false n (2 ^ 63) large ] refl e

-- a number at the front
pub number_front : (text : List ℕ) (n x : ℕ) → is_ascii_digit (get_or text 0 0) ≡ true → n ≡ prefix_len is_ascii_digit text → Some x ≡ up_to_limit (decimal_value (take n text)) → IsFront text (record { len = n; kind = Some Number })
number_front text n x digit e small =
    let r = digit_run text n digit e in
    record {
      piece = Digits (take n text);
      after = drop n text;
      whole = r.whole;
      is_piece = record { form = (rw r.len r.positive, r.passes); longest = r.stops; within = up_to_limit-some _ x small };
      len = sym r.len;
      kind = refl;
    }

pub number_fault : (text : List ℕ) (n at : ℕ) → is_ascii_digit (get_or text 0 0) ≡ true → n ≡ prefix_len is_ascii_digit text → None ≡ up_to_limit (decimal_value (take n text)) → IsFaultAt at text (NumberRange at)
number_fault text n at digit e large =
    let r = digit_run text n digit e in
    let over = up_to_limit-none _ large in (
      refl,
      take n text,
      drop n text,
      record {
        whole = r.whole;
        form = (rw r.len r.positive, r.passes);
        longest = r.stops;
        large = λ within. omega arith;
      },
    )

-- a space at the front
pub space_front : (text : List ℕ) → 0 < length text → is_space (get_or text 0 0) ≡ true → IsFront text (record { len = 1; kind = None })
space_front [] h space = absurd (omega arith)
space_front (b ∷ bs) h space = record {
  piece = Space b;
  after = bs;
  whole = refl;
  is_piece = record { form = space; longest = tt; within = tt };
  len = refl;
  kind = refl;
}

-- a comment at the front
pub comment_front : (text : List ℕ) (n : ℕ) → 0 < length text → get_or text 0 0 ≡ 35 → n ≡ prefix_len is_comment_byte text → IsFront text (record { len = n; kind = None })
comment_front [] n h hash e = absurd (omega arith)
comment_front (b ∷ bs) n h hash e =
    let m = prefix_len is_comment_byte bs in
    let low = prefix_len-le-length is_comment_byte bs in
    let is_len : n ≡ 1 + m = e ∙ rw hash refl in
    record {
      piece = Comment (take m bs);
      after = drop m bs;
      whole = ap (λ c. c ∷ bs) hash ∙ ap (λ l. 35 ∷ l) (sym (take-append-drop m bs));
      is_piece = record { form = run_passes is_comment_byte bs; longest = run_stops is_comment_byte bs; within = tt };
      len = is_len ∙ one-add m ∙ ap suc (sym (length-take-le m bs low));
      kind = refl;
    }

-- a sign at the front
pub sign_front : (text : List ℕ) (s : Sign) (n : ℕ) → 0 < length text → Some (s, n) ≡ sign_at text → IsFront text (record { len = n; kind = Some (SignKind s) })
sign_front text s n h e =
    let found = sign_at-is text s n h (sym e) in
    record {
      piece = Mark s;
      after = drop n text;
      whole = found.0;
      is_piece = record { form = tt; longest = tt; within = tt };
      len = found.1;
      kind = refl;
    }

-- a byte at the front with which no piece begins
pub record IsOdd (text : List ℕ) : Type 0 where
  pub nonempty : 0 < length text
  pub no_space : is_space (get_or text 0 0) ≡ false
  pub no_hash : get_or text 0 0 ≡ 35 → ⊥
  pub no_letter : is_ascii_alphabetic (get_or text 0 0) ≡ false
  pub no_digit : is_ascii_digit (get_or text 0 0) ≡ false
  pub no_sign : None ≡ sign_at text

first_of : (text bs after : List ℕ) → text ≡ bs ++ after → 0 < length bs → get_or text 0 0 ≡ get_or bs 0 0
first_of text [] after e h = absurd (omega arith)
first_of text (b ∷ bs) after e h = ap (λ l. get_or l 0 0) e

word_begins : (bs : List ℕ) → IsWord bs → 0 < length bs
word_begins [] w = absurd (false≢true w.0)
word_begins (b ∷ bs) w = omega arith

digit_begins : (bs : List ℕ) → IsDigits bs → is_ascii_digit (get_or bs 0 0) ≡ true
digit_begins [] d = let h = d.0 in absurd (omega arith)
digit_begins (b ∷ bs) d =
    elim (is_ascii_digit b) as (λ t. (t && list_all is_ascii_digit bs) ≡ true → t ≡ true) [ true ↦ λ _. refl | false ↦ λ e. e ] d.1

no_piece : (text : List ℕ) → IsOdd text → (piece : Piece) (after : List ℕ) → text ≡ spelled piece ++ after → HasForm piece → ⊥
no_piece text odd (Space b) after e form =
    false≢true (sym odd.no_space ∙ ap is_space (first_of text (b ∷ []) after e (omega arith)) ∙ form)
no_piece text odd (Comment bs) after e form = odd.no_hash (first_of text (35 ∷ bs) after e (omega arith))
no_piece text odd (Word bs) after e form =
    false≢true (sym odd.no_letter ∙ ap is_ascii_alphabetic (first_of text bs after e (word_begins bs form)) ∙ form.0)
no_piece text odd (Digits bs) after e form =
    false≢true (sym odd.no_digit ∙ ap is_ascii_digit (first_of text bs after e form.0) ∙ digit_begins bs form)
no_piece text odd (Mark s) after e form =
    let found = sign_at-text s after in let there = ap sign_at e in let none = odd.no_sign in cc

pub odd_fault : (text : List ℕ) (at : ℕ) → IsOdd text → IsFaultAt at text (BadByte at)
odd_fault text at odd = (refl, odd.nonempty, no_piece text odd)

pub lower_kind : (text : List ℕ) → is_ascii_lowercase (get_or text 0 0) ≡ true → Lower ≡ name_kind text
lower_kind text e = rw e refl

pub upper_kind : (text : List ℕ) → is_ascii_lowercase (get_or text 0 0) ≡ false → Upper ≡ name_kind text
upper_kind text e = rw e refl
