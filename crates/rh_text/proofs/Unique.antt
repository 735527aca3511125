-- A text is cut into pieces in one way at most, and so it has one answer: its tokens or its first fault.
use Rattle.std.proofs.Common.{◌≡◌, ℕ, ◌+◌, ◌<◌, ◌≤◌, Bool, true, false, cond, eqb, List, [], ◌∷◌, ◌++◌, length, take, get_or, Option, Some, None, refl, sym, ap, subst, ◌∙◌, arith, append_assoc}
use Rattle.std.proofs.Math.Numerals.{one-add}
use Rattle.std.proofs.lemmas.Bool.{and_parts, or_from, false≢true, ne_eqb, leb-true, lt-leb}
use Rattle.std.proofs.lemmas.List.{append_cancel_left}
use Rattle.std.specs.Prelude.{nat_le}
use Rattle.std.specs.List.{prefix_len, list_all, flat_map}
use Rattle.std.specs.Char.{is_ascii_alphabetic, is_ascii_digit}
use Rattle.rh_text.specs.declared.sign.Sign.{Sign}
use Rattle.rh_text.specs.declared.sign.Sign.TheVariants.{Becomes}
use Rattle.rh_text.specs.declared.token.Token.{Token}
use Rattle.rh_text.specs.declared.token.LexFault.{LexFault}
use Rattle.rh_text.specs.declared.token.LexFault.TheVariants.{BadByte, NumberRange, LongName, NoMemory}
use Rattle.rh_text.specs.Signs.{sign_text, sign_at}
use Rattle.rh_text.specs.Pieces.{IsWithin, is_space, is_word_byte, is_comment_byte, Piece, Space, Comment, Word, Digits, Mark, spelled, HasForm, IsLongest, IsPiece, ArePieces, AreTokens, IsTooLarge, IsFaultAt, IsFirstFault, tokens_from}
use Rattle.rh_text.proofs.SignLemmas.{sign_at-text}

-- ---- the piece at the front is told by the bytes

-- the run of bytes that pass is the whole list, where none passes behind it
pub run_is : (p : ℕ → Bool) (bs after : List ℕ) → list_all p bs ≡ true → prefix_len p after ≡ 0 → take (prefix_len p (bs ++ after)) (bs ++ after) ≡ bs
run_is p [] after all stops = ap (λ n. take n after) stops
run_is p (b ∷ bs) after all stops =
    let parts = and_parts (p b) (list_all p bs) all in
    ap (λ t. take (cond t (1 + prefix_len p (bs ++ after)) 0) (b ∷ (bs ++ after))) parts.0
    ∙ ap (λ n. take n (b ∷ (bs ++ after))) (one-add (prefix_len p (bs ++ after)))
    ∙ ap (λ l. b ∷ l) (run_is p bs after parts.1 stops)

abbrev mark_of : Option (Sign × ℕ) → Piece
mark_of None = Space 0
mark_of (Some found) = Mark found.0

-- the run at the front of those bytes that pass
abbrev run_at : (ℕ → Bool) → List ℕ → List ℕ
run_at p bytes = take (prefix_len p bytes) bytes

-- the piece that the first byte tells
abbrev piece_by : ℕ → List ℕ → List ℕ → Piece
piece_by first rest bytes =
    cond (is_space first) (Space first) (cond (eqb first 35) (Comment (run_at is_comment_byte rest)) (cond (is_ascii_alphabetic first) (Word (run_at is_word_byte bytes)) (cond (is_ascii_digit first) (Digits (run_at is_ascii_digit bytes)) (mark_of (sign_at bytes)))))

abbrev front_piece : List ℕ → Piece
front_piece [] = Space 0
front_piece (b ∷ bs) = piece_by b bs (b ∷ bs)

-- a byte that passes is not one that doesn't
differs : (p : ℕ → Bool) (b x : ℕ) → p b ≡ true → p x ≡ false → eqb b x ≡ false
differs p b x passes fails = ne_eqb b x (λ same. false≢true (sym fails ∙ ap p (sym same) ∙ passes))

no_space : (p : ℕ → Bool) (b : ℕ) → p b ≡ true → p 32 ≡ false → p 9 ≡ false → p 13 ≡ false → p 10 ≡ false → is_space b ≡ false
no_space p b e space tab cr lf =
    or_from _ _ (or_from _ _ (or_from _ _ (differs p b 32 e space) (differs p b 9 e tab)) (differs p b 13 e cr)) (differs p b 10 e lf)

digit_no_letter : (b : ℕ) → is_ascii_digit b ≡ true → is_ascii_alphabetic b ≡ false
digit_no_letter b digit =
    let top : b ≤ 57 = leb-true b 57 (and_parts (nat_le 48 b) (nat_le b 57) digit).1 in
    rw (lt-leb 65 b (omega arith), lt-leb 97 b (omega arith)) refl

letter_tells : (b : ℕ) (rest bytes : List ℕ) → is_ascii_alphabetic b ≡ true → piece_by b rest bytes ≡ Word (run_at is_word_byte bytes)
letter_tells b rest bytes letter =
    rw (no_space is_ascii_alphabetic b letter refl refl refl refl, differs is_ascii_alphabetic b 35 letter refl, letter) refl

digit_tells : (b : ℕ) (rest bytes : List ℕ) → is_ascii_digit b ≡ true → piece_by b rest bytes ≡ Digits (run_at is_ascii_digit bytes)
digit_tells b rest bytes digit =
    rw (no_space is_ascii_digit b digit refl refl refl refl, differs is_ascii_digit b 35 digit refl, digit_no_letter b digit, digit) refl

front_is : (piece : Piece) (after : List ℕ) → HasForm piece → IsLongest piece after → front_piece (spelled piece ++ after) ≡ piece
front_is (Space b) after form longest = rw form refl
front_is (Comment bs) after form longest = ap Comment (run_is is_comment_byte bs after form longest)
front_is (Word []) after form longest = absurd (false≢true form.0)
front_is (Word (b ∷ bs)) after form longest =
    letter_tells b (bs ++ after) (b ∷ (bs ++ after)) form.0 ∙ ap Word (run_is is_word_byte (b ∷ bs) after form.1 longest)
front_is (Digits []) after form longest = let none = form.0 in absurd (omega arith)
front_is (Digits (b ∷ bs)) after form longest =
    digit_tells b (bs ++ after) (b ∷ (bs ++ after)) (and_parts (is_ascii_digit b) (list_all is_ascii_digit bs) form.1).0
    ∙ ap Digits (run_is is_ascii_digit (b ∷ bs) after form.1 longest)
front_is (Mark s) after form longest = sign_front s ∙ ap mark_of (sign_at-text s after)
  where
    sign_front : (s : Sign) → front_piece (sign_text s ++ after) ≡ mark_of (sign_at (sign_text s ++ after))
    sign_front Becomes = refl
    sign_front _ = refl

-- a piece as long as it goes, and what comes after it
record IsCut (text : List ℕ) (piece : Piece) (after : List ℕ) : Type 0 where
  whole : text ≡ spelled piece ++ after
  form : HasForm piece
  longest : IsLongest piece after

one_piece : (text : List ℕ) (p q : Piece) (a b : List ℕ) → IsCut text p a → IsCut text q b → p ≡ q
one_piece text p q a b first second =
    sym (ap front_piece first.whole ∙ front_is p a first.form first.longest) ∙ ap front_piece second.whole ∙ front_is q b second.form second.longest

-- ---- the pieces of a text

-- no piece stands at the front
abbrev Stuck : List ℕ → Type 0
Stuck rest = (piece : Piece) (after : List ℕ) → rest ≡ spelled piece ++ after → IsPiece piece after → ⊥

first_cut : (piece : Piece) (pieces : List Piece) (rest : List ℕ) → ArePieces (piece ∷ pieces) rest → IsCut (flat_map spelled (piece ∷ pieces) ++ rest) piece (flat_map spelled pieces ++ rest)
first_cut piece pieces rest are = record {
  whole = append_assoc (spelled piece) (flat_map spelled pieces) rest;
  form = are.0.form;
  longest = are.0.longest;
}

-- the same pieces, and the same rest
record Agree (ps qs : List Piece) (r s : List ℕ) : Type 0 where
  pieces : ps ≡ qs
  rests : r ≡ s

agree : (ps qs : List Piece) (r s : List ℕ) → flat_map spelled ps ++ r ≡ flat_map spelled qs ++ s → ArePieces ps r → ArePieces qs s → Stuck r → Stuck s → Agree ps qs r s
agree [] [] r s e first second stuck stopped = record { pieces = refl; rests = e }
agree [] (q ∷ qs) r s e first second stuck stopped =
    absurd (stuck q (flat_map spelled qs ++ s) (e ∙ append_assoc (spelled q) (flat_map spelled qs) s) second.0)
agree (p ∷ ps) [] r s e first second stuck stopped =
    absurd (stopped p (flat_map spelled ps ++ r) (sym e ∙ append_assoc (spelled p) (flat_map spelled ps) r) first.0)
agree (p ∷ ps) (q ∷ qs) r s e first second stuck stopped =
    let at_first = first_cut p ps r first in
    let at_second = first_cut q qs s second in
    let same : p ≡ q =
    one_piece (flat_map spelled (p ∷ ps) ++ r) p q (flat_map spelled ps ++ r) (flat_map spelled qs ++ s) at_first (record { whole = e ∙ at_second.whole; form = at_second.form; longest = at_second.longest }) in
    let behind : flat_map spelled ps ++ r ≡ flat_map spelled qs ++ s =
    append_cancel_left (spelled p) _ _ (sym at_first.whole ∙ e ∙ at_second.whole ∙ ap (λ (x : Piece). spelled x ++ (flat_map spelled qs ++ s)) (sym same)) in
    let others = agree ps qs r s behind first.1 second.1 stuck stopped in
    record { pieces = ap (λ (x : Piece). x ∷ ps) same ∙ ap (λ (l : List Piece). q ∷ l) others.pieces; rests = others.rests }

-- ---- the rest behind the pieces

word_filled : (bs after : List ℕ) → is_ascii_alphabetic (get_or bs 0 0) ≡ true → [] ≡ bs ++ after → ⊥
word_filled [] after letter e = false≢true letter
word_filled (b ∷ bs) after letter e = cc

digits_filled : (bs after : List ℕ) → 0 < length bs → [] ≡ bs ++ after → ⊥
digits_filled [] after filled e = omega arith
digits_filled (b ∷ bs) after filled e = cc

sign_filled : (s : Sign) (after : List ℕ) → [] ≡ sign_text s ++ after → ⊥
sign_filled Becomes after e = cc
sign_filled _ after e = cc

-- no piece stands at the end
end_stuck : Stuck []
end_stuck (Space b) after e is = cc
end_stuck (Comment bs) after e is = cc
end_stuck (Word bs) after e is = word_filled bs after is.form.0 e
end_stuck (Digits bs) after e is = digits_filled bs after is.form.0 e
end_stuck (Mark s) after e is = sign_filled s after e

-- nor where a piece stands that is too large
large_stuck : (large : Piece) (behind rest : List ℕ) → IsTooLarge large behind rest → Stuck rest
large_stuck large behind rest is piece after e fits =
    let same : large ≡ piece = one_piece rest large piece behind after (record { whole = is.whole; form = is.form; longest = is.longest }) (record { whole = e; form = fits.form; longest = fits.longest }) in
    is.large (subst IsWithin (sym same) fits.within)

fault_stuck : (at : ℕ) (rest : List ℕ) (f : LexFault) → IsFaultAt at rest f → Stuck rest
fault_stuck at rest (BadByte offset) there = λ piece after e is. there.2 piece after e is.form
fault_stuck at rest (NumberRange offset) there = large_stuck (Digits there.1) there.2 rest there.3
fault_stuck at rest (LongName offset) there = large_stuck (Word there.1) there.2 rest there.3
fault_stuck at rest NoMemory there = absurd there

-- ---- the answers

pub tokens_unique : (text : List ℕ) (a b : List Token) → AreTokens text a → AreTokens text b → a ≡ b
tokens_unique text a b first second =
    let same = agree first.pieces second.pieces [] [] (sym first.split.whole ∙ second.split.whole) first.split.each second.split.each end_stuck end_stuck in
    first.told ∙ ap (tokens_from 0) same.pieces ∙ sym second.told

large_at_end : (large : Piece) (behind : List ℕ) → IsTooLarge large behind [] → ⊥
large_at_end (Space b) behind is = let e = is.whole in cc
large_at_end (Comment bs) behind is = let e = is.whole in cc
large_at_end (Word bs) behind is = word_filled bs behind is.form.0 is.whole
large_at_end (Digits bs) behind is = digits_filled bs behind is.form.0 is.whole
large_at_end (Mark s) behind is = sign_filled s behind is.whole

-- there is no fault at the end
no_fault_at_end : (at : ℕ) (f : LexFault) → IsFaultAt at [] f → ⊥
no_fault_at_end at (BadByte offset) there = let filled = there.1 in omega arith
no_fault_at_end at (NumberRange offset) there = large_at_end (Digits there.1) there.2 there.3
no_fault_at_end at (LongName offset) there = large_at_end (Word there.1) there.2 there.3
no_fault_at_end at NoMemory there = there

pub tokens_have_no_fault : (text : List ℕ) (a : List Token) (f : LexFault) → AreTokens text a → IsFirstFault text f → ⊥
tokens_have_no_fault text a f are fault =
    let same = agree are.pieces fault.pieces [] fault.rest (sym are.split.whole ∙ fault.split.whole) are.split.each fault.split.each end_stuck (fault_stuck _ fault.rest f fault.there) in
    no_fault_at_end _ f (subst (λ rest. IsFaultAt (length (flat_map spelled fault.pieces)) rest f) (sym same.rests) fault.there)

number_or_name : (rest digits name a b : List ℕ) → IsTooLarge (Digits digits) a rest → IsTooLarge (Word name) b rest → ⊥
number_or_name rest digits name a b number word =
    let same : Digits digits ≡ Word name = one_piece rest (Digits digits) (Word name) a b (record { whole = number.whole; form = number.form; longest = number.longest }) (record { whole = word.whole; form = word.form; longest = word.longest }) in
    cc

-- one fault stands at a place
one_fault_at : (at : ℕ) (rest : List ℕ) (f g : LexFault) → IsFaultAt at rest f → IsFaultAt at rest g → f ≡ g
one_fault_at at rest (BadByte x) (BadByte y) first second = ap BadByte (first.0 ∙ sym second.0)
one_fault_at at rest (BadByte x) (NumberRange y) first second = absurd (first.2 (Digits second.1) second.2 second.3.whole second.3.form)
one_fault_at at rest (BadByte x) (LongName y) first second = absurd (first.2 (Word second.1) second.2 second.3.whole second.3.form)
one_fault_at at rest (NumberRange x) (BadByte y) first second = absurd (second.2 (Digits first.1) first.2 first.3.whole first.3.form)
one_fault_at at rest (NumberRange x) (NumberRange y) first second = ap NumberRange (first.0 ∙ sym second.0)
one_fault_at at rest (NumberRange x) (LongName y) first second = absurd (number_or_name rest first.1 second.1 first.2 second.2 first.3 second.3)
one_fault_at at rest (LongName x) (BadByte y) first second = absurd (second.2 (Word first.1) first.2 first.3.whole first.3.form)
one_fault_at at rest (LongName x) (NumberRange y) first second = absurd (number_or_name rest second.1 first.1 second.2 first.2 second.3 first.3)
one_fault_at at rest (LongName x) (LongName y) first second = ap LongName (first.0 ∙ sym second.0)
one_fault_at at rest NoMemory g first second = absurd first
one_fault_at at rest f NoMemory first second = absurd second

pub one_first_fault : (text : List ℕ) (f g : LexFault) → IsFirstFault text f → IsFirstFault text g → f ≡ g
one_first_fault text f g first second =
    let same = agree first.pieces second.pieces first.rest second.rest (sym first.split.whole ∙ second.split.whole) first.split.each second.split.each (fault_stuck _ first.rest f first.there) (fault_stuck _ second.rest g second.there) in
    one_fault_at (length (flat_map spelled second.pieces)) second.rest f g
    (subst (λ (ps : List Piece). IsFaultAt (length (flat_map spelled ps)) second.rest f) same.pieces
    (subst (λ rest. IsFaultAt (length (flat_map spelled first.pieces)) rest f) same.rests first.there)) second.there
