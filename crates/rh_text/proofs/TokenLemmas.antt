-- Each token of a text stands in it.
use Rattle.std.proofs.Common.{◌≡◌, ℕ, zero, suc, ◌+◌, ◌-◌, ◌<◌, ◌≤◌, Bool, true, false, cond, List, [], ◌∷◌, ◌++◌, length, take, drop, refl, sym, ap, ◌∙◌, subst, arith, append_assoc, append-nil, length-append}
use Rattle.std.proofs.Math.Seq.{take-append_seam, drop-append_seam}
use Rattle.std.proofs.lemmas.Bool.{false≢true}
use Rattle.std.proofs.lemmas.List.{drop_all}
use Rattle.std.specs.List.{All, flat_map, slice_range}
use Rattle.std.specs.Char.{is_ascii_lowercase}
use Rattle.std.specs.Prelude.{slice_index}
use Rattle.rh_text.specs.declared.token.TokenKind.{TokenKind}
use Rattle.rh_text.specs.declared.token.TokenKind.TheVariants.{Lower, Upper, Number, Sign as SignKind}
use Rattle.rh_text.specs.declared.token.Token.{Token}
use Rattle.rh_text.specs.Pieces.{Piece, Space, Comment, Word, Digits, Mark, spelled, HasForm, IsWord, IsWithin, ArePieces, AreTokens, kind_of, name_kind, token_at, tokens_from, Splits}
use Rattle.rh_text.specs.Signs.{sign_text}
use Rattle.rh_text.proofs.PieceLemmas.{IsReadTo}
use Rattle.rh_text.specs.Words.{piece_as, IsTokenOf}
use Rattle.rh_text.specs.declared.sign.Sign.{Sign}
use Rattle.rh_text.specs.declared.sign.Sign.TheVariants.{Becomes}

-- all of a list behind one more
all_cons : {X : Type 0} (P : X → Type 0) (x : X) (xs : List X) → P x → All P xs → All P (x ∷ xs)
all_cons P x xs first rest zero d below = first
all_cons P x xs first rest (suc k) d below = rest k d (omega arith)

-- what stands between two parts of a list
pub between : (before middle after : List ℕ) (start end : ℕ) → start ≡ length before → end ≡ length before + length middle → slice_range (before ++ (middle ++ after)) start end ≡ middle
between before middle after start end s e =
    let len : end - start ≡ length middle = omega arith in
    let from : drop start (before ++ (middle ++ after)) ≡ middle ++ after = ap (λ n. drop n (before ++ (middle ++ after))) s ∙ drop-append_seam before (middle ++ after) in
    ap (λ n. take n (drop start (before ++ (middle ++ after)))) len ∙ ap (take (length middle)) from ∙ take-append_seam middle after

word_nonempty : (bytes : List ℕ) → IsWord bytes → 0 < length bytes
word_nonempty [] is = absurd (false≢true is.0)
word_nonempty (b ∷ bs) is = omega arith

sign_nonempty : (sign : Sign) → 0 < length (sign_text sign)
sign_nonempty Becomes = omega arith
sign_nonempty _ = omega arith

-- a name is a token of either kind
named : (lower : Bool) (bytes : List ℕ) → Word bytes ≡ piece_as (cond lower Lower Upper) bytes
named true bytes = refl
named false bytes = refl

-- where a piece that is a token stands
record Place (text : List ℕ) (piece : Piece) (kind : TokenKind) (start end : ℕ) : Type 0 where
  filled : 0 < length (spelled piece)
  spelled_is : slice_range text start end ≡ spelled piece
  same : piece ≡ piece_as kind (spelled piece)
  start_end : end ≡ start + length (spelled piece)
  inside : end ≤ length text

token_of : (text : List ℕ) (piece : Piece) (kind : TokenKind) (start end : ℕ) → Place text piece kind start end → HasForm piece → IsWithin piece → IsTokenOf text (record { kind = kind; start = start; end = end })
token_of text piece kind start end place form within =
    let is : piece ≡ piece_as kind (slice_range text start end) = place.same ∙ ap (piece_as kind) (sym place.spelled_is) in
    record {
      ordered = omega (arith, place.filled, place.start_end);
      inside = place.inside;
      form = subst HasForm is form;
      within = subst IsWithin is within;
    }

module _ (text before after : List ℕ) (piece : Piece) (whole : text ≡ before ++ (spelled piece ++ after)) where
  place : (kind : TokenKind) → 0 < length (spelled piece) → piece ≡ piece_as kind (spelled piece) → Place text piece kind (length before) (length before + length (spelled piece))
  place kind filled same = record {
    filled = filled;
    spelled_is = ap (λ t. slice_range t (length before) (length before + length (spelled piece))) whole ∙ between before (spelled piece) after _ _ refl refl;
    same = same;
    start_end = refl;
    inside = omega (arith, ap length whole, length-append before (spelled piece ++ after), length-append (spelled piece) after);
  }

  of_kind : (kind : TokenKind) → 0 < length (spelled piece) → piece ≡ piece_as kind (spelled piece) → HasForm piece → IsWithin piece → IsTokenOf text (record { kind = kind; start = length before; end = length before + length (spelled piece) })
  of_kind kind filled same = token_of text piece kind _ _ (place kind filled same)

-- one piece before the others
one : (text before after : List ℕ) (piece : Piece) → text ≡ before ++ (spelled piece ++ after) → (rest : List Token) → HasForm piece → IsWithin piece → All (IsTokenOf text) rest → All (IsTokenOf text) (token_at (length before) (length (spelled piece)) (kind_of piece) ++ rest)
one text before after (Space b) whole rest form within others = others
one text before after (Comment bs) whole rest form within others = others
one text before after (Word bs) whole rest form within others =
    all_cons (IsTokenOf text) _ rest (of_kind text before after (Word bs) whole (name_kind bs) (word_nonempty bs form) (named (is_ascii_lowercase (slice_index bs 0)) bs) form within) others
one text before after (Digits bs) whole rest form within others =
    all_cons (IsTokenOf text) _ rest (of_kind text before after (Digits bs) whole Number form.0 refl form within) others
one text before after (Mark s) whole rest form within others =
    all_cons (IsTokenOf text) _ rest (of_kind text before after (Mark s) whole (SignKind s) (sign_nonempty s) refl form within) others

pub each_of : (text before : List ℕ) (pieces : List Piece) → text ≡ before ++ flat_map spelled pieces → ArePieces pieces [] → All (IsTokenOf text) (tokens_from (length before) pieces)
each_of text before [] whole are = λ k d below. absurd (omega arith)
each_of text before (p ∷ ps) whole are =
    let longer : text ≡ (before ++ spelled p) ++ flat_map spelled ps = whole ∙ sym (append_assoc before (spelled p) (flat_map spelled ps)) in
    let others = each_of text (before ++ spelled p) ps longer are.1 in
    one text before (flat_map spelled ps) p whole _ are.0.form are.0.within
    (subst (λ n. All (IsTokenOf text) (tokens_from n ps)) (length-append before (spelled p)) others)

-- what is read of a text at its end are its tokens
pub all_read : (text : List ℕ) (at : ℕ) (tokens : List Token) → length text ≤ at → IsReadTo text at tokens → AreTokens text tokens
all_read text at tokens end read = record {
  pieces = read.pieces;
  split = subst (Splits text read.pieces) (drop_all at text end) read.split;
  told = read.told;
}

-- each of the tokens of a text
pub each_token : (text : List ℕ) (tokens : List Token) → AreTokens text tokens → All (IsTokenOf text) tokens
each_token text tokens are =
    subst (All (IsTokenOf text)) (sym are.told)
    (each_of text [] are.pieces (are.split.whole ∙ append-nil (flat_map spelled are.pieces)) are.split.each)
