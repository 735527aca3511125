-- One more piece of a text.
use Rattle.std.proofs.Common.{◌≡◌, ℕ, ◌+◌, ◌≤◌, List, [], ◌∷◌, ◌++◌, length, take, drop, length-drop, ◌-◌, Some, None, refl, sym, ap, ◌∙◌, subst, arith, append_assoc, length-append, add-zero, zero-add}
use Rattle.std.proofs.lemmas.List.{drop_at, append-nil, flat_map_more, take_rest}
use Rattle.std.specs.List.{flat_map}
use Rattle.rh_text.specs.declared.token.TokenKind.{TokenKind}
use Rattle.rh_text.specs.declared.token.Token.{Token}
use Rattle.rh_text.specs.declared.front.Front.{Front}
use Rattle.rh_text.specs.Pieces.{Piece, spelled, IsPiece, ArePieces, Splits, kind_of, token_at, tokens_from}
use Rattle.rh_text.specs.Fronts.{IsFront}

flat_map-push : (ps : List Piece) (p : Piece) (rest : List ℕ) → flat_map spelled (ps ++ p ∷ []) ++ rest ≡ flat_map spelled ps ++ (spelled p ++ rest)
flat_map-push ps p rest = ap (λ l. l ++ rest) (sym (flat_map_more spelled [] ps p)) ∙ append_assoc (flat_map spelled ps) (spelled p) rest

pieces_push : (ps : List Piece) (p : Piece) (rest : List ℕ) → ArePieces ps (spelled p ++ rest) → IsPiece p rest → ArePieces (ps ++ p ∷ []) rest
pieces_push [] p rest all is_piece = (is_piece, tt)
pieces_push (q ∷ ps) p rest all is_piece =
    (subst (IsPiece q) (sym (flat_map-push ps p rest)) all.0, pieces_push ps p rest all.1 is_piece)

tokens_push : (at : ℕ) (ps : List Piece) (p : Piece) → tokens_from at (ps ++ p ∷ []) ≡ tokens_from at ps ++ token_at (at + length (flat_map spelled ps)) (length (spelled p)) (kind_of p)
tokens_push at [] p = append-nil _ ∙ ap (λ n. token_at n (length (spelled p)) (kind_of p)) (sym (add-zero at))
tokens_push at (q ∷ ps) p =
    let next = at + length (spelled q) in
    let place : next + length (flat_map spelled ps) ≡ at + length (spelled q ++ flat_map spelled ps) =
    omega (arith, length-append (spelled q) (flat_map spelled ps)) in
    ap (λ l. token_at at (length (spelled q)) (kind_of q) ++ l)
    (tokens_push next ps p ∙ ap (λ n. tokens_from next ps ++ token_at n (length (spelled p)) (kind_of p)) place)
    ∙ sym (append_assoc (token_at at (length (spelled q)) (kind_of q)) (tokens_from next ps) (token_at (at + length (spelled q ++ flat_map spelled ps)) (length (spelled p)) (kind_of p)))

-- the text up to a place: the pieces there, and the tokens that they are
pub record IsReadTo (text : List ℕ) (at : ℕ) (tokens : List Token) : Type 0 where
  pub pieces : List Piece
  pub split : Splits text pieces (drop at text)
  pub len : at ≡ length (flat_map spelled pieces)
  pub told : tokens ≡ tokens_from 0 pieces

-- the piece at a place is read
pub read_more : (text : List ℕ) (at : ℕ) (tokens : List Token) (front : Front) → IsReadTo text at tokens → IsFront (drop at text) front → IsReadTo text (at + front.len) (tokens ++ token_at at front.len front.kind)
read_more text at tokens front read at_front =
    let ps = read.pieces in
    let p = at_front.piece in
    let after = at_front.after in
    let whole : text ≡ flat_map spelled (ps ++ p ∷ []) ++ after =
    read.split.whole ∙ ap (λ l. flat_map spelled ps ++ l) at_front.whole ∙ sym (flat_map-push ps p after) in
    let len : at + front.len ≡ length (flat_map spelled (ps ++ p ∷ [])) =
    omega (arith, read.len, at_front.len, ap length (flat_map_more spelled [] ps p), length-append (flat_map spelled ps) (spelled p)) in
    let same_token : token_at (0 + length (flat_map spelled ps)) (length (spelled p)) (kind_of p) ≡ token_at at front.len front.kind =
    rw (zero-add, ← read.len, ← at_front.len, ← at_front.kind) refl in
    let rest : drop (at + front.len) text ≡ after =
    ap (drop (at + front.len)) whole ∙ drop_at _ after _ (sym len) in
    record {
      pieces = ps ++ p ∷ [];
      split = record {
        whole = rw rest whole;
        each = rw rest (pieces_push ps p after (subst (ArePieces ps) at_front.whole read.split.each) at_front.is_piece);
      };
      len = len;
      told = ap (λ l. l ++ token_at at front.len front.kind) read.told
          ∙ sym (tokens_push 0 ps p ∙ ap (λ l. tokens_from 0 ps ++ l) same_token);
    }

-- what the front of the rest of a text tells of the text
module _ (text : List ℕ) (at : ℕ) (front : Front) (told : IsFront (take (length text - at) (drop at text)) front) where
  there : IsFront (drop at text) front
  there = rw take_rest at told

  pub front_within : at ≤ length text → at + front.len ≤ length text
  front_within within =
      omega (arith, length-drop at text, ap length there.whole, length-append (spelled there.piece) there.after, there.len)

  pub read_gap : (tokens : List Token) → IsReadTo text at tokens → front.kind ≡ None → IsReadTo text (at + front.len) tokens
  read_gap tokens read none =
      let more = read_more text at tokens front read there in
      subst (IsReadTo text (at + front.len)) (ap (λ k. tokens ++ token_at at front.len k) none ∙ append-nil tokens) more

  pub read_token : (tokens : List Token) (kind : TokenKind) → IsReadTo text at tokens → front.kind ≡ Some kind → IsReadTo text (at + front.len) (tokens ++ record { kind = kind; start = at; end = at + front.len } ∷ [])
  read_token tokens kind read some =
      let more = read_more text at tokens front read there in
      subst (IsReadTo text (at + front.len)) (ap (λ k. tokens ++ token_at at front.len k) some) more
