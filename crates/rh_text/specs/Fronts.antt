-- What a call tells of the front of a text.
use Rattle.std.specs.Prelude.{◌≡◌, ℕ, List, ◌++◌, length}
use Rattle.rh_text.specs.declared.front.Front.{Front}
use Rattle.rh_text.specs.Pieces.{Piece, spelled, IsPiece, kind_of}

-- the piece at the front of a text, told by its length and the kind of its token
pub record IsFront (text : List ℕ) (front : Front) : Type 0 where
  pub piece : Piece
  pub after : List ℕ
  pub whole : text ≡ spelled piece ++ after
  pub is_piece : IsPiece piece after
  pub len : front.len ≡ length (spelled piece)
  pub kind : front.kind ≡ kind_of piece
