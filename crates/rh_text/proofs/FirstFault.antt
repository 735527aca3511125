-- A fault at the front of what is left of a text is the only answer about it.
use Rattle.std.proofs.Common.{◌≡◌, ℕ, ◌-◌, List, length, take, drop, Ok, Err, inl, subst, ◌∙◌}
use Rattle.std.proofs.lemmas.List.{take_rest}
use Rattle.std.specs.Prelude.{Result}
use Rattle.std.specs.Result.{IsErrAnd}
use Rattle.std.specs.Global.{Vec}
use Rattle.rh_text.specs.declared.token.Token.{Token}
use Rattle.rh_text.specs.declared.token.LexFault.{LexFault}
use Rattle.rh_text.specs.Pieces.{AreTokens, IsFaultAt, IsFirstFault}
use Rattle.rh_text.specs.Tokens.{IsTokens, IsFault}
use Rattle.rh_text.proofs.PieceLemmas.{IsReadTo}
use Rattle.rh_text.proofs.Unique.{tokens_have_no_fault, one_first_fault}

pub first_fault : (text : List ℕ) (at : ℕ) (tokens : List Token) (fault : LexFault) → IsReadTo text at tokens → IsFaultAt at (take (length text - at) (drop at text)) fault → IsFirstFault text fault
first_fault text at tokens fault read there = record {
  pieces = read.pieces;
  rest = drop at text;
  split = read.split;
  there = subst (λ n. IsFaultAt n (drop at text) fault) read.len (rw take_rest at there);
}

-- the exit with the fault
module _ (text : List ℕ) (fault : LexFault) (first : IsFirstFault text fault) where
  pub fault_not_tokens : (result : Result (Vec Token) LexFault) → IsErrAnd result (λ told. told ≡ fault) → (all : List Token) → AreTokens text all → IsTokens all result
  fault_not_tokens (Ok found) told all are = absurd told
  fault_not_tokens (Err other) told all are = absurd (tokens_have_no_fault text all fault are first)

  pub fault_is_first : (result : Result (Vec Token) LexFault) → IsErrAnd result (λ told. told ≡ fault) → (other : LexFault) → IsFirstFault text other → IsFault other result
  fault_is_first (Ok found) told other is = absurd told
  fault_is_first (Err same) told other is = inl (told ∙ one_first_fault text fault other first is)
