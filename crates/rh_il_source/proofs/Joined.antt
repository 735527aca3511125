-- What was read part by part, as the words of the whole.
use Rattle.std.proofs.Common.{◌≡◌, ℕ, List, [], ◌∷◌, ◌++◌, sym, ap, ◌∙◌, append_assoc}
use Rattle.std.specs.List.{flat_map}
use Rattle.rh_text.specs.declared.sign.Sign.TheVariants.{OpenParen, CloseParen, OpenBrace, CloseBrace}
use Rattle.rh_il_source.specs.declared.word.Word.{Word}
use Rattle.rh_il_source.specs.declared.word.Word.TheVariants.{Sign as SignWord, Name}
use Rattle.rh_il_source.specs.declared.source.Line.{Line}
use Rattle.rh_il_source.specs.declared.source.Source.{Source}
use Rattle.rh_il_source.specs.Source.{locals_words, closed_words, source_words}

pub regroup : (vs ls last : List Word) → vs ++ SignWord OpenBrace ∷ (ls ++ SignWord CloseBrace ∷ last) ≡ ((vs ++ SignWord OpenBrace ∷ ls) ++ SignWord CloseBrace ∷ []) ++ last
regroup vs ls last =
    sym (append_assoc (vs ++ SignWord OpenBrace ∷ ls) (SignWord CloseBrace ∷ []) last ∙ append_assoc vs (SignWord OpenBrace ∷ ls) (SignWord CloseBrace ∷ last))

abbrev source : List ℕ → List (List ℕ) → List Line → Source
source called vars lines = record { name = called; vars = vars; body = lines }

abbrev head : List ℕ → List ℕ → List Word → List Word
head called param words = Name called ∷ SignWord OpenParen ∷ Name param ∷ SignWord CloseParen ∷ words

-- a procedure
pub source_joined : (called param : List ℕ) (names vars : List (List ℕ)) (more lines : List Line) (w0 w1 w2 w3 w4 w5 w6 w7 last : List Word) → vars ≡ param ∷ names → lines ≡ more
    → w0 ≡ Name called ∷ w1 → w1 ≡ SignWord OpenParen ∷ w2 → w2 ≡ Name param ∷ w3 → w3 ≡ SignWord CloseParen ∷ w4
    → w4 ≡ locals_words names ++ w5 → w5 ≡ SignWord OpenBrace ∷ w6 → w6 ≡ flat_map closed_words more ++ w7 → w7 ≡ SignWord CloseBrace ∷ last
    → w0 ≡ source_words (source called vars lines) ++ last
source_joined called param names vars more lines w0 w1 w2 w3 w4 w5 w6 w7 last vars_are lines_are e0 e1 e2 e3 e4 e5 e6 e7 =
    let front : w0 ≡ head called param w4 = e0 ∙ ap (λ ws. Name called ∷ ws) (e1 ∙ ap (λ ws. SignWord OpenParen ∷ ws) (e2 ∙ ap (λ ws. Name param ∷ ws) e3)) in
    let block : w5 ≡ SignWord OpenBrace ∷ (flat_map closed_words more ++ SignWord CloseBrace ∷ last) = e5 ∙ ap (λ ws. SignWord OpenBrace ∷ ws) (e6 ∙ ap (λ ws. flat_map closed_words more ++ ws) e7) in
    let body : w4 ≡ ((locals_words names ++ SignWord OpenBrace ∷ flat_map closed_words more) ++ SignWord CloseBrace ∷ []) ++ last =
    e4 ∙ ap (λ ws. locals_words names ++ ws) block ∙ regroup (locals_words names) (flat_map closed_words more) last in
    front ∙ ap (head called param) body ∙ ap (λ vs. source_words (source called vs more) ++ last) (sym vars_are) ∙ ap (λ ls. source_words (source called vars ls) ++ last) (sym lines_are)
