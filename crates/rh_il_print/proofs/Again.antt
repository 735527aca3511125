-- A printed program is a text of that program.
use Rattle.std.proofs.Common.{◌≡◌, ℕ, true, List, [], None, sym, ◌∙◌, subst, append-nil}
use Rattle.std.specs.List.{AllByRecursion, list_all, flat_map}
use Rattle.rh_list.specs.Each.{Each}
use Rattle.rh_text.specs.Pieces.{spelled, tokens_from}
use Rattle.rh_text.proofs.Printing.{printed_tokens}
use Rattle.rh_il.specs.declared.program.Proc.{Proc}
use Rattle.rh_il.specs.Checks.{has_proper_names, program_fault}
use Rattle.rh_il.specs.Numbers.{HasNumbers}
use Rattle.rh_il_source.specs.Grammar.{productions, program}
use Rattle.rh_il_source.specs.Words.{words_of, classes_of}
use Rattle.rh_il_source.specs.Source.{file_words}
use Rattle.rh_il_print.specs.Text.{program_text}
use Rattle.rh_il_text.specs.Program.{Spells, IsText}
use Rattle.rh_grammar.specs.Derivation.{Derivable}
use Rattle.rh_il_print.proofs.Fits.{SourceFits}
use Rattle.rh_il_print.proofs.Naming.{sources_of}
use Rattle.rh_il_print.proofs.Checked.{procs_checked, each_checked}
use Rattle.rh_il_print.proofs.ProcsBack.{procs_back, none_missing, sources_fit}
use Rattle.rh_il_print.proofs.Derived.{words_derivable}
use Rattle.rh_il_print.proofs.PieceText.{program_pieces, program_bytes}
use Rattle.rh_il_print.proofs.PieceWords.{words_said, sources_said}
use Rattle.rh_il_print.proofs.PieceRuns.{sources_are}

pieces_spell : (procs : List Proc) → AllByRecursion SourceFits (sources_of procs) → Spells (flat_map spelled (program_pieces procs)) (tokens_from 0 (program_pieces procs)) (sources_of procs)
pieces_spell procs fits =
    let pieces = program_pieces procs in
    let words : words_of (flat_map spelled pieces) (tokens_from 0 pieces) ≡ file_words (sources_of procs) =
    words_said pieces ∙ sources_said (sources_of procs) [] fits ∙ append-nil (file_words (sources_of procs)) in
    record {
      are_tokens = printed_tokens pieces (sources_are [] (sources_of procs) [] fits tt);
      derivable = subst (λ words. Derivable productions program (classes_of words)) (sym words) (words_derivable (sources_of procs) fits);
      spelled = words;
    }

-- The text is printed from a program whose names may stand in a text and whose numbers are of 64 bits.
-- It is a text of the program.
pub printed_is_text : (procs : List Proc) → list_all has_proper_names procs ≡ true → program_fault procs ≡ None → Each HasNumbers procs → IsText (program_text procs) procs
printed_is_text procs named passes fits =
    let checked = procs_checked procs passes in
    let each = each_checked procs named passes fits in
    subst (λ (text : List ℕ). IsText text procs) (program_bytes procs)
    record {
      tokens = tokens_from 0 (program_pieces procs);
      sources = sources_of procs;
      spells = pieces_spell procs (sources_fit procs checked each);
      known = none_missing procs checked each;
      told = procs_back procs checked each;
      passes = passes;
    }
