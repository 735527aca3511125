-- An answer that keeps to the text is the only one, but for want of memory.
use Rattle.std.proofs.Common.{◌≡◌, ◌≢◌, ◌⊎◌, inl, inr, ℕ, List, Ok, Err, refl, sym, subst}
use Rattle.std.specs.Prelude.{Result, IfOk, IfErr}
use Rattle.std.specs.Result.{IsErrAnd}
use Rattle.rh_text.specs.declared.token.LexFault.{LexFault}
use Rattle.rh_text.specs.declared.token.LexFault.TheVariants.{BadByte, NumberRange, LongName, NoMemory as NoLexMemory}
use Rattle.rh_text.specs.Tokens.{FaultsAs as FaultsInTokens}
use Rattle.rh_il.specs.declared.program.Proc.{Proc}
use Rattle.rh_il_text.specs.declared.fault.ReadFault.{ReadFault}
use Rattle.rh_il_text.specs.declared.fault.ReadFault.TheVariants.{Lex, Syntax, Unknown, Program, NoMemory}
use Rattle.rh_il_text.specs.Program.{IsText, FaultsAs, IsProgram, IsFault, of_lexer}
use Rattle.rh_il_text.proofs.OneReading.{one_program, texts_have_no_fault, one_fault}

-- a fault is another one than want of memory, or that
memory_or : (fault : ReadFault) → (fault ≢ NoMemory) ⊎ (fault ≡ NoMemory)
memory_or NoMemory = inr refl
memory_or (Lex fault) = inl (λ e. cc)
memory_or (Syntax at) = inl (λ e. cc)
memory_or (Unknown at) = inl (λ e. cc)
memory_or (Program fault) = inl (λ e. cc)

module _ (text : List ℕ) where
  same_fault : (fault other : ReadFault) → FaultsAs text fault → fault ≢ NoMemory → FaultsAs text other → (other ≢ NoMemory) ⊎ (other ≡ NoMemory) → (other ≡ fault) ⊎ (other ≡ NoMemory)
  same_fault fault other is some told (inr memory) = inr memory
  same_fault fault other is some told (inl another) = inl (one_fault text other fault told is another some)

  -- the program is the text's, and so is the fault
  pub record Keeps (result : Result (List Proc) ReadFault) : Type 0 where
    pub program : IfOk result (IsText text)
    pub fault : IfErr result (FaultsAs text)

  pub only_program : (result : Result (List Proc) ReadFault) → Keeps result → (procs : List Proc) → IsText text procs → IsProgram procs result
  only_program (Ok read) keeps procs is = one_program text read procs keeps.program is
  only_program (Err fault) keeps procs is = texts_have_no_fault text procs fault is keeps.fault

  pub only_fault : (result : Result (List Proc) ReadFault) → Keeps result → (fault : ReadFault) → FaultsAs text fault → fault ≢ NoMemory → IsFault fault result
  only_fault (Ok read) keeps fault is some = some (texts_have_no_fault text read fault keeps.program is)
  only_fault (Err other) keeps fault is some = same_fault fault other is some keeps.fault (memory_or other)

  -- a fault that is passed on
  pub passed : (result : Result (List Proc) ReadFault) (fault : ReadFault) → IsErrAnd result (λ told. told ≡ fault) → FaultsAs text fault → Keeps result
  passed (Ok read) fault told is = absurd told
  passed (Err other) fault told is = record { program = tt; fault = subst (FaultsAs text) (sym told) is }

  of_lexer_faults : (fault : LexFault) → FaultsInTokens text fault → FaultsAs text (of_lexer fault)
  of_lexer_faults (BadByte at) is = is
  of_lexer_faults (NumberRange at) is = is
  of_lexer_faults (LongName at) is = is
  of_lexer_faults NoLexMemory is = tt

  -- a fault of the lexer
  pub lexed : (told : ReadFault) (fault : LexFault) → told ≡ of_lexer fault → FaultsInTokens text fault → Keeps (Err told)
  lexed told fault same is = record { program = tt; fault = subst (FaultsAs text) (sym same) (of_lexer_faults fault is) }
