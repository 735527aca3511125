-- Procedures as a text has them, with names and numbers that can stand in a text of a program.
use Rattle.std.specs.Prelude.{◌≡◌, ℕ, ◌<◌, ◌≤◌, ◌^◌, true, false, List, length}
use Rattle.std.specs.List.{AllByRecursion}
use Rattle.rh_il.specs.Checks.{is_proper}
use Rattle.rh_il_source.specs.declared.source.Operand.{Operand}
use Rattle.rh_il_source.specs.declared.source.Operand.TheVariants.{Var, Num}
use Rattle.rh_il_source.specs.declared.source.Line.{Line}
use Rattle.rh_il_source.specs.declared.source.Line.TheVariants.{Skip, Copy, Address, Load, Compute, Write, New, Call, Goto, If, Return}
use Rattle.rh_il_source.specs.declared.source.Source.{Source}

abbrev pub IsProper : List ℕ → Type 0
IsProper name = is_proper name ≡ true

-- a number has 63 bits, but after `-` it may be 2 ^ 63
abbrev pub OperandFits : Operand → Type 0
OperandFits (Var name) = IsProper name
OperandFits (Num false n) = n < 2 ^ 63
OperandFits (Num true n) = n ≤ 2 ^ 63

-- the names and the operands of a statement fit, and its targets have 32 bits
abbrev pub LineFits : Line → Type 0
LineFits Skip = Unit {0}
LineFits (Copy to from) = IsProper to × OperandFits from
LineFits (Address to of) = IsProper to × IsProper of
LineFits (Load to from) = IsProper to × IsProper from
LineFits (Compute to op left right) = IsProper to × OperandFits left × OperandFits right
LineFits (Write to from) = IsProper to × OperandFits from
LineFits (New to) = IsProper to
LineFits (Call to called arg) = IsProper to × IsProper called × OperandFits arg
LineFits (Goto to) = to < 2 ^ 32
LineFits (If x taken other) = OperandFits x × (taken < 2 ^ 32) × (other < 2 ^ 32)
LineFits (Return x) = OperandFits x

-- a procedure has a parameter, and what stands in it fits
pub record SourceFits (p : Source) : Type 0 where
  pub name : IsProper p.name
  pub vars : AllByRecursion IsProper p.vars
  pub param : 0 < length p.vars
  pub lines : AllByRecursion LineFits p.body
