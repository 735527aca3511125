-- What a step leaves as it is: a cell below the variables of the top frame to which no cell points.
use Rattle.std.proofs.Common.{ℕ, zero, suc, ℤ, pos, ◌≡◌, ◌≢◌, ◌+◌, ◌<◌, ◌≤◌, true, false, if◌then◌else◌, List, [], ◌∷◌, ◌++◌, length, Option, Some, None, slice_set, replicate, refl, sym, ◌∙◌, subst, arith}
use Rattle.std.specs.Ordering.{int_eq}
use Rattle.std.proofs.lemmas.Bool.{and_parts, and_from, both_ways, eq-eqb, ne_eqb, not-true, not_from_false}
use Rattle.std.proofs.lemmas.Option.{same_Some}
use Rattle.std.proofs.lemmas.List.{get_or_append_left, get_or-set_other, length-append, length-set}
use Rattle.rh_il.specs.declared.program.Base.{Base}
use Rattle.rh_il.specs.declared.program.Base.TheVariants.{Var, Num as Literal}
use Rattle.rh_il.specs.declared.program.Proc.{Proc}
use Rattle.rh_il.specs.declared.program.Slot.{Slot}
use Rattle.rh_il.specs.declared.program.Slot.TheVariants.{Out, Then, Else}
use Rattle.rh_il.specs.declared.program.Stmt.{Stmt}
use Rattle.rh_il.specs.declared.program.Stmt.TheVariants.{Skip, Copy, Address, Load, Compute, Write, New, Call, Goto, If, Return}
use Rattle.rh_il.specs.declared.value.Op.{Op}
use Rattle.rh_il.specs.declared.value.Op.TheVariants.{Add, Sub, Mul, Less, Equal}
use Rattle.rh_il.specs.declared.value.Value.{Value}
use Rattle.rh_il.specs.declared.value.Value.TheVariants.{Num, Ptr}
use Rattle.rh_il.specs.Op.{apply}
use Rattle.rh_il.specs.Value.{value_eq}
use Rattle.rh_il_step.specs.declared.frame.Frame.{Frame}
use Rattle.rh_il_step.specs.State.{State, IsHeld, cell}
use Rattle.rh_il_step.specs.Step.{Outcome, Went, base_value, branches, computes, executed, goes_on, loads, past, sets, writes}
use Rattle.rh_il_step.proofs.Held.{AreHeld}
use Rattle.rh_term.specs.Store.{is_unheld}
use Rattle.rh_lift.specs.Local.{stays}

-- ---- cells to which no cell points

-- the value is no pointer to the location
abbrev pub IsApart : ℕ → Value → Type 0
IsApart location value = value_eq value (Ptr location) ≡ false

-- no cell points to the location
abbrev pub IsUnheld : List Value → ℕ → Type 0
IsUnheld cells location = is_unheld cells (Ptr location) ≡ true

unheld_read : (cells : List Value) (location at : ℕ) → IsUnheld cells location → IsApart location (cell cells at)
unheld_read [] location at unheld = refl
unheld_read (c ∷ cells) location zero unheld = not-true _ (and_parts _ _ unheld).0
unheld_read (c ∷ cells) location (suc at) unheld = unheld_read cells location at (and_parts _ _ unheld).1

unheld_set : (cells : List Value) (at : ℕ) (value : Value) (location : ℕ) → IsUnheld cells location → IsApart location value → IsUnheld (slice_set cells at value) location
unheld_set [] at value location unheld apart = unheld
unheld_set (c ∷ cells) zero value location unheld apart = and_from _ _ (not_from_false _ apart) (and_parts _ _ unheld).1
unheld_set (c ∷ cells) (suc at) value location unheld apart =
    and_from _ _ (and_parts _ _ unheld).0 (unheld_set cells at value location (and_parts _ _ unheld).1 apart)

pub unheld_first : (value : Value) (cells : List Value) (location : ℕ) → IsApart location value → IsUnheld cells location → IsUnheld (value ∷ cells) location
unheld_first value cells location apart unheld = and_from _ _ (not_from_false _ apart) unheld

pub unheld_append : (cells more : List Value) (location : ℕ) → IsUnheld cells location → IsUnheld more location → IsUnheld (cells ++ more) location
unheld_append [] more location unheld rest = rest
unheld_append (c ∷ cells) more location unheld rest =
    and_from _ _ (and_parts _ _ unheld).0 (unheld_append cells more location (and_parts _ _ unheld).1 rest)

pub unheld_zeros : (count location : ℕ) → IsUnheld (replicate count (Num (pos 0))) location
unheld_zeros zero location = refl
unheld_zeros (suc count) location = unheld_zeros count location

-- what is held in a store points to no location past it
pub apart_past : (size location : ℕ) (value : Value) → IsHeld size value → size ≤ location → IsApart location value
apart_past size location (Num number) held past = refl
apart_past size location (Ptr at) held past = ne_eqb at location (λ same. omega (arith, held, past, same))

pub unheld_past : (size location : ℕ) (cells : List Value) → AreHeld size cells → size ≤ location → IsUnheld cells location
unheld_past size location [] held past = refl
unheld_past size location (c ∷ cells) held past =
    unheld_first c cells location (apart_past size location c (held 0) past) (unheld_past size location cells (λ k. held (suc k)) past)

-- ---- stores of which the one comes from the other

-- the value points to no location below a limit to which no cell points
abbrev pub IsOld : ℕ → List Value → Value → Type 0
IsOld limit cells value = (location : ℕ) → location < limit → IsUnheld cells location → IsApart location value

-- a cell below a limit to which no cell points stays as it is, and still no cell points to it
pub record KeepsBelow (limit : ℕ) (cells new : List Value) : Type 0 where
  pub longer : length cells ≤ length new
  pub same : (location : ℕ) → location < limit → IsUnheld cells location → cell new location ≡ cell cells location
  pub unheld : (location : ℕ) → location < limit → IsUnheld cells location → IsUnheld new location

pub keeps_lower : (low high : ℕ) (cells new : List Value) → low ≤ high → KeepsBelow high cells new → KeepsBelow low cells new
keeps_lower low high cells new le keeps = record {
  longer = keeps.longer;
  same = λ location below. keeps.same location (omega (arith, le, below));
  unheld = λ location below. keeps.unheld location (omega (arith, le, below));
}

keeps_on : (limit : ℕ) (cells : List Value) → KeepsBelow limit cells cells
keeps_on limit cells = record { longer = omega arith; same = λ location below unheld. refl; unheld = λ location below unheld. unheld }

keeps_then : (limit : ℕ) (cells between new : List Value) → KeepsBelow limit cells between → KeepsBelow limit between new → KeepsBelow limit cells new
keeps_then limit cells between new first second = record {
  longer = omega (arith, first.longer, second.longer);
  same = λ location below unheld. second.same location below (first.unheld location below unheld) ∙ first.same location below unheld;
  unheld = λ location below unheld. second.unheld location below (first.unheld location below unheld);
}

-- a cell is set to which a cell points, or that is not below the limit
pub keeps_set : (limit : ℕ) (cells : List Value) (at : ℕ) (value : Value) → ((location : ℕ) → location < limit → IsUnheld cells location → location ≢ at) → IsOld limit cells value
    → KeepsBelow limit cells (slice_set cells at value)
keeps_set limit cells at value elsewhere old =
    let size : length (slice_set cells at value) ≡ length cells = length-set cells at value in
    record {
      longer = omega (arith, size);
      same = λ location below unheld. get_or-set_other cells at location value (Num (pos 0)) (elsewhere location below unheld);
      unheld = λ location below unheld. unheld_set cells at value location unheld (old location below unheld);
    }

pub keeps_append : (limit : ℕ) (cells more : List Value) → limit ≤ length cells → ((location : ℕ) → location < limit → IsUnheld cells location → IsUnheld more location)
    → KeepsBelow limit cells (cells ++ more)
keeps_append limit cells more inside old =
    let size : length (cells ++ more) ≡ length cells + length more = length-append cells more in
    record {
      longer = omega (arith, size);
      same = λ location below unheld. get_or_append_left cells more (Num (pos 0)) location (omega (arith, inside, below));
      unheld = λ location below unheld. unheld_append cells more location unheld (old location below unheld);
    }

-- ---- what a step writes

-- an operand is a number, or the store held it
pub base_apart : (base : ℕ) (cells : List Value) (operand : Base) (location : ℕ) → IsUnheld cells location → IsApart location (base_value cells base operand)
base_apart base cells (Var x) location unheld = unheld_read cells location (base + x) unheld
base_apart base cells (Literal c) location unheld = refl

number_apart : (location : ℕ) (number : ℤ) (value : Value) → ◌≡◌ {A = Option Value} (Some (Num number)) (Some value) → IsApart location value
number_apart location number value is = subst (IsApart location) (same_Some (Num number) value is) refl

-- what an operator gives is a number
computed_apart : (location : ℕ) (op : Op) (a b value : Value) → apply op a b ≡ Some value → IsApart location value
computed_apart location Add (Num a) (Num b) value is = number_apart location _ value is
computed_apart location Sub (Num a) (Num b) value is = number_apart location _ value is
computed_apart location Mul (Num a) (Num b) value is = number_apart location _ value is
computed_apart location Less (Num a) (Num b) value is = number_apart location _ value is
computed_apart location Equal a b value is = number_apart location _ value is
computed_apart location Add (Num a) (Ptr b) value is = cc
computed_apart location Sub (Num a) (Ptr b) value is = cc
computed_apart location Mul (Num a) (Ptr b) value is = cc
computed_apart location Less (Num a) (Ptr b) value is = cc
computed_apart location Add (Ptr a) b value is = cc
computed_apart location Sub (Ptr a) b value is = cc
computed_apart location Mul (Ptr a) b value is = cc
computed_apart location Less (Ptr a) b value is = cc

-- the frame goes on in its procedure, over a store that comes from the one that there was
pub record WentOn (top : Frame) (below : List Frame) (number : ℕ) (cells : List Value) (next : State) : Type 0 where
  pub slot : Slot
  pub new : List Value
  pub next_is : next ≡ record { frames = past top number slot ∷ below; cells = new }
  pub keeps : KeepsBelow top.base cells new

module _ (top : Frame) (below : List Frame) (number : ℕ) (cells : List Value) where
  abbrev GoesOn : Outcome → Type 0
  GoesOn outcome = (next : State) → outcome ≡ Went next → WentOn top below number cells next

  went : (slot : Slot) (new : List Value) → KeepsBelow top.base cells new → GoesOn (Went (record { frames = past top number slot ∷ below; cells = new }))
  went slot new keeps next told = record { slot = slot; new = new; next_is = same_state _ next told; keeps = keeps }
    where
      same_state : (state other : State) → Went state ≡ Went other → other ≡ state
      same_state state other is = cc

  stayed : GoesOn (goes_on top below number cells)
  stayed = went Out cells (keeps_on top.base cells)

  set_variable : (to : ℕ) (value : Value) → IsOld top.base cells value → GoesOn (sets top below number cells to value)
  set_variable to value old =
      went Out _ (keeps_set top.base cells (top.base + to) value (λ location low unheld same. omega (arith, low, same)) old)

  loaded : (to : ℕ) (address : Value) → GoesOn (loads top below number cells to address)
  loaded to (Num a) next told = cc
  loaded to (Ptr location) next told = set_variable to (cell cells location) (λ l low unheld. unheld_read cells l location unheld) next told

  computed : (to : ℕ) (value : Option Value) → ((v : Value) → value ≡ Some v → IsOld top.base cells v) → GoesOn (computes top below number cells to value)
  computed to None old next told = cc
  computed to (Some value) old next told = set_variable to value (old value refl) next told

  -- a pointer that the store holds leads to no location to which no cell points
  written : (address value : Value) → IsOld top.base cells address → IsOld top.base cells value → GoesOn (writes top below number cells address value)
  written (Num a) value from old next told = cc
  written (Ptr at) value from old next told =
      went Out _ (keeps_set top.base cells at value (λ location low unheld same. both_ways _ (from location low unheld) (eq-eqb at location (sym same))) old) next told

  branched : (condition : Value) → GoesOn (branches top below number cells condition)
  branched (Ptr location) next told = cc
  branched (Num condition) next told = went (if int_eq condition (pos 0) then Else else Then) cells (keeps_on top.base cells) next told

  renewed : (to : ℕ) → top.base ≤ length cells → (procs : List Proc) → GoesOn (executed procs top below cells number (New to))
  renewed to inside procs =
      let longer : List Value = cells ++ Num (pos 0) ∷ [] in
      let first : KeepsBelow top.base cells longer = keeps_append top.base cells (Num (pos 0) ∷ []) inside (λ location low unheld. refl) in
      let second : KeepsBelow top.base longer (slice_set longer (top.base + to) (Ptr (length cells))) =
      keeps_set top.base longer (top.base + to) (Ptr (length cells)) (λ location low unheld same. omega (arith, low, same))
      (λ location low unheld. ne_eqb (length cells) location (λ same. omega (arith, low, inside, same))) in
      went Out _ (keeps_then top.base cells longer _ first second)

  -- a step of a statement that neither calls nor returns
  pub stays_on : (procs : List Proc) (stmt : Stmt) → stays stmt ≡ true → top.base ≤ length cells → GoesOn (executed procs top below cells number stmt)
  stays_on procs Skip plain inside = stayed
  stays_on procs (Goto to) plain inside = stayed
  stays_on procs (Copy to from) plain inside = set_variable to (base_value cells top.base from) (λ location low unheld. base_apart top.base cells from location unheld)
  stays_on procs (Address to of) plain inside =
      set_variable to (Ptr (top.base + of)) (λ location low unheld. ne_eqb (top.base + of) location (λ same. omega (arith, low, same)))
  stays_on procs (Load to from) plain inside = loaded to (cell cells (top.base + from))
  stays_on procs (Compute to op left right) plain inside =
      computed to (apply op (base_value cells top.base left) (base_value cells top.base right))
      (λ v told location low unheld. computed_apart location op (base_value cells top.base left) (base_value cells top.base right) v told)
  stays_on procs (Write to from) plain inside =
      written (cell cells (top.base + to)) (base_value cells top.base from) (λ l low unheld. unheld_read cells l (top.base + to) unheld) (λ location low unheld. base_apart top.base cells from location unheld)
  stays_on procs (New to) plain inside = renewed to inside procs
  stays_on procs (If cond taken other) plain inside = branched (base_value cells top.base cond)
  stays_on procs (Call to callee arg) plain inside = absurd cc
  stays_on procs (Return value) plain inside = absurd cc
