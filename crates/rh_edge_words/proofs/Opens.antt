-- A new table and its seat.
use Rattle.std.proofs.Common.{◌≡◌, ℕ, ◌^◌, ◌<◌, zero, suc, List, [], ◌∷◌, ◌++◌, length, get_or, refl, sym, subst, arith}
use Rattle.std.specs.Int.RustNames.{count_ones}
use Rattle.std.proofs.lemmas.List.{length-replicate}
use Rattle.std.proofs.Math.Seq.{take-append_seam}
use Rattle.std.proofs.lemmas.Nat.{pow_pos}
use Rattle.atomic_table.specs.Table.{opening}
use Rattle.rh_system.specs.declared.system.Row.{Row}
use Rattle.rh_system.specs.Rows.{IsCovered}
use Rattle.rh_system.proofs.OneRound.{full_holds}
use Rattle.rh_core.specs.WordsLaw.{KeepsWords}
use Rattle.rh_core.proofs.Lists.{by_copies, none_of_copies}
use Rattle.rh_core.proofs.Keeps.{opening_keeps}
use Rattle.rh_edge_words.specs.declared.view.View.{View}
use Rattle.rh_edge_words.specs.Meaning.{Meaning}
use Rattle.rh_edge_words.specs.Views.{first_view, spent_view}
use Rattle.rh_edge_words.specs.Rule.{core_with, IsTallied, KeepsTable}
use Rattle.rh_edge_words.proofs.Tallies.{none_bits, spent_tallied}
use Rattle.rh_edge_words.specs.Seated.{IsSeat}

first_tallied : (full : List ℕ) → IsTallied full (first_view full)
first_tallied full = record {
  loads = λ h. length-replicate (length full) 0;
  no_loads = λ h. absurd (omega arith);
  fit = λ k. by_copies (λ (x : ℕ). x < 2 ^ 64) (length full) 0 0 k (pow_pos 64) (pow_pos 64);
  counted = sym (none_of_copies count_ones (length full) 0 none_bits);
}

tallied_at : (full : List ℕ) (id : ℕ) → IsTallied full (get_or (first_view full ∷ []) id spent_view)
tallied_at full zero = first_tallied full
tallied_at full (suc id) = spent_tallied full

pub opens : {S : Type 0} (m : Meaning) (dirty : List ℕ) → IsCovered m.full m.rows → KeepsTable {S = S} m (opening (m.full ++ dirty) [] (first_view m.full))
opens {S} m dirty covered = record {
  core = subst (λ (ws : List ℕ). KeepsWords m.full m.rows (core_with ws (first_view m.full ∷ []))) (sym (take-append_seam m.full dirty)) (opening_keeps 1 covered);
  stakes = refl;
  tallied = tallied_at m.full;
}

pub first_seat : {A : Type 0} (m : Meaning) → IsCovered m.full m.rows → length m.full < 2 ^ 32 → IsSeat m {A = A} (first_view m.full) [] m.full 0 16
first_seat {A} m covered few = record {
  seated = record {
    live = omega arith;
    most = omega arith;
    as_long = refl;
    credits_as_long = length-replicate (length m.full) 0;
    loads_as_long = length-replicate (length m.full) 0;
    credits_fit = λ k. by_copies (λ (x : ℕ). x < 2 ^ 64) (length m.full) 0 0 k (pow_pos 64) (pow_pos 64);
    counted = sym (none_of_copies count_ones (length m.full) 0 none_bits);
    few = few;
    greatest = full_holds m.full m.rows covered;
    within = λ k place. omega arith;
  };
  empty = refl;
  copied = refl;
  counted = refl;
  staked = refl;
}

-- a name has the full words and rows of a system
pub covered_as : (m : Meaning) (full : List ℕ) (rows : List Row) → m.full ≡ full → m.rows ≡ rows → IsCovered full rows → IsCovered m.full m.rows
covered_as m full rows p q covered = subst (λ (f : List ℕ). IsCovered f m.rows) (sym p) (subst (λ (r : List Row). IsCovered full r) (sym q) covered)

-- the seat as the table gives it
pub seat_as : {A : Type 0} (m : Meaning) (v : View) (carried : List A) (copy : List ℕ) → IsSeat m {A = A} (first_view m.full) [] m.full 0 16 → v ≡ first_view m.full → carried ≡ [] → copy ≡ m.full → IsSeat m v carried copy 0 16
seat_as {A} m v carried copy seat p q r =
    subst (λ (u : View). IsSeat m u carried copy 0 16) (sym p) (subst (λ (x : List A). IsSeat m (first_view m.full) x copy 0 16) (sym q) (subst (λ (x : List ℕ). IsSeat m {A = A} (first_view m.full) [] x 0 16) (sym r) seat))
