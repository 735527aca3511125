-- The test of a listed system says what a system promises.
use Rattle.std.specs.Prelude.{ℕ, ◌≡◌, List, true}
use Rattle.std.specs.List.{list_all}
use Rattle.std.proofs.lemmas.List.Sums.{AllPass-from_list_all}
use Rattle.rh_system.specs.declared.system.Row.{Row}
use Rattle.rh_system.specs.Bits.{bits_in}
use Rattle.rh_system.specs.Rows.{IsCovered}

pub covered_by_all : (full : List ℕ) (rows : List Row) → list_all (λ row. bits_in full row.bit) rows ≡ true → IsCovered full rows
covered_by_all full rows all = AllPass-from_list_all (λ row. bits_in full row.bit) rows all
