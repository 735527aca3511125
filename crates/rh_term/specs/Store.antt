-- Stores: lists of values, which read as 0 past their end.
use Rattle.std.specs.Prelude.{ℕ, zero, suc, pos, Bool, true, not, ◌&&◌, List, [], ◌∷◌, slice_index_or}
use Rattle.rh_il.specs.Value.{value_eq}
use Rattle.rh_il.specs.declared.value.Value.{Value}
use Rattle.rh_il.specs.declared.value.Value.TheVariants.{Num, Ptr}

abbrev pub nothing : Value
nothing = Num (pos 0)

-- what a location holds
abbrev pub read : List Value → ℕ → Value
read store location = slice_index_or store location nothing

-- the store with a value written at a location
abbrev pub write : List Value → ℕ → Value → List Value
write [] zero value = value ∷ []
write [] (suc location) value = nothing ∷ write [] location value
write (held ∷ store) zero value = value ∷ store
write (held ∷ store) (suc location) value = held ∷ write store location value

-- the stores hold the same at each location
abbrev pub same_store : List Value → List Value → Bool
same_store [] [] = true
same_store (a ∷ left) [] = value_eq a nothing && same_store left []
same_store [] (b ∷ right) = value_eq nothing b && same_store [] right
same_store (a ∷ left) (b ∷ right) = value_eq a b && same_store left right

-- no location of the store holds the value
abbrev pub is_unheld : List Value → Value → Bool
is_unheld [] value = not (value_eq nothing value)
is_unheld (held ∷ store) value = not (value_eq held value) && is_unheld store value

-- what the store holds at an address, which is 0 at a number
abbrev pub select : List Value → Value → Value
select store (Num number) = nothing
select store (Ptr location) = read store location

-- the store with a value written at an address, which is the store itself at a number
abbrev pub update : List Value → Value → Value → List Value
update store (Num number) value = store
update store (Ptr location) value = write store location value
