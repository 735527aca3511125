-- No location of a store holds a value where each cell holds another, and the locations past it do.
use Rattle.std.proofs.Common.{◌≡◌, Bool, true, false, ◌&&◌, List, [], ◌∷◌, refl, ap, ◌∙◌}
use Rattle.std.specs.Prelude.{not}
use Rattle.std.specs.List.{list_all}
use Rattle.rh_il.specs.Value.{value_eq}
use Rattle.rh_il.specs.declared.value.Value.{Value}
use Rattle.rh_term.specs.Store.{is_unheld, nothing}

and_grouped : (a b c : Bool) → (a && (b && c)) ≡ ((a && b) && c)
and_grouped true b c = refl
and_grouped false b c = refl

pub unheld_all : (store : List Value) (value : Value) → is_unheld store value ≡ (list_all (λ held. not (value_eq held value)) store && not (value_eq nothing value))
unheld_all [] value = refl
unheld_all (held ∷ store) value =
    ap (λ rest. not (value_eq held value) && rest) (unheld_all store value)
    ∙ and_grouped (not (value_eq held value)) (list_all (λ other. not (value_eq other value)) store) (not (value_eq nothing value))
