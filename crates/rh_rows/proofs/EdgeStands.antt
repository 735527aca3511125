-- The edges on which a rule speaks of facts are edges of the procedure.
use Rattle.std.proofs.Common.{ℕ, zero, suc, ◌≡◌, ◌+◌, true, false, List, [], ◌∷◌, Option, Some, None, inl, inr, refl, sym, subst, arith}
use Rattle.std.specs.Option.{option_map_or}
use Rattle.std.specs.Prelude.{◌==◌, slice_get}
use Rattle.std.proofs.lemmas.Bool.{false≢true}
use Rattle.std.proofs.lemmas.Option.{same_Some}
use Rattle.rh_il.specs.declared.program.Edge.{Edge}
use Rattle.rh_il.specs.declared.program.Node.{Node}
use Rattle.rh_il.specs.declared.program.Node.TheVariants.{Entry as AtEntry, At}
use Rattle.rh_il.specs.declared.program.Proc.{Proc}
use Rattle.rh_il.specs.declared.program.Slot.{Slot}
use Rattle.rh_il.specs.declared.program.Slot.TheVariants.{Out, Then, Else}
use Rattle.rh_il.specs.declared.program.Stmt.{Stmt}
use Rattle.rh_il.specs.declared.program.Stmt.TheVariants.{If as AnIf, Return as AReturn}
use Rattle.rh_il.specs.Flow.{edge_target, edges_behind, edges_from, edges_of}
use Rattle.rh_rule.specs.declared.rule.Form.{Form}
use Rattle.rh_rule.specs.declared.rule.Form.TheVariants.{Entry, If, Return}
use Rattle.rh_rule.specs.Shapes.{leaves_by}
use Rattle.rh_domain.specs.Binding.{Binding}
use Rattle.rh_ground.specs.Instance.{matches_at, matches_entry}
use Rattle.rh_ground.specs.Match.{matches}
use Rattle.rh_ground.specs.Rows.{edges_before}
use Rattle.rh_ground.proofs.Members.{IsItem}
use Rattle.rh_rows.proofs.Items.{in_back, in_front, item_of_filter}

-- a way out of a pattern is one of what it matches
leaves : (binding : Binding) (pattern : Form) (stmt : Stmt) (number : ℕ) (slot : Slot) → matches binding pattern stmt ≡ true → leaves_by pattern slot ≡ true
    → IsItem (record { node = At number; slot = slot }) (edges_from stmt number)
leaves binding pattern (AnIf condition taken other) number Then matched left = inl refl
leaves binding pattern (AnIf condition taken other) number Else matched left = inr (inl refl)
leaves binding (If cond) (AnIf condition taken other) number Out matched left = absurd (false≢true left)
leaves binding pattern (AnIf condition taken other) number Out matched left = absurd (false≢true matched)
leaves binding (Return value) (AReturn base) number slot matched left = absurd (false≢true left)
leaves binding pattern (AReturn base) number slot matched left = absurd (false≢true matched)
leaves binding pattern stmt number Out matched left = inl refl
leaves binding (If cond) stmt number slot matched left = absurd (false≢true matched)
leaves binding pattern stmt number slot matched left = absurd (false≢true left)

edge_behind : (edge : Edge) (body : List Stmt) (from k : ℕ) (stmt : Stmt) → slice_get body k ≡ Some stmt → IsItem edge (edges_from stmt (from + k)) → IsItem edge (edges_behind body from)
edge_behind edge [] from k stmt read there = absurd cc
edge_behind edge (first ∷ body) from zero stmt read there =
    let number : from + 0 ≡ from = omega arith in
    in_front edge (edges_from first from) (edges_behind body (from + 1))
    (subst (λ s. IsItem edge (edges_from s from)) (sym (same_Some first stmt read)) (subst (λ n. IsItem edge (edges_from stmt n)) number there))
edge_behind edge (first ∷ body) from (suc k) stmt read there =
    let number : from + suc k ≡ (from + 1) + k = omega arith in
    in_back edge (edges_from first from) (edges_behind body (from + 1))
    (edge_behind edge body (from + 1) k stmt read (subst (λ n. IsItem edge (edges_from stmt n)) number there))

entry_leaves : (binding : Binding) (proc : Proc) (pattern : Form) (slot : Slot) → matches_entry binding pattern ≡ true → leaves_by pattern slot ≡ true
    → IsItem (record { node = AtEntry; slot = slot }) (edges_of proc)
entry_leaves binding proc (Entry param) Out matched left = inl refl
entry_leaves binding proc (Entry param) slot matched left = absurd (false≢true left)
entry_leaves binding proc pattern slot matched left = absurd (false≢true matched)

-- the edge by which an instance's conclusion leaves the node
pub edge_leaves : (proc : Proc) (binding : Binding) (pattern : Form) (node : Node) (slot : Slot) → matches_at proc binding pattern node ≡ true → leaves_by pattern slot ≡ true
    → IsItem (record { node = node; slot = slot }) (edges_of proc)
edge_leaves proc binding pattern AtEntry slot matched left = entry_leaves binding proc pattern slot matched left
edge_leaves proc binding pattern (At number) slot matched left = by (slice_get proc.body number) refl matched
  where
    by : (found : Option Stmt) → slice_get proc.body number ≡ found → option_map_or (matches binding pattern) found false ≡ true → IsItem (record { node = At number; slot = slot }) (edges_of proc)
    by None read is = absurd (false≢true is)
    by (Some stmt) read is =
        (let same : number ≡ 0 + number = omega arith in
        inr (edge_behind (record { node = At number; slot = slot }) proc.body 0 number stmt read
        (subst (λ k. IsItem (record { node = At number; slot = slot }) (edges_from stmt k)) same (leaves binding pattern stmt number slot is left))))

-- and those by which its premises enter it
pub edge_enters : (proc : Proc) (node : Node) (edge : Edge) → IsItem edge (edges_before proc node) → IsItem edge (edges_of proc)
edge_enters proc AtEntry edge there = absurd there
edge_enters proc (At number) edge there = item_of_filter (λ e. option_map_or (λ target. target == number) (edge_target proc e) false) edge (edges_of proc) there
