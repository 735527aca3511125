-- The form of a tree, told by its nodes with the numbers of their children.
use Rattle.std.specs.Prelude.{◌≡◌, ℕ, ◌+◌, nat_le, List, [], ◌∷◌, ◌++◌, Option, Some, None, IsSome, if◌then◌else◌}
use Rattle.std.specs.Prelude.{replicate}
use Rattle.rh_log.specs.declared.log.LogNode.{LogNode}

-- the depths at which nodes are awaited, the first of them next, after one more node with so many
-- children: these come in its place, one deeper. No node is deeper than 512.
abbrev pub awaited_after : List ℕ → ℕ → Option (List ℕ)
awaited_after [] children = None
awaited_after (depth ∷ depths) children = if nat_le depth 512 then Some (replicate children (depth + 1) ++ depths) else None

-- those after some nodes
abbrev pub awaited : List ℕ → List LogNode → Option (List ℕ)
awaited depths [] = Some depths
awaited depths (node ∷ nodes) = elim (awaited_after depths node.children) as (λ _. Option (List ℕ)) [ None ↦ None | Some after ↦ awaited after nodes ]

-- the root is awaited
abbrev pub root : List ℕ
root = 1 ∷ []

-- the nodes are those of a tree, each with all below it before the next
abbrev pub IsTree : List LogNode → Type 0
IsTree nodes = awaited root nodes ≡ Some []

-- a tree may begin with the nodes
abbrev pub BeginsTree : List LogNode → Type 0
BeginsTree nodes = IsSome (awaited root nodes)
