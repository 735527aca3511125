-- The standard rules: the bytes of a rule file.
use Rattle.std.specs.Prelude.{ℕ, List, [], ◌∷◌, ◌++◌, codes}
use Rattle.std.specs.List.{flat_map}

unfoldable pub standard_lines : List (List ℕ)
standard_lines =
    codes "rhodium 1;"
    ∷ codes "fact con(var X, const C) means X == C;"
    ∷ codes "fact cpy(var X, var Y) means X == Y;"
    ∷ codes "fact pts(var P, var X) means P == &X;"
    ∷ codes "fact npt(var P, var X) means P != &X;"
    ∷ codes "fact una(var X) means unaliased(X);"
    ∷ codes "fact sum(var X, var A, var B) means X == (A + B);"
    ∷ codes "rule con_entry(var A, var X) { entry(A) when A != X => con(X, 0) @ out }"
    ∷ codes "rule una_entry(var A, var X) { entry(A) => una(X) @ out }"
    ∷ codes "rule npt_entry(var A, var P, var X) { entry(A) => npt(P, X) @ out }"
    ∷ codes "rule con_gen(var X, const C) { X := C => con(X, C) @ out }"
    ∷ codes "rule con_skip(var X, const C) { skip when con(X, C) @ in => con(X, C) @ out }"
    ∷ codes "rule con_goto(var X, const C) { goto when con(X, C) @ in => con(X, C) @ out }"
    ∷ codes "rule con_then(var X, const C) { if _ when con(X, C) @ in => con(X, C) @ then }"
    ∷ codes "rule con_else(var X, const C) { if _ when con(X, C) @ in => con(X, C) @ else }"
    ∷ codes "rule con_zero(var X) { if X => con(X, 0) @ else }"
    ∷ codes "rule con_any(var X, const C, var Y) { Y := _ when con(X, C) @ in, X != Y => con(X, C) @ out }"
    ∷ codes "rule con_write(var X, const C, var P) { *P := _ when con(X, C) @ in, una(X) @ in => con(X, C) @ out }"
    ∷ codes "rule con_npt(var X, const C, var P) { *P := _ when con(X, C) @ in, npt(P, X) @ in => con(X, C) @ out }"
    ∷ codes "rule con_call(var X, const C, var Z) { Z := call(_) when con(X, C) @ in, una(X) @ in, X != Z => con(X, C) @ out }"
    ∷ codes "rule con_copy(var X, var Y, const C) { X := Y when con(Y, C) @ in => con(X, C) @ out }"
    ∷ codes "rule con_add(var X, var A, var B, const C, const D, const E) { X := A + B when con(A, C) @ in, con(B, D) @ in, E == (C + D) => con(X, E) @ out }"
    ∷ codes "rule una_then(var X) { if _ when una(X) @ in => una(X) @ then }"
    ∷ codes "rule una_else(var X) { if _ when una(X) @ in => una(X) @ else }"
    ∷ codes "rule una_num(var X, var Y, const C) { Y := C when una(X) @ in => una(X) @ out }"
    ∷ codes "rule una_copy(var X, var Y, var A) { Y := A when una(X) @ in => una(X) @ out }"
    ∷ codes "rule una_add(var X, var Y, var A, var B) { Y := A + B when una(X) @ in => una(X) @ out }"
    ∷ codes "rule una_less(var X, var Y, var A, var B) { Y := A < B when una(X) @ in => una(X) @ out }"
    ∷ codes "rule una_addr(var X, var Y, var Z) { Y := &Z when una(X) @ in, X != Z => una(X) @ out }"
    ∷ codes "rule una_load(var X, var Y, var Z) { Y := *Z when una(X) @ in => una(X) @ out }"
    ∷ codes "rule una_write(var X, var P, var A) { *P := A when una(X) @ in => una(X) @ out }"
    ∷ codes "rule una_new(var X, var Y) { Y := new when una(X) @ in => una(X) @ out }"
    ∷ codes "rule una_call(var X, var Z) { Z := call(_) when una(X) @ in => una(X) @ out }"
    ∷ codes "rule npt_any(var P, var X, var Y) { Y := _ when npt(P, X) @ in, P != Y => npt(P, X) @ out }"
    ∷ codes "rule cpy_gen(var X, var Y) { X := Y => cpy(X, Y) @ out }"
    ∷ codes "rule cpy_any(var X, var Y, var Z) { Z := _ when cpy(X, Y) @ in, X != Z, Y != Z => cpy(X, Y) @ out }"
    ∷ codes "rule pts_gen(var P, var X) { P := &X => pts(P, X) @ out }"
    ∷ codes "rule pts_any(var P, var X, var Z) { Z := _ when pts(P, X) @ in, P != Z => pts(P, X) @ out }"
    ∷ codes "rule sum_gen(var X, var A, var B) { X := A + B when X != A, X != B => sum(X, A, B) @ out }"
    ∷ codes "rule sum_any(var X, var A, var B, var Z) { Z := _ when sum(X, A, B) @ in, X != Z, A != Z, B != Z => sum(X, A, B) @ out }"
    ∷ codes "rule add_zero(var X, var A) { X := A + 0 => transform X := A }"
    ∷ codes "rule use_con(var X, var A, const C) { X := A when con(A, C) @ in => transform X := C }"
    ∷ codes "rule use_cpy(var Z, var X, var Y) { Z := X when cpy(X, Y) @ in => transform Z := Y }"
    ∷ codes "rule use_load(var X, var P, var Y) { X := *P when pts(P, Y) @ in => transform X := Y }"
    ∷ codes "rule use_sum(var X, var A, var B, var Y) { Y := A + B when sum(X, A, B) @ in => transform Y := X }"
    ∷ codes "rule use_if(var X, const C) { if X when con(X, C) @ in => transform if C }"
    ∷ codes "rule use_arg(var X, var A, const C) { X := call(A) when con(A, C) @ in => transform X := call(C) }"
    ∷ codes "rule use_ret(var X, const C) { return X when con(X, C) @ in => transform return C }"
    ∷ []

-- the lines, each ended by a line feed
unfoldable pub standard_rules : List ℕ
standard_rules = flat_map (λ line. line ++ codes "\n") standard_lines
