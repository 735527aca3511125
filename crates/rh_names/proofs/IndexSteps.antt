-- The first places of names, found from the first name to the last.
use Rattle.std.proofs.Common.{◌≡◌, ℕ, ◌+◌, Bool, true, false, ◌||◌, cond, List, [], ◌∷◌, ◌++◌, length, Option, Some, None, String, is_some, refl, sym, ap, subst, ◌∙◌, arith}
use Rattle.std.proofs.lemmas.Bool.Decides.{same_from_decides, Decides-like}
use Rattle.std.proofs.lemmas.Slice.Eq.{bytes_eq-Decides}
use Rattle.std.proofs.lemmas.Iterator.Adapters.{position_from-zero}
use Rattle.std.specs.List.{position, position_from, list_any}
use Rattle.std.specs.Option.{option_or}
use Rattle.std.specs.Str.{bytes_eq}
use Rattle.indexmap.specs.IndexMap.{IndexMap, get_by_text}
use Rattle.rh_names.specs.Index.{IsIndex}

either_way : (a b : List ℕ) → bytes_eq a b ≡ bytes_eq b a
either_way a b =
    same_from_decides (bytes_eq a b) (bytes_eq b a) (bytes_eq-Decides a b) (Decides-like (bytes_eq b a) (λ e. sym e) (λ e. sym e) (bytes_eq-Decides b a))

-- the place of the last name, if it is the one that is looked for
abbrev last_place : Bool → ℕ → Option ℕ
last_place test i = cond test (Some i) None

past : (test last : Bool) (i j k : ℕ) (others behind : Option ℕ) → j ≡ k → behind ≡ option_or others (last_place last j) → cond test (Some i) behind ≡ option_or (cond test (Some i) others) (last_place last k)
past true last i j k others behind e is = refl
past false last i j k others behind e is = is ∙ ap (λ n. option_or others (last_place last n)) e

-- the first place among names and one more
place_from : (test : List ℕ → Bool) (i : ℕ) (names : List (List ℕ)) (key : List ℕ) → position_from test i (names ++ key ∷ []) ≡ option_or (position_from test i names) (last_place (test key) (i + length names))
place_from test i [] key = ap (last_place (test key)) (omega arith)
place_from test i (x ∷ xs) key =
    past (test x) (test key) i (i + 1 + length xs) (i + length (x ∷ xs)) (position_from test (i + 1) xs) (position_from test (i + 1) (xs ++ key ∷ [])) (omega arith) (place_from test (i + 1) xs key)

place_behind : (test : List ℕ → Bool) (names : List (List ℕ)) (key : List ℕ) → position test (names ++ key ∷ []) ≡ option_or (position test names) (last_place (test key) (length names))
place_behind test names key =
    position_from-zero test (names ++ key ∷ []) ∙ place_from test 0 names key
    ∙ ap (λ n. option_or (position_from test 0 names) (last_place (test key) n)) (omega arith)
    ∙ ap (λ o. option_or o (last_place (test key) (length names))) (sym (position_from-zero test names))

kept : (test : Bool) (i : ℕ) (place : Option ℕ) → (test ≡ true → is_some place ≡ true) → place ≡ option_or place (last_place test i)
kept true i (Some place) there = refl
kept true i None there = let e = there refl in absurd cc
kept false i (Some place) there = refl
kept false i None there = refl

-- a name that is there keeps its place
pub index_kept : {A S : Type 0} (m : IndexMap (String A) ℕ S) (names : List (List ℕ)) (key : List ℕ) → IsIndex m names → is_some (get_by_text m key) ≡ true → IsIndex m (names ++ key ∷ [])
index_kept m names key index there = λ name.
    index name
    ∙ kept (bytes_eq name key) (length names) (position (bytes_eq name) names) (λ same. subst (λ n. is_some (position (bytes_eq n) names) ≡ true) (sym ((bytes_eq-Decides name key).0 same)) (ap is_some (sym (index key)) ∙ there))
    ∙ sym (place_behind (bytes_eq name) names key)

added : (test : Bool) (i : ℕ) (place : Option ℕ) → (test ≡ true → place ≡ None) → cond test (Some i) place ≡ option_or place (last_place test i)
added true i (Some place) new = let e = new refl in absurd cc
added true i None new = refl
added false i (Some place) new = refl
added false i None new = refl

-- a new name has the place behind the others
index_added : {A S : Type 0} (m n : IndexMap (String A) ℕ S) (names : List (List ℕ)) (key : List ℕ) → IsIndex m names → get_by_text m key ≡ None → ((name : List ℕ) → get_by_text n name ≡ cond (bytes_eq key name) (Some (length names)) (get_by_text m name)) → IsIndex n (names ++ key ∷ [])
index_added m n names key index new put = λ name.
    put name
    ∙ ap (λ b. cond b (Some (length names)) (get_by_text m name)) (either_way key name)
    ∙ ap (cond (bytes_eq name key) (Some (length names))) (index name)
    ∙ added (bytes_eq name key) (length names) (position (bytes_eq name) names) (λ same. subst (λ n. position (bytes_eq n) names ≡ None) (sym ((bytes_eq-Decides name key).0 same)) (sym (index key) ∙ new))
    ∙ sym (place_behind (bytes_eq name) names key)

found_or : (test : Bool) (i : ℕ) (others : Option ℕ) (rest : Bool) → is_some others ≡ rest → is_some (cond test (Some i) others) ≡ (test || rest)
found_or true i others rest e = refl
found_or false i others rest e = e

found_from : (test : List ℕ → Bool) (i : ℕ) (names : List (List ℕ)) → is_some (position_from test i names) ≡ list_any test names
found_from test i [] = refl
found_from test i (x ∷ xs) = found_or (test x) i (position_from test (i + 1) xs) (list_any test xs) (found_from test (i + 1) xs)

-- a name has a place exactly if it is one of the names
pub is_some_position : (test : List ℕ → Bool) (names : List (List ℕ)) → is_some (position test names) ≡ list_any test names
is_some_position test names = ap is_some (position_from-zero test names) ∙ found_from test 0 names

-- a new name is put under its bytes, which a string holds
pub index_put : {A S : Type 0} (m n : IndexMap (String A) ℕ S) (names : List (List ℕ)) (place : ℕ) (key bytes : List ℕ) → place ≡ length names → bytes ≡ key → IsIndex m names → is_some (get_by_text m key) ≡ false → ((name : List ℕ) → get_by_text n name ≡ cond (bytes_eq bytes name) (Some place) (get_by_text m name)) → IsIndex n (names ++ key ∷ [])
index_put m n names place key bytes is same index new put =
    index_added m n names key index (absent (get_by_text m key) new)
    (λ name. put name ∙ ap (λ b. cond (bytes_eq b name) (Some place) (get_by_text m name)) same ∙ ap (λ i. cond (bytes_eq key name) (Some i) (get_by_text m name)) is)
  where
    absent : (place : Option ℕ) → is_some place ≡ false → place ≡ None
    absent (Some p) e = absurd cc
    absent None e = refl
