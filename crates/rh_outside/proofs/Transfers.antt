-- Reading and writing piece by piece.
use Rattle.std.proofs.Common.{ℕ, ◌≡◌, ◌+◌, ◌<◌, ◌≤◌, List, [], ◌++◌, length, take, drop, Option, Some, None, IfSome, refl, ap, sym, subst, ◌∙◌, arith, append_assoc, append-nil}
use Rattle.std.proofs.lemmas.List.{take-append-drop, length-append, length-take-le}
use Rattle.std.proofs.Math.Seq.{drop-append-add, take-add}
use Rattle.std.proofs.Math.ListN.{drop_of_length-le}
use Rattle.rh_outside.specs.Reading.{ReadsAt, IsFront}
use Rattle.rh_outside.specs.Writing.{appended}

pub read_nothing : (o : Option (List ℕ)) → IfSome o (IsFront [])
read_nothing None = tt
read_nothing (Some held) = record { rest = refl }

-- one more read goes on with the front
front_more : (bytes held buffer : List ℕ) (count : ℕ) → IsFront bytes held → ReadsAt held (length bytes) count buffer → IsFront (bytes ++ take count buffer) held
front_more bytes held buffer count front reads =
    let rest : List ℕ = drop (length bytes) held in
    let more : List ℕ = take count rest in
    let size : length more ≡ count = length-take-le count rest reads.within in
    let whole : bytes ++ (more ++ drop (length more) rest) ≡ held = rw size (ap (λ xs. bytes ++ xs) (take-append-drop count rest) ∙ front.rest) in
    let cut : drop (length (bytes ++ more)) held ≡ drop (length more) rest = rw length-append (ap (drop (length bytes + length more)) (sym front.rest) ∙ drop-append-add bytes rest (length more)) in
    let at_more : IsFront (bytes ++ more) held = record { rest = ap (λ xs. (bytes ++ more) ++ xs) cut ∙ append_assoc bytes more _ ∙ whole } in
    subst (λ (xs : List ℕ). IsFront (bytes ++ xs) held) (sym reads.same) at_more

pub read_more : (o : Option (List ℕ)) (bytes after buffer : List ℕ) (at count : ℕ) → at ≡ length bytes → after ≡ bytes ++ take count buffer → IfSome o (λ held. ReadsAt held at count buffer) → IfSome o (IsFront bytes) → IfSome o (IsFront after)
read_more None bytes after buffer at count place more reads front = tt
read_more (Some held) bytes after buffer at count place more reads front =
    let reads_behind : ReadsAt held (length bytes) count buffer = subst (λ at. ReadsAt held at count buffer) place reads in
    subst (λ (xs : List ℕ). IsFront xs held) (sym more) (front_more bytes held buffer count front reads_behind)

-- at the end the front is the whole
front_whole : (bytes held : List ℕ) → IsFront bytes held → length held ≤ length bytes → bytes ≡ held
front_whole bytes held front ended = sym (append-nil bytes) ∙ ap (λ xs. bytes ++ xs) (sym (drop_of_length-le held ended)) ∙ front.rest

pub whole : (o : Option (List ℕ)) (bytes : List ℕ) → IfSome o (IsFront bytes) → IfSome o (λ held. length held ≤ length bytes) → IfSome o (λ held. bytes ≡ held)
whole None bytes front ended = tt
whole (Some held) bytes front ended = front_whole bytes held front ended

-- a front that is longer than the limit
pub front_long : (o : Option (List ℕ)) (bytes : List ℕ) (limit : ℕ) → limit < length bytes → IfSome o (IsFront bytes) → IfSome o (λ held. limit < length held)
front_long None bytes limit long front = tt
front_long (Some held) bytes limit long front =
    let size : length bytes + length (drop (length bytes) held) ≡ length held = sym (length-append bytes (drop (length bytes) held)) ∙ ap length front.rest in
    omega arith

-- what is written in pieces is written as one
pub written_more : (w : Option (List ℕ)) (bytes : List ℕ) (taken count : ℕ) → appended (appended w (take taken bytes)) (take count (drop taken bytes)) ≡ appended w (take (taken + count) bytes)
written_more None bytes taken count = refl
written_more (Some w) bytes taken count = ap Some (append_assoc w _ _ ∙ ap (λ xs. w ++ xs) (sym (take-add taken count bytes)))

pub written_nothing : (w : Option (List ℕ)) → w ≡ appended w []
written_nothing None = refl
written_nothing (Some w) = ap Some (sym (append-nil w))
