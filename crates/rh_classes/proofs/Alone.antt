-- Each place alone.
use Rattle.std.proofs.Common.{◌≡◌, ℕ, zero, suc, ◌<◌, ◌+◌, List, [], ◌∷◌, ◌++◌, length, slice_index, arith, ap, sym, ◌∙◌, subst, add-one}
use Rattle.std.specs.List.{range_with_len}
use Rattle.std.proofs.lemmas.List.FromFn.{length-range_with_len, get_or-range_with_len}
use Rattle.rh_term.specs.Partition.{IsPartition}
use Rattle.rh_classes.specs.Merge.{alone, Refines}
use Rattle.rh_classes.proofs.Joining.{joined-equal, equal-joined}

range_next : (first n : ℕ) → range_with_len first (suc n) ≡ range_with_len first n ++ (first + n) ∷ []
range_next first zero = ap (λ x. x ∷ []) (omega arith)
range_next first (suc n) =
    ap (λ xs. first ∷ xs) (range_next (first + 1) n ∙ ap (λ x. range_with_len (first + 1) n ++ x ∷ []) (omega arith))

pub alone_more : (n : ℕ) → alone (n + 1) ≡ alone n ++ n ∷ []
alone_more n = rw add-one (range_next 0 n ∙ ap (λ x. range_with_len 0 n ++ x ∷ []) (omega arith))

pub at_alone : (n i : ℕ) → i < n → slice_index (alone n) i ≡ i
at_alone n i h = get_or-range_with_len 0 n i 0 h ∙ omega arith

pub alone_partition : (n : ℕ) → IsPartition n (alone n)
alone_partition n = record {
  as_long = length-range_with_len 0 n;
  least = λ i h. omega (arith, at_alone n i h);
  in_class = λ i h. ap (slice_index (alone n)) (at_alone n i h);
}

pub alone_long : (labels : List ℕ) (n : ℕ) → labels ≡ alone n → length labels ≡ n
alone_long labels n e = ap length e ∙ length-range_with_len 0 n

pub is_partition : (labels : List ℕ) (n : ℕ) → labels ≡ alone n → IsPartition (length labels) labels
is_partition labels n e =
    let long : length labels ≡ n = alone_long labels n e in
    subst (λ m. IsPartition m labels) (sym long) (subst (IsPartition n) (sym e) (alone_partition n))

-- nothing is finer
pub alone_least : (n : ℕ) (other : List ℕ) → Refines n (alone n) other
alone_least n other i j in_i in_j h =
    equal-joined other i j
    (ap (slice_index other) (sym (at_alone n i in_i) ∙ joined-equal (alone n) i j h ∙ at_alone n j in_j))
