-- Fewer bits.
use Rattle.std.proofs.Common.{◌≡◌, ◌≢◌, inl, inr, ℕ, zero, suc, ◌+◌, ◌-◌, ◌*◌, ◌/◌, ◌%◌, ◌^◌, ◌<◌, ◌≤◌, Bool, true, false, IsTrue, List, [], ◌∷◌, length, get_or, set, bit_and, min, refl, sym, ap, subst, arith, ◌∙◌, sum_by, length-set}
use Rattle.std.specs.Bool.{OnFalse}
use Rattle.std.specs.Int.{bit_at}
use Rattle.std.specs.Int.RustNames.{count_ones}
use Rattle.std.proofs.Math.Nat.{mul-le-mul_right}
use Rattle.std.proofs.lemmas.Bool.{cases_eq, cases_lt}
use Rattle.std.proofs.lemmas.List.{set_past, ext_get_or, get_or-map, length-map, get_or-set_same, get_or-set_other}
use Rattle.std.proofs.lemmas.Nat.{ones-le}
use Rattle.std.proofs.lemmas.List.Elements.{All-from_get_or}
use Rattle.std.proofs.lemmas.List.Sums.{sum_by-set, sum_by-cons, sum_by-le}
use Rattle.std.proofs.lemmas.Nat.Bits.{bit_at-lt, bit_at_and}
use Rattle.rh_system.specs.declared.system.Row.{Row}
use Rattle.rh_system.specs.Bits.{IsSubword, bits_in, bit_count}
use Rattle.rh_system.specs.Rows.{supports, IsSupported, IsSupportedPart}
use Rattle.rh_system.proofs.Supports.{bits_in_same, bit_inside, supports_grows}
use Rattle.rh_core.proofs.Keeps.{wider, word_written}
use Rattle.rh_edge_words.specs.declared.view.View.{View}
use Rattle.rh_edge_words.specs.Views.{after_load}
use Rattle.rh_edge_words.proofs.Counts.{ones_within, ones_fewer}
use Rattle.rh_engine.specs.Turns.{more_loads, word_before, LoadsRange, AreWithin, IsWordSupported, IsSwept, AreSwept}

-- a word of a list becomes one within it
pub count_written : (seen : List ℕ) (word x : ℕ) → IsSubword x (get_or seen word 0) → bit_count (set seen word x) ≤ bit_count seen
count_written seen word x within =
    elim (cases_lt word (length seen)) [
      | inl inside ↦
          let counts : sum_by count_ones (set seen word x) + count_ones (get_or seen word 0) ≡ sum_by count_ones seen + count_ones x = sum_by-set count_ones seen word x 0 inside in
          let le = ones_within x (get_or seen word 0) within in
          omega arith
      | inr past ↦ let same : bit_count (set seen word x) ≡ bit_count seen = ap bit_count (set_past seen word x past) in omega arith
    ]

-- of a word that was found a part was kept
pub part_written : (seen : List ℕ) (word part found : ℕ) → IsSubword found (get_or seen word 0) → AreWithin (set seen word (bit_and found part)) seen
part_written seen word part found within =
    word_written seen word (bit_and found part) (λ i. let a = within i in let b : bit_at (bit_and found part) i ≡ min (bit_at found i) (bit_at part i) = bit_at_and found part i in omega arith)

-- of a seen word only a part was kept, which was not the whole, and of that only what was found
pub count_cleared : (seen : List ℕ) (word part found : ℕ) → word < length seen → get_or seen word 0 < 2 ^ 64 → IsSubword part (get_or seen word 0) → part ≢ get_or seen word 0
    → bit_count (set seen word (bit_and found part)) < bit_count seen
count_cleared seen word part found inside fits within differs =
    let counts : sum_by count_ones (set seen word (bit_and found part)) + count_ones (get_or seen word 0) ≡ sum_by count_ones seen + count_ones (bit_and found part) =
    sum_by-set count_ones seen word (bit_and found part) 0 inside in
    let less : count_ones part < count_ones (get_or seen word 0) = ones_fewer part (get_or seen word 0) fits within differs in
    let kept : count_ones (bit_and found part) ≤ count_ones part =
    ones_within (bit_and found part) part (λ i. let m : bit_at (bit_and found part) i ≡ min (bit_at found i) (bit_at part i) = bit_at_and found part i in omega arith) in
    omega arith

-- ---- the loads of a turn

pub none_loaded : (v : View) (from : ℕ) → LoadsRange v v from from
none_loaded v from = record {
  stake = refl;
  long = refl;
  loaded = λ k low high. absurd (omega arith);
  before = λ k low. refl;
  after = λ k high. refl;
  last = λ less. absurd (omega arith);
  no_last = λ none. refl;
  within = λ k place. omega arith;
  fewer = omega arith;
}

loads_at : (loads : List ℕ) (word k : ℕ) → word < length loads → (k ≡ word → get_or (set loads word (get_or loads word 0 + 1)) k 0 ≡ get_or loads k 0 + 1) × (k ≢ word → get_or (set loads word (get_or loads word 0 + 1)) k 0 ≡ get_or loads k 0)
loads_at loads word k inside = (
  (λ same. subst (λ (i : ℕ). get_or (set loads word (get_or loads word 0 + 1)) i 0 ≡ get_or loads i 0 + 1) (sym same) (get_or-set_same loads word (get_or loads word 0 + 1) 0 inside)),
  (λ differs. get_or-set_other loads word k (get_or loads word 0 + 1) 0 differs),
)

pub one_loaded : (v w w' : View) (from word found : ℕ) → LoadsRange v w from word → from ≤ word → word < length v.loads → w' ≡ after_load w word found → IsSubword found (get_or w.seen word 0) → LoadsRange v w' from (word + 1)
one_loaded v w w' from word found range rising inside is within =
    let long : length w.loads ≡ length v.loads = range.long in
    let loads : w'.loads ≡ set w.loads word (get_or w.loads word 0 + 1) = ap (λ (u : View). u.loads) is in
    let at : (k : ℕ) → (k ≡ word → get_or w'.loads k 0 ≡ get_or w.loads k 0 + 1) × (k ≢ word → get_or w'.loads k 0 ≡ get_or w.loads k 0) =
    λ k. (
      (λ same. ap (λ (l : List ℕ). get_or l k 0) loads ∙ (loads_at w.loads word k (omega arith)).0 same),
      (λ differs. ap (λ (l : List ℕ). get_or l k 0) loads ∙ (loads_at w.loads word k (omega arith)).1 differs),
    ) in
    let count : bit_count w'.seen ≡ bit_count (set w.seen word found) = ap (λ (u : View). bit_count u.seen) is in
    let less : bit_count (set w.seen word found) ≤ bit_count w.seen = count_written w.seen word found within in
    let before : bit_count w.seen ≤ bit_count v.seen = range.fewer in
    record {
      stake = ap (λ (u : View). u.stake) is ∙ range.stake;
      long = ap length loads ∙ (length-set w.loads word (get_or w.loads word 0 + 1) ∙ long);
      loaded = λ k low high.
          elim (cases_eq k word) [
            | inl same ↦ (at k).0 same ∙ ap (λ (n : ℕ). n + 1) (range.after k (omega arith))
            | inr differs ↦ (at k).1 differs ∙ range.loaded k low (omega arith)
          ];
      before = λ k low. (at k).1 (λ e. omega arith) ∙ range.before k low;
      after = λ k high. (at k).1 (λ e. omega arith) ∙ range.after k (omega arith);
      last = λ less. ap (λ (u : View). u.last + 1) is;
      no_last = λ none. absurd (omega arith);
      within = λ k place.
          let less : bit_at (get_or w'.seen k 0) place ≤ bit_at (get_or w.seen k 0) place =
          subst (λ (ws : List ℕ). bit_at (get_or ws k 0) place ≤ bit_at (get_or w.seen k 0) place) (sym (ap (λ (u : View). u.seen) is)) (word_written w.seen word found within k place) in
          let before_less : bit_at (get_or w.seen k 0) place ≤ bit_at (get_or v.seen k 0) place = range.within k place in
          omega arith;
      fewer = omega arith;
    }

-- the words from the first on, and then those before it
pub all_loaded : (v w u : View) (first count : ℕ) → LoadsRange v w first count → LoadsRange w u 0 first → length v.loads ≡ count → u.loads ≡ more_loads 1 v.loads
all_loaded v w u first count back front many =
    let a : length w.loads ≡ length v.loads = back.long in
    let b : length u.loads ≡ length w.loads = front.long in
    let c : length (more_loads 1 v.loads) ≡ length v.loads = length-map v.loads (λ (k : ℕ). k + 1) in
    ext_get_or 0 u.loads (more_loads 1 v.loads) (omega arith)
    (λ k inside.
    let more : get_or (more_loads 1 v.loads) k 0 ≡ get_or v.loads k 0 + 1 = get_or-map (λ (n : ℕ). n + 1) v.loads k 0 0 (omega arith) in
    elim (cases_lt k first) [
      | inl low ↦ let x = front.loaded k (omega arith) low in let y = back.before k low in omega arith
      | inr high ↦ let x = front.after k high in let y = back.loaded k high (omega arith) in omega arith
    ])

-- a share of the words begins at one of them
pub share_begins : (id count : ℕ) → id < 16 → 0 < count → id * count / 16 < count
share_begins id count small some =
    let le : id * count ≤ 15 * count = mul-le-mul_right count (let l : id ≤ 15 = omega arith in l) in
    omega arith

-- the last word of a round
pub round_ends : (v w u : View) (first count : ℕ) → LoadsRange v w first count → LoadsRange w u 0 first → first < count → u.last ≡ word_before count first
round_ends v w u zero count back front some =
    let end : w.last + 1 ≡ count = back.last some in
    let same : u.last ≡ w.last = front.no_last (omega arith) in
    omega arith
round_ends v w u (suc first) count back front some =
    let end : u.last + 1 ≡ suc first = front.last (omega arith) in
    omega arith

-- ---- the clears of a turn

-- a turn has come to the word `below`
pub record ClearsBelow (rows : List Row) (before now : List ℕ) (below : ℕ) (cleared : Bool) : Type 0 where
  pub fewer : bit_count now ≤ bit_count before
  pub less : cleared ≡ true → bit_count now < bit_count before
  pub closed : cleared ≡ false → (bit : ℕ) → bit < 64 * below → IsTrue (bits_in now bit) → IsTrue (supports rows (bits_in now) bit)

pub clears_nothing : (rows : List Row) (before : List ℕ) → ClearsBelow rows before before 0 false
clears_nothing rows before = record { fewer = omega arith; less = λ e. cc; closed = λ e bit small h. absurd (omega arith) }

pub clears_more : (rows : List Row) (before now after : List ℕ) (below : ℕ) (cleared : Bool) → ClearsBelow rows before now below cleared → bit_count after < bit_count now → ClearsBelow rows before after (below + 1) true
clears_more rows before now after below cleared so_far less =
    let le : bit_count now ≤ bit_count before = so_far.fewer in
    record { fewer = omega arith; less = λ e. omega arith; closed = λ e. cc }

pub at_word : (rows : List Row) (now : List ℕ) (below bit : ℕ) → IsWordSupported rows now below → 64 * below ≤ bit → bit < 64 * (below + 1) → IsTrue (bits_in now bit) → IsTrue (supports rows (bits_in now) bit)
at_word rows now below bit supported low high h =
    let here : bit / 64 ≡ below = omega arith in
    let place : 64 * below + bit % 64 ≡ bit = omega arith in
    let set : bit_at (get_or now below 0) (bit % 64) ≡ 1 = subst (λ (w : ℕ). bit_at (get_or now w 0) (bit % 64) ≡ 1) here (bits_in_same now bit h) in
    subst (λ (b : ℕ). IsTrue (supports rows (bits_in now) b)) place (supported (bit % 64) (omega arith) set)

pub clears_no_more : (rows : List Row) (before now : List ℕ) (below : ℕ) (cleared : Bool) → ClearsBelow rows before now below cleared → IsWordSupported rows now below → ClearsBelow rows before now (below + 1) cleared
clears_no_more rows before now below cleared so_far supported = record {
  fewer = so_far.fewer;
  less = so_far.less;
  closed = λ e bit small h.
      elim (cases_lt bit (64 * below)) [ inl earlier ↦ so_far.closed e bit earlier h | inr low ↦ at_word rows now below bit supported low small h ];
}

when_false : (b : Bool) (P : Type 0) → (b ≡ false → P) → OnFalse b P
when_false true P h = tt
when_false false P h = h refl

pub clears_all : (rows : List Row) (before now : List ℕ) (below : ℕ) (cleared : Bool) → ClearsBelow rows before now below cleared → length now ≤ below → OnFalse cleared (IsSupported rows (bits_in now))
clears_all rows before now below cleared done all =
    when_false cleared (IsSupported rows (bits_in now)) (λ e bit h. let inside : bit / 64 < length now = bit_inside now bit h in done.closed e bit (omega arith) h)

-- the seat stays as it was
pub clears_kept : (rows : List Row) (before : List ℕ) (v w : View) (below : ℕ) (cleared : Bool) → w ≡ v → ClearsBelow rows before v.seen below cleared → IsWordSupported rows v.seen below → ClearsBelow rows before w.seen (below + 1) cleared
clears_kept rows before v w below cleared same so_far supported =
    subst (λ (u : View). ClearsBelow rows before u.seen (below + 1) cleared) (sym same) (clears_no_more rows before v.seen below cleared so_far supported)

-- a turn has swept the words below `below`
pub record SweptBelow (rows : List Row) (before now : List ℕ) (below : ℕ) : Type 0 where
  pub within : AreWithin now before
  pub swept : (bit : ℕ) → bit < 64 * below → IsTrue (bits_in now bit) → IsTrue (supports rows (bits_in before) bit)

pub swept_none : (rows : List Row) (before : List ℕ) → SweptBelow rows before before 0
swept_none rows before = record { within = λ k place. omega arith; swept = λ bit small h. absurd (omega arith) }

-- what words within others support, these support
pub supports_within : (rows : List Row) (now before : List ℕ) → AreWithin now before → (bit : ℕ) → IsTrue (supports rows (bits_in now) bit) → IsTrue (supports rows (bits_in before) bit)
supports_within rows now before within bit h = supports_grows rows (bits_in now) (bits_in before) (λ b stands. wider now before within b stands) bit h

pub swept_more : (rows : List Row) (before now after : List ℕ) (below : ℕ) → SweptBelow rows before now below → AreWithin after now → IsSwept rows now after below → SweptBelow rows before after (below + 1)
swept_more rows before now after below so_far within swept = record {
  within = λ k place.
      let a : bit_at (get_or after k 0) place ≤ bit_at (get_or now k 0) place = within k place in
      let b : bit_at (get_or now k 0) place ≤ bit_at (get_or before k 0) place = so_far.within k place in
      omega arith;
  swept = λ bit small h.
      elim (cases_lt bit (64 * below)) [
        | inl earlier ↦ so_far.swept bit earlier (wider after now within bit h)
        | inr low ↦
            let here : bit / 64 ≡ below = omega arith in
            let place : 64 * below + bit % 64 ≡ bit = omega arith in
            let stands : bit_at (get_or after below 0) (bit % 64) ≡ 1 = subst (λ (w : ℕ). bit_at (get_or after w 0) (bit % 64) ≡ 1) here (bits_in_same after bit h) in
            supports_within rows now before so_far.within bit (subst (λ (b : ℕ). IsTrue (supports rows (bits_in now) b)) place (swept (bit % 64) (omega arith) stands))
      ];
}

pub swept_all : (rows : List Row) (before now : List ℕ) (below : ℕ) → SweptBelow rows before now below → length now ≤ below → AreSwept rows before now
swept_all rows before now below done all bit h = let inside : bit / 64 < length now = bit_inside now bit h in done.swept bit (omega arith) h

-- of the word that was found a part was kept that the words support
pub part_swept : (rows : List Row) (seen : List ℕ) (word part found : ℕ) → word < length seen → IsSupportedPart rows seen word part → IsSwept rows seen (set seen word (bit_and found part)) word
part_swept rows seen word part found inside is place small stands =
    let here : bit_at (get_or (set seen word (bit_and found part)) word 0) place ≡ bit_at (bit_and found part) place = ap (λ (x : ℕ). bit_at x place) (get_or-set_same seen word (bit_and found part) 0 inside) in
    let both : bit_at (bit_and found part) place ≡ min (bit_at found place) (bit_at part place) = bit_at_and found part place in
    let a = bit_at-lt part place in
    is.1 place small (omega arith)

-- ---- many turns

pub no_loads : (loads : List ℕ) → loads ≡ more_loads 0 loads
no_loads [] = refl
no_loads (x ∷ xs) =
    let here : x ≡ x + 0 = omega arith in
    ap (λ (n : ℕ). n ∷ xs) here ∙ ap (λ (l : List ℕ). (x + 0) ∷ l) (no_loads xs)

pub once_more : (n : ℕ) (loads : List ℕ) → more_loads 1 (more_loads n loads) ≡ more_loads (n + 1) loads
once_more n [] = refl
once_more n (x ∷ xs) =
    let here : x + n + 1 ≡ x + (n + 1) = omega arith in
    ap (λ (k : ℕ). k ∷ more_loads 1 (more_loads n xs)) here ∙ ap (λ (l : List ℕ). (x + (n + 1)) ∷ l) (once_more n xs)

-- a turn more
pub turn_loads : (n : ℕ) (before between after : List ℕ) → after ≡ more_loads 1 between → between ≡ more_loads (n - 1) before → 0 < n → after ≡ more_loads n before
turn_loads n before between after one many some =
    let count : n - 1 + 1 ≡ n = omega arith in
    one ∙ (ap (more_loads 1) many ∙ (once_more (n - 1) before ∙ ap (λ (k : ℕ). more_loads k before) count))

pub lists_within : (xs ys : List ℕ) → length xs ≡ length ys → ((k : ℕ) → IsSubword (get_or xs k 0) (get_or ys k 0)) → bit_count xs ≤ bit_count ys
lists_within [] [] long within = omega arith
lists_within [] (y ∷ ys) long within = absurd (omega arith)
lists_within (x ∷ xs) [] long within = absurd (omega arith)
lists_within (x ∷ xs) (y ∷ ys) long within =
    let here = ones_within x y (within 0) in
    let rest = lists_within xs ys (omega arith) (λ k. within (suc k)) in
    let a = sum_by-cons count_ones x xs in
    let b = sum_by-cons count_ones y ys in
    omega arith

pub count_words : (full : List ℕ) → length full < 2 ^ 32 → ((k : ℕ) → get_or full k 0 < 2 ^ 64) → bit_count full ≤ 2 ^ 32 * 64
count_words full few fit =
    let each : bit_count full ≤ length full * 64 =
    sum_by-le count_ones 64 full (All-from_get_or (λ (x : ℕ). count_ones x ≤ 64) full 0 (λ i below. ones-le 64 (get_or full i 0) (fit i))) in
    omega arith
