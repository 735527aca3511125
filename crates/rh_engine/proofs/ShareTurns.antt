-- Clears share by share.
use Rattle.std.proofs.Common.{◌≡◌, inl, inr, ℕ, ◌+◌, ◌*◌, ◌/◌, ◌<◌, ◌≤◌, Bool, true, false, List, length, refl, sym, ap, subst, arith, ◌∙◌}
use Rattle.std.specs.Bool.{OnFalse}
use Rattle.std.proofs.Math.Nat.{mul-div_cancel_left, zero-div}
use Rattle.std.proofs.lemmas.Bool.{cases_lt}
use Rattle.rh_system.specs.declared.system.Row.{Row}
use Rattle.rh_system.specs.Bits.{bits_in, bit_count}
use Rattle.rh_system.specs.Rows.{IsSupported}
use Rattle.rh_system.proofs.Supports.{bit_inside}
use Rattle.rh_edge_words.specs.declared.view.View.{View}
use Rattle.rh_engine.specs.Turns.{KeepsLoads, IsWordSupported, AreWordsSupported, share_start}
use Rattle.rh_engine.proofs.Fewer.{at_word}

-- ---- a range of words

-- the clears have come from the word `from` to the word `below`
pub record ClearsRange (rows : List Row) (v w : View) (from below : ℕ) (cleared : Bool) : Type 0 where
  pub keeps : KeepsLoads v w
  pub fewer : bit_count w.seen ≤ bit_count v.seen
  pub less : cleared ≡ true → bit_count w.seen < bit_count v.seen
  pub kept : cleared ≡ false → (w ≡ v) × AreWordsSupported rows v.seen from below

pub keeps_loads_on : (u v w : View) → KeepsLoads u v → KeepsLoads v w → KeepsLoads u w
keeps_loads_on u v w first then = record { stake = then.stake ∙ first.stake; loads = then.loads ∙ first.loads; last = then.last ∙ first.last }

pub range_begins : (rows : List Row) (v : View) (from : ℕ) → ClearsRange rows v v from from false
range_begins rows v from = record {
  keeps = record { stake = refl; loads = refl; last = refl };
  fewer = omega arith;
  less = λ e. cc;
  kept = λ e. (refl, λ word low high. absurd (omega arith));
}

pub range_cleared : (rows : List Row) (u v w : View) (from below : ℕ) (cleared : Bool) → ClearsRange rows u v from below cleared → KeepsLoads v w → bit_count w.seen < bit_count v.seen → ClearsRange rows u w from (below + 1) true
range_cleared rows u v w from below cleared so_far keeps less =
    let le : bit_count v.seen ≤ bit_count u.seen = so_far.fewer in
    record { keeps = keeps_loads_on u v w so_far.keeps keeps; fewer = omega arith; less = λ e. omega arith; kept = λ e. cc }

-- the words up to one are supported, and so is that one
pub words_up_to : (rows : List Row) (seen : List ℕ) (from below : ℕ) → AreWordsSupported rows seen from below → IsWordSupported rows seen below → AreWordsSupported rows seen from (below + 1)
words_up_to rows seen from below so_far here word low high =
    elim (cases_lt word below) [
      | inl earlier ↦ so_far word low earlier
      | inr late ↦ let same : below ≡ word = omega arith in subst (λ (k : ℕ). IsWordSupported rows seen k) same here
    ]

pub range_kept : (rows : List Row) (u v w : View) (from below : ℕ) (cleared : Bool) → ClearsRange rows u v from below cleared → w ≡ v → IsWordSupported rows v.seen below → ClearsRange rows u w from (below + 1) cleared
range_kept rows u v w from below cleared so_far same supported =
    subst (λ (x : View). ClearsRange rows u x from (below + 1) cleared) (sym same)
    (record {
      keeps = so_far.keeps;
      fewer = so_far.fewer;
      less = so_far.less;
      kept = λ e.
          let so = so_far.kept e in
          (so.0, words_up_to rows u.seen from below so.1 (subst (λ (x : View). IsWordSupported rows x.seen below) so.0 supported));
    })

pub on_false : (b : Bool) (P : Type 0) → (b ≡ false → P) → OnFalse b P
on_false true P h = tt
on_false false P h = h refl

pub range_ends : (rows : List Row) (v w : View) (from below to : ℕ) (cleared : Bool) → ClearsRange rows v w from below cleared → to ≤ below → OnFalse cleared ((w ≡ v) × AreWordsSupported rows v.seen from to)
range_ends rows v w from below to cleared done all =
    on_false cleared ((w ≡ v) × AreWordsSupported rows v.seen from to) (λ e. let so = done.kept e in (so.0, λ word low high. so.1 word low (omega arith)))

-- ---- shares

-- a share more was found supported, and nothing was cleared in it
pub share_more : (rows : List Row) (u v w : View) (from between to : ℕ) → v ≡ u → w ≡ v → AreWordsSupported rows u.seen from between → AreWordsSupported rows v.seen between to → (w ≡ u) × AreWordsSupported rows u.seen from to
share_more rows u v w from between to same still before here = (
  still ∙ same,
  λ word low high.
      elim (cases_lt word between) [
        | inl earlier ↦ before word low earlier
        | inr late ↦ subst (λ (x : View). IsWordSupported rows x.seen word) same (here word late high)
      ],
)

-- clears that left all as it was, and then others
pub keeps_since : (u v w : View) → v ≡ u → KeepsLoads v w → KeepsLoads u w
keeps_since u v w same keeps = subst (λ (x : View). KeepsLoads x w) same keeps

pub less_since : (u v w : View) → v ≡ u → bit_count w.seen < bit_count v.seen → bit_count w.seen < bit_count u.seen
less_since u v w same less = subst (λ (x : View). bit_count w.seen < bit_count x.seen) same less

no_share : (count workers : ℕ) → share_start count workers 0 ≡ 0
no_share count workers = ap (λ (n : ℕ). n / workers) (let none : 0 * count ≡ 0 = omega arith in none) ∙ zero-div workers

pub all_shares : (count workers : ℕ) → 0 < workers → share_start count workers workers ≡ count
all_shares count workers some = mul-div_cancel_left count some

-- the shares from the worker's own on are supported, and then those before it
pub shares_closed : (rows : List Row) (v u w : View) (count workers id : ℕ) → length v.seen ≡ count → 0 < workers → u ≡ v → w ≡ u
    → AreWordsSupported rows v.seen (share_start count workers id) (share_start count workers workers) → AreWordsSupported rows u.seen (share_start count workers 0) (share_start count workers id) → IsSupported rows (bits_in w.seen)
shares_closed rows v u w count workers id long some same still late early =
    subst (λ (x : View). IsSupported rows (bits_in x.seen)) (sym (still ∙ same))
    (λ bit stands.
    let inside : bit / 64 < length v.seen = bit_inside v.seen bit stands in
    let end : share_start count workers workers ≡ count = all_shares count workers some in
    let begin : share_start count workers 0 ≡ 0 = no_share count workers in
    let here : IsWordSupported rows v.seen (bit / 64) =
    elim (cases_lt (bit / 64) (share_start count workers id)) [
      | inl low ↦ subst (λ (x : View). IsWordSupported rows x.seen (bit / 64)) same (early (bit / 64) (omega arith) low)
      | inr high ↦ late (bit / 64) high (omega arith)
    ] in
    at_word rows v.seen (bit / 64) bit here (omega arith) (omega arith) stands)
