-- A seat after a step.
use Rattle.std.proofs.Common.{◌≡◌, subst, ℕ, ◌+◌, ◌*◌, ◌^◌, ◌<◌, ◌≤◌, List, length, get_or, set, bit_and, bit_or, sym, ap, arith, ◌∙◌, length-set}
use Rattle.std.specs.Int.RustNames.{count_ones}
use Rattle.std.proofs.lemmas.List.Elements.{All-from_get_or}
use Rattle.std.proofs.lemmas.List.Sums.{sum_by-le}
use Rattle.std.proofs.lemmas.Nat.{ones-le}
use Rattle.atomic_table.specs.Table.{Me}
use Rattle.rh_system.specs.Bits.{IsSubword, bit_count}
use Rattle.rh_core.specs.Moves.{taken}
use Rattle.std.proofs.Common.{min}
use Rattle.std.specs.Int.{bit_at}
use Rattle.std.proofs.lemmas.Nat.Bits.{bit_at_and}
use Rattle.rh_core.proofs.Lists.{united_length}
use Rattle.rh_core.proofs.Keeps.{word_written}
use Rattle.rh_edge_words.proofs.Tallies.{sums_length}
use Rattle.rh_edge_words.specs.declared.view.View.{View}
use Rattle.rh_edge_words.specs.Meaning.{Meaning}
use Rattle.rh_edge_words.specs.Views.{after_look, after_load, after_clear, both_views}
use Rattle.rh_edge_words.specs.Steps.{Finds, Tells}
use Rattle.rh_edge_words.specs.Seated.{IsSeated, IsSeat}

-- a count of credits is far from the largest number
pub count_small : (m : Meaning) (v : View) → IsSeated m v → bit_count v.credits ≤ 2 ^ 32 * 64
count_small m v seated =
    let each : bit_count v.credits ≤ length v.credits * 64 =
    sum_by-le count_ones 64 v.credits (All-from_get_or (λ (x : ℕ). count_ones x ≤ 64) v.credits 0 (λ i below. ones-le 64 (get_or v.credits i 0) (seated.credits_fit i))) in
    let long : length v.credits ≡ length m.full = seated.credits_as_long in
    let few : length m.full < 2 ^ 32 = seated.few in
    omega arith

-- a word that became less than it was is still within others
written_within : (seen full : List ℕ) (word x k place : ℕ) → IsSubword x (get_or seen word 0) → ((j : ℕ) → bit_at (get_or seen j 0) place ≤ bit_at (get_or full j 0) place)
    → bit_at (get_or (set seen word x) k 0) place ≤ bit_at (get_or full k 0) place
written_within seen full word x k place less within =
    let a : bit_at (get_or (set seen word x) k 0) place ≤ bit_at (get_or seen k 0) place = word_written seen word x less k place in
    let b : bit_at (get_or seen k 0) place ≤ bit_at (get_or full k 0) place = within k in
    omega arith

module _ {S : Type 0} (m : Meaning) where
  pub cleared_seat : (word mask found count : ℕ) (me after : Me S View) (copy : List ℕ) (cleared stake : ℕ) → IsSeat m me.0 me.1 copy cleared stake → Tells m word me found (after_clear me.0 word mask found) after
      → count ≡ count_ones (taken found mask) → IsSeat m after.0 after.1 (set copy word (bit_and found mask)) (cleared + count) stake
  cleared_seat word mask found count me after copy cleared stake seat tells count_is =
      let v = me.0 in
      let seated = seat.seated in
      let is = tells.view in
      let stake_is : after.0.stake ≡ v.stake = ap (λ (u : View). u.stake) is in
      let live : 0 < v.stake = seated.live in
      let before : cleared ≡ v.count = seat.counted in
      let count_after : after.0.count ≡ v.count + count_ones (taken found mask) = ap (λ (u : View). u.count) is in
      record {
        seated = record {
          live = omega arith;
          most = tells.finds.stake;
          as_long = ap (λ (u : View). length u.seen) is ∙ (length-set v.seen word (bit_and found mask) ∙ seated.as_long);
          credits_as_long = ap (λ (u : View). length u.credits) is ∙ (length-set v.credits word (bit_or (get_or v.credits word 0) (taken found mask)) ∙ seated.credits_as_long);
          loads_as_long = ap (λ (u : View). length u.loads) is ∙ seated.loads_as_long;
          credits_fit = tells.finds.fit;
          counted = tells.finds.counted;
          few = seated.few;
          greatest = tells.finds.greatest;
          within = subst (λ (u : View). (k place : ℕ) → bit_at (get_or u.seen k 0) place ≤ bit_at (get_or m.full k 0) place) (sym is)
              (λ k place. written_within v.seen m.full word (bit_and found mask) k place (λ i. let a = tells.finds.within i in let b : bit_at (bit_and found mask) i ≡ min (bit_at found i) (bit_at mask i) = bit_at_and found mask i in omega arith) (λ j. seated.within j place));
        };
        empty = tells.carried ∙ seat.empty;
        copied = ap (λ (c : List ℕ). set c word (bit_and found mask)) seat.copied ∙ sym (ap (λ (u : View). u.seen) is);
        counted = omega arith;
        staked = seat.staked ∙ sym stake_is;
      }

  -- a word was read, and what the seat counted of its credits stays
  read_seat : (word found : ℕ) (v w : View) (carried after : List (ℕ × S)) (copy : List ℕ) (cleared stake : ℕ) → IsSeat m v carried copy cleared stake → w.seen ≡ set v.seen word found → w.credits ≡ v.credits → w.count ≡ v.count
      → w.stake ≡ v.stake → length w.loads ≡ length v.loads → after ≡ carried → Finds m word v found w → IsSeat m w after (set copy word found) cleared stake
  read_seat word found v w carried after copy cleared stake seat seen credits count same loads kept finds =
      let seated = seat.seated in
      let live : 0 < v.stake = seated.live in
      record {
        seated = record {
          live = omega arith;
          most = finds.stake;
          as_long = ap length seen ∙ (length-set v.seen word found ∙ seated.as_long);
          credits_as_long = ap length credits ∙ seated.credits_as_long;
          loads_as_long = loads ∙ seated.loads_as_long;
          credits_fit = finds.fit;
          counted = finds.counted;
          few = seated.few;
          greatest = finds.greatest;
          within = subst (λ (ws : List ℕ). (k place : ℕ) → bit_at (get_or ws k 0) place ≤ bit_at (get_or m.full k 0) place) (sym seen)
              (λ k place. written_within v.seen m.full word found k place finds.within (λ j. seated.within j place));
        };
        empty = kept ∙ seat.empty;
        copied = ap (λ (c : List ℕ). set c word found) seat.copied ∙ sym seen;
        counted = seat.counted ∙ sym count;
        staked = seat.staked ∙ sym same;
      }

  pub loaded_seat : (word found : ℕ) (me after : Me S View) (copy : List ℕ) (cleared stake : ℕ) → IsSeat m me.0 me.1 copy cleared stake → Tells m word me found (after_load me.0 word found) after
      → IsSeat m after.0 after.1 (set copy word found) cleared stake
  loaded_seat word found me after copy cleared stake seat tells =
      let is = tells.view in
      read_seat word found me.0 after.0 me.1 after.1 copy cleared stake seat (ap (λ (u : View). u.seen) is) (ap (λ (u : View). u.credits) is) (ap (λ (u : View). u.count) is) (ap (λ (u : View). u.stake) is)
      (ap (λ (u : View). length u.loads) is ∙ length-set me.0.loads word (get_or me.0.loads word 0 + 1)) tells.carried tells.finds

  pub looked_seat : (word found : ℕ) (me after : Me S View) (copy : List ℕ) (cleared stake : ℕ) → IsSeat m me.0 me.1 copy cleared stake → Tells m word me found (after_look me.0 word found) after
      → IsSeat m after.0 after.1 (set copy word found) cleared stake
  looked_seat word found me after copy cleared stake seat tells =
      let is = tells.view in
      read_seat word found me.0 after.0 me.1 after.1 copy cleared stake seat (ap (λ (u : View). u.seen) is) (ap (λ (u : View). u.credits) is) (ap (λ (u : View). u.count) is) (ap (λ (u : View). u.stake) is)
      (ap (λ (u : View). length u.loads) is) tells.carried tells.finds

  -- a seat that took in another, and then read word 0
  pub joined_seat : (found : ℕ) (me other mid after : Me S View) (copy : List ℕ) (cleared stake : ℕ) (copy' : List ℕ) (cleared' stake' : ℕ) → IsSeat m me.0 me.1 copy cleared stake → IsSeat m other.0 other.1 copy' cleared' stake'
      → mid ≡ (both_views me.0 other.0, me.1) → Tells m 0 mid found (after_look mid.0 0 found) after → IsSeat m after.0 after.1 (set copy 0 found) (cleared + cleared') (stake + stake')
  joined_seat found me other mid after copy cleared stake copy' cleared' stake' seat seat' joined tells =
      let v = me.0 in
      let w = other.0 in
      let is : after.0 ≡ after_look (both_views v w) 0 found = tells.view ∙ ap (λ (p : Me S View). after_look p.0 0 found) joined in
      let live : 0 < v.stake = seat.seated.live in
      let stakes : after.0.stake ≡ v.stake + w.stake = ap (λ (u : View). u.stake) is in
      let counts : after.0.count ≡ v.count + w.count = ap (λ (u : View). u.count) is in
      let a : cleared ≡ v.count = seat.counted in
      let b : cleared' ≡ w.count = seat'.counted in
      let p : stake ≡ v.stake = seat.staked in
      let q : stake' ≡ w.stake = seat'.staked in
      record {
        seated = record {
          live = omega arith;
          most = tells.finds.stake;
          as_long = ap (λ (u : View). length u.seen) is ∙ (length-set v.seen 0 found ∙ seat.seated.as_long);
          credits_as_long = ap (λ (u : View). length u.credits) is ∙ (united_length v.credits w.credits ∙ seat.seated.credits_as_long);
          loads_as_long = ap (λ (u : View). length u.loads) is ∙ (sums_length v.loads w.loads ∙ seat.seated.loads_as_long);
          credits_fit = tells.finds.fit;
          counted = tells.finds.counted;
          few = seat.seated.few;
          greatest = tells.finds.greatest;
          within = subst (λ (u : View). (k place : ℕ) → bit_at (get_or u.seen k 0) place ≤ bit_at (get_or m.full k 0) place) (sym is)
              (λ k place. written_within v.seen m.full 0 found k place
              (subst (λ (u : View). IsSubword found (get_or u.seen 0 0)) (ap (λ (x : Me S View). x.0) joined) tells.finds.within) (λ j. seat.seated.within j place));
        };
        empty = tells.carried ∙ (ap (λ (x : Me S View). x.1) joined ∙ seat.empty);
        copied = ap (λ (c : List ℕ). set c 0 found) seat.copied ∙ sym (ap (λ (u : View). u.seen) is);
        counted = omega arith;
        staked = omega arith;
      }
