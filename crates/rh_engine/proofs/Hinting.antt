-- What hint rounds do to the view of a seat.
use Rattle.std.proofs.Common.{◌≡◌, inl, inr, ℕ, ◌+◌, ◌-◌, ◌<◌, ◌≤◌, Bool, true, false, List, length, get_or, refl, sym, ap, subst, arith, ◌∙◌}
use Rattle.std.specs.Bool.{OnTrue, OnFalse}
use Rattle.std.proofs.lemmas.Bool.{cases_lt}
use Rattle.std.proofs.lemmas.List.{get_or-map, length-map}
use Rattle.rh_system.specs.Bits.{IsSubword, bit_count}
use Rattle.rh_edge_words.specs.declared.view.View.{View}
use Rattle.rh_edge_words.specs.Views.{after_load}
use Rattle.rh_engine.specs.Turns.{more_loads, LoadsRange, LoadsAtLeast, KeepsLoads, Descends}
use Rattle.rh_engine.proofs.Fewer.{none_loaded, one_loaded}

-- ---- loads

pub no_more_loads : (loads : List ℕ) → LoadsAtLeast 0 loads loads
no_more_loads loads = record { long = refl; more = λ word inside. omega arith }

pub loads_on : (n k : ℕ) (xs ys zs : List ℕ) → LoadsAtLeast n xs ys → LoadsAtLeast k ys zs → LoadsAtLeast (n + k) xs zs
loads_on n k xs ys zs first then =
    let long : length ys ≡ length xs = first.long in
    record {
      long = then.long ∙ long;
      more = λ word inside. let a : get_or xs word 0 + n ≤ get_or ys word 0 = first.more word inside in let b : get_or ys word 0 + k ≤ get_or zs word 0 = then.more word (omega arith) in omega arith;
    }

exact_loads : (n : ℕ) (loads after : List ℕ) → after ≡ more_loads n loads → LoadsAtLeast n loads after
exact_loads n loads after is = record {
  long = ap length is ∙ length-map loads (λ (k : ℕ). k + n);
  more = λ word inside.
      let here : get_or after word 0 ≡ get_or loads word 0 + n = ap (λ (l : List ℕ). get_or l word 0) is ∙ get_or-map (λ (k : ℕ). k + n) loads word 0 0 inside in
      omega arith;
}

-- a turn more
pub turn_more : (n : ℕ) (xs ys zs : List ℕ) → LoadsAtLeast (n - 1) xs ys → zs ≡ more_loads 1 ys → 0 < n → LoadsAtLeast n xs zs
turn_more n xs ys zs so_far turn some =
    let count : n - 1 + 1 ≡ n = omega arith in
    subst (λ (k : ℕ). LoadsAtLeast k xs zs) count (loads_on (n - 1) 1 xs ys zs so_far (exact_loads 1 ys zs turn))

-- hint rounds after a turn
pub turn_then_hints : (n : ℕ) (xs ys zs : List ℕ) → LoadsAtLeast n xs ys → LoadsAtLeast 0 ys zs → LoadsAtLeast (n + 1 - 1) xs zs
turn_then_hints n xs ys zs turn hints =
    let count : n + 0 ≡ n + 1 - 1 = omega arith in
    subst (λ (k : ℕ). LoadsAtLeast k xs zs) count (loads_on n 0 xs ys zs turn hints)

-- ---- views

pub descends_not : (v : View) → Descends v v
descends_not v = record { stake = refl; loads = no_more_loads v.loads; fewer = omega arith }

pub descends_on : (u v w : View) → Descends u v → Descends v w → Descends u w
descends_on u v w first then =
    let a : bit_count v.seen ≤ bit_count u.seen = first.fewer in
    let b : bit_count w.seen ≤ bit_count v.seen = then.fewer in
    record { stake = then.stake ∙ first.stake; loads = loads_on 0 0 u.loads v.loads w.loads first.loads then.loads; fewer = omega arith }

pub range_descends : (v w : View) (from to : ℕ) → LoadsRange v w from to → Descends v w
range_descends v w from to range = record {
  stake = range.stake;
  loads = record {
    long = range.long;
    more = λ word inside.
        elim (cases_lt word from) [
          | inl low ↦ let e : get_or w.loads word 0 ≡ get_or v.loads word 0 = range.before word low in omega arith
          | inr high ↦
              elim (cases_lt word to) [
                | inl here ↦ let e : get_or w.loads word 0 ≡ get_or v.loads word 0 + 1 = range.loaded word high here in omega arith
                | inr past ↦ let e : get_or w.loads word 0 ≡ get_or v.loads word 0 = range.after word past in omega arith
              ]
        ];
  };
  fewer = range.fewer;
}

pub load_descends : (v w : View) (word found count : ℕ) → w ≡ after_load v word found → IsSubword found (get_or v.seen word 0) → length v.loads ≡ count → word < count → Descends v w
load_descends v w word found count is within long inside =
    range_descends v w word (word + 1) (one_loaded v v w word word found (none_loaded v word) (omega arith) (omega arith) is within)

clears_descend : (v w : View) → KeepsLoads v w → bit_count w.seen ≤ bit_count v.seen → Descends v w
clears_descend v w keeps le = record { stake = keeps.stake; loads = subst (λ (l : List ℕ). LoadsAtLeast 0 v.loads l) (sym keeps.loads) (no_more_loads v.loads); fewer = le }

fewer_or_same : (v w : View) (P : Type 0) (cleared : Bool) → OnTrue cleared (bit_count w.seen < bit_count v.seen) → OnFalse cleared ((w ≡ v) × P) → bit_count w.seen ≤ bit_count v.seen
fewer_or_same v w P true less kept = omega arith
fewer_or_same v w P false less kept = let same : bit_count w.seen ≡ bit_count v.seen = ap (λ (x : View). bit_count x.seen) kept.0 in omega arith

-- ---- visits

-- The words around a node are loaded, then others, and then its words cleared
pub visit_descends : (v u u' w : View) (from to : ℕ) (P : Type 0) (cleared : Bool) → Descends v u → LoadsRange u u' from to → KeepsLoads u' w → OnTrue cleared (bit_count w.seen < bit_count u'.seen) → OnFalse cleared ((w ≡ u') × P) → Descends v w
visit_descends v u u' w from to P cleared entering leaving keeps less kept =
    descends_on v u w entering (descends_on u u' w (range_descends u u' from to leaving) (clears_descend u' w keeps (fewer_or_same u' w P cleared less kept)))

pub visit_less : (v u u' w : View) (from to : ℕ) (cleared : Bool) → Descends v u → LoadsRange u u' from to → OnTrue cleared (bit_count w.seen < bit_count u'.seen) → OnTrue cleared (bit_count w.seen < bit_count v.seen)
visit_less v u u' w from to true entering leaving less = let a : bit_count u.seen ≤ bit_count v.seen = entering.fewer in let b : bit_count u'.seen ≤ bit_count u.seen = leaving.fewer in omega arith
visit_less v u u' w from to false entering leaving less = tt

-- visits have gone on, and have cleared something or not
pub record Visits (v w : View) (cleared : Bool) : Type 0 where
  pub descends : Descends v w
  pub less : cleared ≡ true → bit_count w.seen < bit_count v.seen

pub visits_none : (v : View) → Visits v v false
visits_none v = record { descends = descends_not v; less = λ e. cc }

pub visits_cleared : (u v w : View) (cleared : Bool) → Visits u v cleared → Descends v w → bit_count w.seen < bit_count v.seen → Visits u w true
visits_cleared u v w cleared so_far descends less =
    let le : bit_count v.seen ≤ bit_count u.seen = so_far.descends.fewer in
    record { descends = descends_on u v w so_far.descends descends; less = λ e. omega arith }

pub visits_more : (u v w : View) (cleared : Bool) → Visits u v cleared → Descends v w → Visits u w cleared
visits_more u v w cleared so_far descends =
    let le : bit_count w.seen ≤ bit_count v.seen = descends.fewer in
    record { descends = descends_on u v w so_far.descends descends; less = λ e. let less : bit_count v.seen < bit_count u.seen = so_far.less e in omega arith }
