-- The workers of a table, as they are made, run and joined.
use Rattle.std.proofs.Common.{◌≡◌, inl, inr, ℕ, zero, suc, ◌+◌, ◌-◌, ◌*◌, ◌/◌, ◌<◌, ◌≤◌, IsTrue, List, [], ◌∷◌, ◌++◌, length, get_or, set, replicate, refl, sym, ap, subst, arith, ◌∙◌, sum_by, length-append, length-set}
use Rattle.std.specs.List.{All}
use Rattle.std.proofs.lemmas.Bool.{cases_lt}
use Rattle.std.proofs.Math.Seq.{get_or-append_seam}
use Rattle.std.proofs.lemmas.List.{get_or_append_left}
use Rattle.std.proofs.Common.{Some}
use Rattle.std.proofs.lemmas.List.Elements.{All-nil, All-push, All-pop}
use Rattle.std.proofs.lemmas.List.Sums.{sum_by_push, sum_by-cons}
use Rattle.atomic_table.specs.Seated.{TableId}
use Rattle.rh_system.specs.declared.system.Row.{Row}
use Rattle.rh_system.specs.Bits.{bits_in, bit_count, IsSubword}
use Rattle.rh_system.specs.Rows.{IsCovered, IsGreatest, HoldsGreatest}
use Rattle.rh_system.proofs.Supports.{greatest_from, bit_inside}
use Rattle.rh_system.proofs.OneRound.{full_holds}
use Rattle.rh_core.proofs.Keeps.{wider, word_written}
use Rattle.rh_edge_words.specs.declared.view.View.{View}
use Rattle.rh_edge_words.specs.Views.{first_view, sums}
use Rattle.rh_edge_words.specs.Seated.{SplitsView, JoinsView}
use Rattle.rh_engine.specs.Turns.{more_loads}
use Rattle.rh_engine.specs.Crew.{Seen, HasLoaded, IsCrew, HasRun}

-- ---- made

-- the workers below `id` have their seats
pub record Gathers (table : TableId) (words id : ℕ) (crew : List Seen) (first : TableId × View) : Type 0 where
  pub at : first.0 ≡ table
  pub many : length crew ≡ id
  pub tables : All (λ w. w.0 ≡ table) crew
  pub stake : first.1.stake + id ≡ 16
  pub stakes : sum_by (λ w. w.1.stake) crew + first.1.stake ≡ 16
  pub seen_long : length first.1.seen ≡ words
  pub loads : first.1.loads ≡ replicate words 0
  pub fresh : All (HasLoaded words 0) crew
  pub numbered : (i : ℕ) (d : Seen) → i < id → (get_or crew i d).3 ≡ i

pub gathers_none : (table : TableId) (full : List ℕ) (first : TableId × View) → first.0 ≡ table → first.1 ≡ first_view full → Gathers table (length full) 0 [] first
gathers_none table full first at view =
    let stake : first.1.stake ≡ 16 = ap (λ (u : View). u.stake) view in
    record {
      at = at;
      many = refl;
      tables = All-nil (λ (w : Seen). w.0 ≡ table);
      stake = omega arith;
      stakes = omega arith;
      seen_long = ap (λ (u : View). length u.seen) view;
      loads = ap (λ (u : View). u.loads) view;
      fresh = All-nil (HasLoaded (length full) 0);
      numbered = λ i d below. absurd (omega arith);
    }

-- a worker more, whose number is its place
numbered_more : (crew : List Seen) (w : Seen) (id : ℕ) → length crew ≡ id → w.3 ≡ id → ((i : ℕ) (d : Seen) → i < id → (get_or crew i d).3 ≡ i) → (i : ℕ) (d : Seen) → i < id + 1 → (get_or (crew ++ w ∷ []) i d).3 ≡ i
numbered_more crew w id many is so_far i d below =
    elim (cases_lt i (length crew)) [
      | inl inside ↦ ap (λ (y : Seen). y.3) (get_or_append_left crew (w ∷ []) d i inside) ∙ so_far i d (omega arith)
      | inr past ↦
          let here : i ≡ length crew = omega arith in
          subst (λ (j : ℕ). (get_or (crew ++ w ∷ []) j d).3 ≡ j) (sym here) (ap (λ (y : Seen). y.3) (get_or-append_seam crew w [] d) ∙ (is ∙ sym many))
    ]

pub gathers_more : (table : TableId) (words id : ℕ) (crew : List Seen) (first after new : TableId × View) (w : Seen) → Gathers table words id crew first → 2 ≤ first.1.stake → after.0 ≡ first.0 → new.0 ≡ first.0 → SplitsView first.1 after.1 new.1
    → w ≡ (new.0, new.1, 0, id, 0) → Gathers table words (id + 1) (crew ++ w ∷ []) after
gathers_more table words id crew first after new w so_far enough at new_at split is =
    let stake : after.1.stake ≡ first.1.stake - 1 = ap (λ (u : View). u.stake) split.splitting in
    let one : new.1.stake ≡ 1 = ap (λ (u : View). u.stake) split.new_one in
    let w_stake : w.1.stake ≡ new.1.stake = ap (λ (x : Seen). x.1.stake) is in
    let sums : sum_by (λ (x : Seen). x.1.stake) (crew ++ w ∷ []) ≡ sum_by (λ (x : Seen). x.1.stake) crew + w.1.stake = sum_by_push (λ (x : Seen). x.1.stake) crew w in
    let long : length (crew ++ w ∷ []) ≡ length crew + 1 = length-append crew (w ∷ []) in
    let many : length crew ≡ id = so_far.many in
    let was : first.1.stake + id ≡ 16 = so_far.stake in
    let whole : sum_by (λ (x : Seen). x.1.stake) crew + first.1.stake ≡ 16 = so_far.stakes in
    let looked : length (set first.1.seen 0 split.found) ≡ words = length-set first.1.seen 0 split.found ∙ so_far.seen_long in
    record {
      at = at ∙ so_far.at;
      many = omega arith;
      tables = All-push (λ (x : Seen). x.0 ≡ table) crew w so_far.tables (ap (λ (x : Seen). x.0) is ∙ (new_at ∙ so_far.at));
      stake = omega arith;
      stakes = omega arith;
      seen_long = ap (λ (u : View). length u.seen) split.splitting ∙ looked;
      loads = ap (λ (u : View). u.loads) split.splitting ∙ so_far.loads;
      fresh = All-push (HasLoaded words 0) crew w so_far.fresh (ap (λ (x : Seen). x.1.loads) is ∙ (ap (λ (u : View). u.loads) split.new_one ∙ ap (λ (n : ℕ). replicate n 0) looked));
      numbered = numbered_more crew w id so_far.many (ap (λ (x : Seen). x.3) is) so_far.numbered;
    }

pub gathers_all : (table : TableId) (words id workers : ℕ) (crew : List Seen) (first : TableId × View) (w : Seen) → Gathers table words id crew first → id + 1 ≡ workers → w ≡ (first.0, first.1, 0, id, 0) → IsCrew table words workers (crew ++ w ∷ [])
gathers_all table words id workers crew first w so_far all is =
    let w_stake : w.1.stake ≡ first.1.stake = ap (λ (x : Seen). x.1.stake) is in
    let sums : sum_by (λ (x : Seen). x.1.stake) (crew ++ w ∷ []) ≡ sum_by (λ (x : Seen). x.1.stake) crew + w.1.stake = sum_by_push (λ (x : Seen). x.1.stake) crew w in
    let long : length (crew ++ w ∷ []) ≡ length crew + 1 = length-append crew (w ∷ []) in
    let many : length crew ≡ id = so_far.many in
    let whole : sum_by (λ (x : Seen). x.1.stake) crew + first.1.stake ≡ 16 = so_far.stakes in
    record {
      many = omega arith;
      tables = All-push (λ (x : Seen). x.0 ≡ table) crew w so_far.tables (ap (λ (x : Seen). x.0) is ∙ so_far.at);
      stakes = omega arith;
      fresh = All-push (HasLoaded words 0) crew w so_far.fresh (ap (λ (x : Seen). x.1.loads) is ∙ so_far.loads);
      numbered = λ i d below. numbered_more crew w id so_far.many (ap (λ (x : Seen). x.3) is) so_far.numbered i d (omega arith);
    }

-- ---- joined

-- words that hold Greatest and lie within words that are Greatest
pub still_greatest : (rows : List Row) (seen after : List ℕ) (found : ℕ) → IsGreatest rows seen → HoldsGreatest rows after → after ≡ set seen 0 found → IsSubword found (get_or seen 0 0) → IsGreatest rows after
still_greatest rows seen after found greatest holds is within =
    λ bit. ((λ h. (greatest bit).0 (wider (set seen 0 found) seen (word_written seen 0 found within) bit (subst (λ (ws : List ℕ). IsTrue (bits_in ws bit)) is h))), holds bit)

-- ---- loads

copies_more : (words n : ℕ) → more_loads n (replicate words 0) ≡ replicate words n
copies_more zero n = refl
copies_more (suc words) n = let here : 0 + n ≡ n = omega arith in ap (λ (k : ℕ). k ∷ more_loads n (replicate words 0)) here ∙ ap (λ (l : List ℕ). n ∷ l) (copies_more words n)

-- workers that had loaded nothing, after their runs
pub loaded_afresh : (words : ℕ) (before after : List Seen) → length after ≡ length before → All (HasLoaded words 0) before
    → ((i : ℕ) (d : Seen) → i < length before → (get_or after i d).1.loads ≡ more_loads (get_or after i d).2 (get_or before i d).1.loads) → All (λ w. HasLoaded words w.2 w) after
loaded_afresh words before after long fresh more = λ i d inside.
    let within : i < length before = omega arith in
    let n : ℕ = (get_or after i d).2 in
    more i d within ∙ (ap (more_loads n) (fresh i d within) ∙ copies_more words n)

copies_sum : (words n k : ℕ) → sums (replicate words n) (replicate words k) ≡ replicate words (n + k)
copies_sum zero n k = refl
copies_sum (suc words) n k = ap (λ (l : List ℕ). (n + k) ∷ l) (copies_sum words n k)

loads_added : (words n k : ℕ) (xs ys both : List ℕ) → both ≡ sums xs ys → xs ≡ replicate words n → ys ≡ replicate words k → both ≡ replicate words (n + k)
loads_added words n k xs ys both is p q = is ∙ (ap (λ (l : List ℕ). sums l ys) p ∙ (ap (sums (replicate words n)) q ∙ copies_sum words n k))

-- some of the workers are joined, and the others are left. If all loads were exact, so are those of the joined and of the others
pub record Joins (exact : Type 0) (table : TableId) (full : List ℕ) (rows : List Row) (workers : ℕ) (left : List Seen) (seat : TableId × View) (turns : ℕ) : Type 0 where
  pub at : seat.0 ≡ table
  pub greatest : IsGreatest rows seat.1.seen
  pub tables : All (λ w. w.0 ≡ table) left
  pub run : All (HasRun full rows) left
  pub stakes : sum_by (λ w. w.1.stake) left + seat.1.stake ≡ 16
  pub loaded : exact → seat.1.loads ≡ replicate (length full) turns
  pub each_loaded : exact → All (λ w. HasLoaded (length full) w.2 w) left
  pub enough : workers ≤ turns + length left
  pub most : turns + length left * (bit_count full + 1) ≤ workers * (bit_count full + 1)

-- ---- a system without words

pub empty_greatest : (rows : List Row) (words : List ℕ) → IsCovered [] rows → words ≡ [] → IsGreatest rows words
empty_greatest rows words covered none =
    subst (λ (ws : List ℕ). IsGreatest rows ws) (sym none)
    (greatest_from rows [] (full_holds [] rows covered) (λ bit h. let inside : bit / 64 < 0 = bit_inside [] bit h in absurd (omega arith)))

pub join_step : (exact : Type 0) (table : TableId) (full : List ℕ) (rows : List Row) (workers : ℕ) (left rest : List Seen) (w : Seen) (seat after : TableId × View) (turns : ℕ) → left ≡ rest ++ w ∷ [] → Joins exact table full rows workers left seat turns
    → after.0 ≡ seat.0 → JoinsView seat.1 w.1 after.1 → HoldsGreatest rows after.1.seen → Joins exact table full rows workers rest after (turns + w.2)
join_step exact table full rows workers left rest w seat after turns popped so_far at joins holds =
    let tables = All-pop (λ (x : Seen). x.0 ≡ table) left rest (Some w) popped so_far.tables in
    let run = All-pop (HasRun full rows) left rest (Some w) popped so_far.run in
    let ran : HasRun full rows w = run.1 in
    let each_loaded = λ (is : exact). All-pop (λ (x : Seen). HasLoaded (length full) x.2 x) left rest (Some w) popped (so_far.each_loaded is) in
    let stake : after.1.stake ≡ seat.1.stake + w.1.stake = ap (λ (u : View). u.stake) joins.joined in
    let sums : sum_by (λ (x : Seen). x.1.stake) (rest ++ w ∷ []) ≡ sum_by (λ (x : Seen). x.1.stake) rest + w.1.stake = sum_by_push (λ (x : Seen). x.1.stake) rest w in
    let same : sum_by (λ (x : Seen). x.1.stake) left ≡ sum_by (λ (x : Seen). x.1.stake) (rest ++ w ∷ []) = ap (sum_by (λ (x : Seen). x.1.stake)) popped in
    let long : length left ≡ length rest + 1 = ap length popped ∙ length-append rest (w ∷ []) in
    let whole : sum_by (λ (x : Seen). x.1.stake) left + seat.1.stake ≡ 16 = so_far.stakes in
    let some : 0 < w.2 = ran.some in
    let few : w.2 ≤ bit_count full + 1 = ran.few in
    let enough : workers ≤ turns + length left = so_far.enough in
    let bits : ℕ = bit_count full + 1 in
    let product : length left * bits ≡ length rest * bits + bits = ap (λ (n : ℕ). n * bits) long ∙ (let p : (length rest + 1) * bits ≡ length rest * bits + bits = grind arith in p) in
    let most : turns + length left * bits ≤ workers * bits = so_far.most in
    record {
      at = at ∙ so_far.at;
      greatest = still_greatest rows seat.1.seen after.1.seen joins.found so_far.greatest holds (ap (λ (u : View). u.seen) joins.joined) joins.within;
      tables = tables.0;
      run = run.0;
      stakes = omega arith;
      loaded = λ is. loads_added (length full) turns w.2 seat.1.loads w.1.loads after.1.loads (ap (λ (u : View). u.loads) joins.joined) (so_far.loaded is) (each_loaded is).1;
      each_loaded = λ is. (each_loaded is).0;
      enough = omega arith;
      most = omega arith;
    }

pub join_first : (table : TableId) (full : List ℕ) (rows : List Row) (workers : ℕ) (crew rest : List Seen) (w : Seen) → crew ≡ rest ++ w ∷ [] → length crew ≡ workers → All (λ x. x.0 ≡ table) crew → All (HasRun full rows) crew
    → sum_by (λ x. x.1.stake) crew ≡ 16 → Joins (All (λ x. HasLoaded (length full) x.2 x) crew) table full rows workers rest (w.0, w.1) w.2
join_first table full rows workers crew rest w popped many tables run stakes =
    let tables' = All-pop (λ (x : Seen). x.0 ≡ table) crew rest (Some w) popped tables in
    let run' = All-pop (HasRun full rows) crew rest (Some w) popped run in
    let ran : HasRun full rows w = run'.1 in
    let each_loaded = All-pop (λ (x : Seen). HasLoaded (length full) x.2 x) crew rest (Some w) popped in
    let sums : sum_by (λ (x : Seen). x.1.stake) (rest ++ w ∷ []) ≡ sum_by (λ (x : Seen). x.1.stake) rest + w.1.stake = sum_by_push (λ (x : Seen). x.1.stake) rest w in
    let same : sum_by (λ (x : Seen). x.1.stake) crew ≡ sum_by (λ (x : Seen). x.1.stake) (rest ++ w ∷ []) = ap (sum_by (λ (x : Seen). x.1.stake)) popped in
    let long : workers ≡ length rest + 1 = sym many ∙ (ap length popped ∙ length-append rest (w ∷ [])) in
    let some : 0 < w.2 = ran.some in
    let few : w.2 ≤ bit_count full + 1 = ran.few in
    let bits : ℕ = bit_count full + 1 in
    let product : workers * bits ≡ length rest * bits + bits = ap (λ (n : ℕ). n * bits) long ∙ (let p : (length rest + 1) * bits ≡ length rest * bits + bits = grind arith in p) in
    record {
      at = tables'.1;
      greatest = ran.greatest;
      tables = tables'.0;
      run = run'.0;
      stakes = omega arith;
      loaded = λ all. (each_loaded all).1;
      each_loaded = λ all. (each_loaded all).0;
      enough = omega arith;
      most = omega arith;
    }

-- ---- run

pub same_sums : (f : Seen → ℕ) (xs ys : List Seen) → length xs ≡ length ys → ((i : ℕ) (d : Seen) → i < length xs → f (get_or ys i d) ≡ f (get_or xs i d)) → sum_by f ys ≡ sum_by f xs
same_sums f [] [] long same = refl
same_sums f [] (y ∷ ys) long same = absurd (omega arith)
same_sums f (x ∷ xs) [] long same = absurd (omega arith)
same_sums f (x ∷ xs) (y ∷ ys) long same =
    let here : f y ≡ f x = same 0 x (omega arith) in
    let rest = same_sums f xs ys (omega arith) (λ i d inside. same (suc i) d (omega arith)) in
    let a = sum_by-cons f x xs in
    let b = sum_by-cons f y ys in
    omega arith
