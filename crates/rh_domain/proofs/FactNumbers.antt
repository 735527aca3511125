-- Facts by their number: those of a schema stand after those of the schemas before it.
use Rattle.std.proofs.Common.{ℕ, zero, suc, ◌≡◌, ◌≢◌, ◌+◌, ◌≤◌, Bool, true, false, List, [], ◌∷◌, ◌++◌, length, take, get_or, Option, Some, None, refl, ap, sym, ◌∙◌, subst, arith}
use Rattle.std.specs.List.{enumerate_from, flat_map}
use Rattle.std.specs.Option.{option_map}
use Rattle.std.specs.Prelude.{nat_le, slice_get}
use Rattle.std.proofs.lemmas.Bool.{leb-true, leb-false}
use Rattle.std.proofs.Math.ListN.{length-append}
use Rattle.std.proofs.lemmas.List.{length-map}
use Rattle.std.proofs.lemmas.Option.{get_or_from_slice_get, slice_get-map, slice_get_past, slice_get_within, same_Some}
use Rattle.rh_rule.specs.declared.schema.Schema.{Schema}
use Rattle.rh_domain.specs.declared.domain.Domain.{Domain}
use Rattle.rh_domain.specs.declared.fact.GroundFact.{GroundFact}
use Rattle.rh_domain.specs.Binding.{Binding, bindings_in}
use Rattle.rh_domain.specs.Count.{binding_count, fact_count}
use Rattle.rh_domain.specs.First.{AreFirsts}
use Rattle.rh_domain.specs.Facts.{facts_of_schema, facts_over}
use Rattle.rh_domain.proofs.Joined.{counted}
use Rattle.rh_domain.proofs.Pieces.{IsPart, get_back, get_front, part_of, part_read, start_of}

-- the numbered items of a list
pub numbered_at : {X : Type 0} (from : ℕ) (xs : List X) (i : ℕ) (x : X) → slice_get xs i ≡ Some x → slice_get (enumerate_from from xs) i ≡ Some (from + i, x)
numbered_at from [] i x read = absurd cc
numbered_at from (y ∷ xs) zero x read = let same : from ≡ from + 0 = omega arith in ap Some (λ i. (same i, same_Some y x read i))
numbered_at from (y ∷ xs) (suc i) x read = let same : (from + 1) + i ≡ from + suc i = omega arith in numbered_at (from + 1) xs i x read ∙ ap (λ n. Some (n, x)) same

pub numbered_of : {X : Type 0} (from : ℕ) (xs : List X) (i : ℕ) (at : ℕ × X) → slice_get (enumerate_from from xs) i ≡ Some at → (slice_get xs i ≡ Some at.1) × (at.0 ≡ from + i)
numbered_of from [] i at read = absurd cc
numbered_of from (y ∷ xs) zero at read = let same = same_Some (from, y) at read in (ap (λ p. Some p.1) same, (let here : at.0 ≡ from = sym (ap (λ p. p.0) same) in omega (arith, here)))
numbered_of from (y ∷ xs) (suc i) at read = let rest = numbered_of (from + 1) xs i at read in (rest.0, (let is = rest.1 in omega (arith, is)))

module _ (domain : Domain) where
  abbrev pub piece : ℕ × Schema → List GroundFact
  piece at = facts_of_schema domain at.0 at.1

  piece_size : (at : ℕ × Schema) → length (piece at) ≡ binding_count domain at.1.params
  piece_size at = length-map (bindings_in domain at.1.params) _ ∙ counted domain at.1.params

  pub starts : (from : ℕ) (schemas : List Schema) (s : ℕ) → start_of piece (enumerate_from from schemas) s ≡ fact_count domain (take s schemas)
  starts from schemas zero = refl
  starts from [] (suc s) = refl
  starts from (schema ∷ schemas) (suc s) =
      let rest = starts (from + 1) schemas s in
      let size : length (piece (from, schema) ++ flat_map piece (take s (enumerate_from (from + 1) schemas))) ≡ length (piece (from, schema)) + start_of piece (enumerate_from (from + 1) schemas) s =
      length-append (piece (from, schema)) (flat_map piece (take s (enumerate_from (from + 1) schemas))) in
      let here = piece_size (from, schema) in
      let added : fact_count domain (schema ∷ take s schemas) ≡ binding_count domain schema.params + fact_count domain (take s schemas) = refl in
      omega (arith, rest, size, here, added)

  -- there are as many facts as are counted
  pub facts_counted : (from : ℕ) (schemas : List Schema) → length (flat_map piece (enumerate_from from schemas)) ≡ fact_count domain schemas
  facts_counted from [] = refl
  facts_counted from (schema ∷ schemas) =
      let rest = facts_counted (from + 1) schemas in
      let size : length (piece (from, schema) ++ flat_map piece (enumerate_from (from + 1) schemas)) ≡ length (piece (from, schema)) + length (flat_map piece (enumerate_from (from + 1) schemas)) =
      length-append (piece (from, schema)) (flat_map piece (enumerate_from (from + 1) schemas)) in
      let here = piece_size (from, schema) in
      let added : fact_count domain (schema ∷ schemas) ≡ binding_count domain schema.params + fact_count domain schemas = refl in
      omega (arith, rest, size, here, added)

  -- those of one schema more
  pub next_count : (schemas : List Schema) (s : ℕ) (schema : Schema) → slice_get schemas s ≡ Some schema
      → fact_count domain (take (suc s) schemas) ≡ fact_count domain (take s schemas) + binding_count domain schema.params
  next_count [] s schema at = absurd cc
  next_count (first ∷ schemas) zero schema at =
      let same : first ≡ schema = same_Some first schema at in
      let added : fact_count domain (first ∷ []) ≡ binding_count domain first.params + 0 = refl in
      let is : binding_count domain first.params ≡ binding_count domain schema.params = ap (λ (s : Schema). binding_count domain s.params) same in
      omega (arith, added, is)
  next_count (first ∷ schemas) (suc s) schema at =
      let rest = next_count schemas s schema at in
      let more : fact_count domain (first ∷ take (suc s) schemas) ≡ binding_count domain first.params + fact_count domain (take (suc s) schemas) = refl in
      let fewer : fact_count domain (first ∷ take s schemas) ≡ binding_count domain first.params + fact_count domain (take s schemas) = refl in
      omega (arith, rest, more, fewer)

  -- a front has no more
  pub front_count : (schemas : List Schema) (s : ℕ) → fact_count domain (take s schemas) ≤ fact_count domain schemas
  front_count schemas zero = omega arith
  front_count [] (suc s) = omega arith
  front_count (first ∷ schemas) (suc s) =
      let rest = front_count schemas s in
      let fewer : fact_count domain (first ∷ take s schemas) ≡ binding_count domain first.params + fact_count domain (take s schemas) = refl in
      let more : fact_count domain (first ∷ schemas) ≡ binding_count domain first.params + fact_count domain schemas = refl in
      omega (arith, rest, fewer, more)

  -- the fact of a schema with a number
  pub of_schema_at : (schema : ℕ) (shape : Schema) (number : ℕ) (args : Binding) → slice_get (bindings_in domain shape.params) number ≡ Some args
      → slice_get (facts_of_schema domain schema shape) number ≡ Some (record { schema = schema; args = args })
  of_schema_at schema shape number args read = slice_get-map _ (bindings_in domain shape.params) number ∙ ap (option_map (λ args. record { schema = schema; args = args })) read

  pub fact_read : (schemas : List Schema) (schema : ℕ) (shape : Schema) (number : ℕ) (fact : GroundFact) → slice_get schemas schema ≡ Some shape → slice_get (facts_of_schema domain schema shape) number ≡ Some fact
      → slice_get (facts_over domain schemas) (fact_count domain (take schema schemas) + number) ≡ Some fact
  fact_read schemas schema shape number fact at read =
      let same : 0 + schema ≡ schema = omega arith in
      subst (λ n. slice_get (facts_over domain schemas) (n + number) ≡ Some fact) (starts 0 schemas schema)
      (part_read piece (enumerate_from 0 schemas) schema number (schema, shape) fact (numbered_at 0 schemas schema shape at ∙ ap (λ n. Some (n, shape)) same) read)

  -- where a fact stands
  pub record Stands (schemas : List Schema) (number : ℕ) (fact : GroundFact) : Type 0 where
    pub shape : Schema
    pub shape_at : slice_get schemas fact.schema ≡ Some shape
    pub within : ℕ
    pub args_at : slice_get (bindings_in domain shape.params) within ≡ Some fact.args
    pub number_is : number ≡ fact_count domain (take fact.schema schemas) + within

  of_schema : (schema : ℕ) (shape : Schema) (number : ℕ) (fact : GroundFact) → slice_get (facts_of_schema domain schema shape) number ≡ Some fact
      → (fact.schema ≡ schema) × (slice_get (bindings_in domain shape.params) number ≡ Some fact.args)
  of_schema schema shape number fact read = by (slice_get (bindings_in domain shape.params) number) refl
    where
      by : (o : Option Binding) → slice_get (bindings_in domain shape.params) number ≡ o → (fact.schema ≡ schema) × (slice_get (bindings_in domain shape.params) number ≡ Some fact.args)
      by None is = (let clash : None ≡ Some fact = sym (ap (option_map (λ args. record { schema = schema; args = args })) is) ∙ sym (slice_get-map _ (bindings_in domain shape.params) number) ∙ read in absurd cc)
      by (Some args) is =
          (let same : fact ≡ record { schema = schema; args = args } = same_Some fact (record { schema = schema; args = args }) (sym read ∙ slice_get-map _ (bindings_in domain shape.params) number ∙ ap (option_map (λ args. record { schema = schema; args = args })) is) in
          (ap (λ (f : GroundFact). f.schema) same, is ∙ ap (λ (f : GroundFact). Some f.args) (sym same)))

  pub fact_stands : (schemas : List Schema) (number : ℕ) (fact : GroundFact) → slice_get (facts_over domain schemas) number ≡ Some fact → Stands schemas number fact
  fact_stands schemas number fact read =
      let part : IsPart piece (enumerate_from 0 schemas) number fact = part_of piece (enumerate_from 0 schemas) number fact read in
      let at = numbered_of 0 schemas part.place part.item part.item_at in
      let inner = of_schema part.item.0 part.item.1 part.within fact part.read in
      let same : fact.schema ≡ part.place = (let one = inner.0 in let two = at.1 in omega (arith, one, two)) in
      let begins = starts 0 schemas part.place in
      let here = part.number_is in
      record {
        shape = part.item.1;
        shape_at = ap (slice_get schemas) same ∙ at.0;
        within = part.within;
        args_at = inner.1;
        number_is = subst (λ n. number ≡ fact_count domain (take n schemas) + part.within) (sym same) (omega (arith, here, begins));
      }

  -- the facts of a schema, and those before it, are no more than all
  pub few_of_schema : (schemas : List Schema) (schema : ℕ) (shape : Schema) (most : ℕ) → slice_get schemas schema ≡ Some shape → fact_count domain schemas ≤ most
      → fact_count domain (take schema schemas) + binding_count domain shape.params ≤ most
  few_of_schema schemas schema shape most at few =
      let next = next_count schemas schema shape at in
      let front = front_count schemas (suc schema) in
      omega (arith, next, front, few)

  -- no fact is of a schema that there is not, or has arguments that the schema does not take
  pub past_all : (schemas : List Schema) (schema : ℕ) (args : Binding) → length schemas ≤ schema → (number : ℕ) → slice_get (facts_over domain schemas) number ≢ Some (record { schema = schema; args = args })
  past_all schemas schema args past number read =
      let stands = fact_stands schemas number (record { schema = schema; args = args }) read in
      let within = slice_get_within schemas schema stands.shape stands.shape_at in
      absurd (omega (arith, within, past))

  pub not_of_schema : (schemas : List Schema) (schema : ℕ) (shape : Schema) (args : Binding) → slice_get schemas schema ≡ Some shape → ((n : ℕ) → slice_get (bindings_in domain shape.params) n ≢ Some args)
      → (number : ℕ) → slice_get (facts_over domain schemas) number ≢ Some (record { schema = schema; args = args })
  not_of_schema schemas schema shape args at none number read =
      let stands = fact_stands schemas number (record { schema = schema; args = args }) read in
      let same : stands.shape ≡ shape = same_Some stands.shape shape (sym stands.shape_at ∙ at) in
      none stands.within (ap (λ (s : Schema). slice_get (bindings_in domain s.params) stands.within) (sym same) ∙ stands.args_at)

  -- the first number of a schema, as it is read
  pub first_is : (schemas : List Schema) (firsts : List ℕ) (schema : ℕ) → AreFirsts domain schemas firsts → schema ≤ length schemas → get_or firsts schema 0 ≡ fact_count domain (take schema schemas)
  first_is schemas firsts schema are below = get_or_from_slice_get firsts schema (fact_count domain (take schema schemas)) 0 (are schema below)

  -- a schema of the list, as it is read
  pub one_more : (schemas : List Schema) (s : ℕ) (schema : Schema) → slice_get schemas s ≡ Some schema
      → fact_count domain (take (s + 1) schemas) ≡ fact_count domain (take s schemas) + binding_count domain schema.params
  one_more schemas s schema at = let same : suc s ≡ s + 1 = omega arith in ap (λ n. fact_count domain (take n schemas)) (sym same) ∙ next_count schemas s schema at

  pub whole_count : (schemas : List Schema) (s : ℕ) → length schemas ≤ s → fact_count domain (take s schemas) ≡ fact_count domain schemas
  whole_count [] zero all = refl
  whole_count [] (suc s) all = refl
  whole_count (schema ∷ schemas) zero all = absurd (omega (arith, all))
  whole_count (schema ∷ schemas) (suc s) all = ap (λ n. binding_count domain schema.params + n) (whole_count schemas s (omega (arith, all)))

  -- past the facts of all schemas there is none
  pub none_past : (schemas : List Schema) (number : ℕ) → fact_count domain schemas ≤ number → slice_get (facts_over domain schemas) number ≡ None
  none_past schemas number past = slice_get_past (facts_over domain schemas) number (let size = facts_counted 0 schemas in omega (arith, past, size))

-- a first number more
pub pushed : (firsts : List ℕ) (count : ℕ) (next : ℕ) (value : ℕ → ℕ) → length firsts ≡ count + 1 → next ≡ value (count + 1) → ((k : ℕ) → k ≤ count → slice_get firsts k ≡ Some (value k))
    → (k : ℕ) → k ≤ count + 1 → slice_get (firsts ++ next ∷ []) k ≡ Some (value k)
pushed firsts count next value size is so_far k below = by (nat_le k count) refl
  where
    by : (b : Bool) → nat_le k count ≡ b → slice_get (firsts ++ next ∷ []) k ≡ Some (value k)
    by true le = get_front firsts (next ∷ []) k (value k) (so_far k (leb-true k count le))
    by false gt =
        (let last : k ≡ length firsts + 0 = (let more = leb-false k count gt in omega (arith, more, below, size)) in
        let here : k ≡ count + 1 = omega (arith, last, size) in
        ap (slice_get (firsts ++ next ∷ [])) last ∙ get_back firsts (next ∷ []) 0 ∙ ap Some is ∙ ap (λ n. Some (value n)) (sym here))
