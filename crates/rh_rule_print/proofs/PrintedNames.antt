-- Names and numbers as they are printed.
use Rattle.std.proofs.Common.{◌≡◌, ℕ, suc, ◌<◌, ◌≤◌, ◌^◌, ℤ, pos, negsuc, min, Bool, true, false, cond, ◌&&◌, ◌||◌, List, [], ◌∷◌, length, refl, sym, ap, ◌∙◌, subst, arith, append-nil, Some, None, unwrap_or}
use Rattle.std.proofs.lemmas.Bool.{and_parts, and_from, false≢true, leb-true, ne_eqb, lt-leb}
use Rattle.std.specs.Prelude.{nat_le, slice_index, ◌==◌}
use Rattle.std.specs.Fmt.{decimal, signed_decimal}
use Rattle.std.specs.List.{list_all}
use Rattle.std.specs.Char.{is_ascii_alphabetic, is_ascii_lowercase, is_ascii_uppercase, is_ascii_digit}
use Rattle.std.specs.Int.Signed.{mag}
use Rattle.rh_text.specs.declared.sign.Sign.TheVariants.{Minus}
use Rattle.rh_text.specs.declared.token.TokenKind.TheVariants.{Lower as LowerKind, Upper as UpperKind}
use Rattle.rh_text.specs.Decimal.{signed}
use Rattle.rh_text.specs.Pieces.{is_word_byte, Word, Digits, Mark, IsWord}
use Rattle.rh_text.proofs.Printing.{word_piece, number_piece, sign_piece, decimal_value-decimal}
use Rattle.rh_il.specs.Name.{is_name, is_upper_name, is_lower_name, is_word_byte as is_name_byte}
use Rattle.rh_rule.specs.Words.{is_proper}
use Rattle.rh_rule_source.specs.declared.word.Spelled.{Spelled}
use Rattle.rh_rule_source.specs.declared.word.Word.{Word as TextWord}
use Rattle.rh_rule_source.specs.declared.word.Word.TheVariants.{Fixed, Lower, Upper, Number}
use Rattle.rh_rule_source.specs.Words.{said, name_word, word_class}
use Rattle.rh_rule_source.specs.Source.{number_words}
use Rattle.rh_rule_text.specs.Resolve.{number_of}
use Rattle.rh_rule_source.proofs.SourceInRange.{NumberInRange}
use Rattle.rh_rule_print.proofs.Prints.{Prints, Ends}

-- ---- names

same_order : (digit upper lower : Bool) → ((digit || upper) || lower) ≡ ((upper || lower) || digit)
same_order true true lower = refl
same_order true false true = refl
same_order true false false = refl
same_order false true lower = refl
same_order false false true = refl
same_order false false false = refl

-- names are spelled with the bytes of words
name_byte : (b : ℕ) → is_name_byte b ≡ true → is_word_byte b ≡ true
name_byte b h =
    ap (λ t. t || (b == 95)) (sym (same_order (is_ascii_digit b) (is_ascii_uppercase b) (is_ascii_lowercase b))) ∙ h

name_bytes : (bytes : List ℕ) → list_all is_name_byte bytes ≡ true → list_all is_word_byte bytes ≡ true
name_bytes [] h = refl
name_bytes (b ∷ bs) h =
    let parts = and_parts (is_name_byte b) (list_all is_name_byte bs) h in and_from _ _ (name_byte b parts.0) (name_bytes bs parts.1)

letter_byte : (b : ℕ) → is_ascii_alphabetic b ≡ true → is_word_byte b ≡ true
letter_byte b h = ap (λ t. (t || is_ascii_digit b) || (b == 95)) h

name_is_word : (name : List ℕ) → is_name name ≡ true → IsWord name × (length name ≤ 32)
name_is_word [] h = absurd (false≢true h)
name_is_word (b ∷ bs) h =
    let first = and_parts (is_ascii_alphabetic b) (nat_le (length bs) 31 && list_all is_name_byte bs) h in
    let rest = and_parts (nat_le (length bs) 31) (list_all is_name_byte bs) first.1 in
    ((first.0, and_from _ _ (letter_byte b first.0) (name_bytes bs rest.1)), omega (arith, leb-true (length bs) 31 rest.0))

-- both kinds of names say the same
says_name : (lower : Bool) (name : List ℕ) (at : ℕ) → said (cond lower LowerKind UpperKind) name at ≡ name_word name at
says_name true name at = refl
says_name false name at = refl

-- the word is the name
abbrev pub IsUpper : List ℕ → List TextWord → Type 0
IsUpper name words = (s : Spelled) × (words ≡ Upper s ∷ []) × (s.name ≡ name)

abbrev pub IsLower : List ℕ → List TextWord → Type 0
IsLower name words = (s : Spelled) × (words ≡ Lower s ∷ []) × (s.name ≡ name)

name_printed : (name : List ℕ) (Says : List TextWord → Type 0) → is_name name ≡ true → ((at : ℕ) → Says (name_word name at ∷ [])) → Prints Ends name Says
name_printed name Says is says =
    let word = name_is_word name is in
    record {
      pieces = Word name ∷ [];
      spells = append-nil name;
      are = λ rest h. (word_piece name rest word.0 word.1 h, tt);
      says = λ at. subst (λ word. Says (word ∷ [])) (sym (says_name (is_ascii_lowercase (slice_index name 0)) name at)) (says at);
    }

upper_is_name : (name : List ℕ) → is_upper_name name ≡ true → is_name name ≡ true
upper_is_name [] h = absurd (false≢true h)
upper_is_name (b ∷ bs) h = (and_parts (is_ascii_uppercase b) (is_name (b ∷ bs)) h).1

lower_is_name : (name : List ℕ) → is_lower_name name ≡ true → is_name name ≡ true
lower_is_name [] h = absurd (false≢true h)
lower_is_name (b ∷ bs) h = (and_parts (is_ascii_lowercase b) (is_name (b ∷ bs)) h).1

none_and : (t : Bool) → (t && false) ≡ false
none_and true = refl
none_and false = refl

not_upper : (b : ℕ) → is_ascii_lowercase b ≡ true → is_ascii_uppercase b ≡ false
not_upper b h =
    let low = leb-true 97 b (and_parts (nat_le 97 b) (nat_le b 122) h).0 in
    ap (λ t. nat_le 65 b && t) (lt-leb b 90 (omega (arith, low))) ∙ none_and (nat_le 65 b)

lower_is_not_upper : (name : List ℕ) → is_lower_name name ≡ true → is_upper_name name ≡ false
lower_is_not_upper [] h = refl
lower_is_not_upper (b ∷ bs) h = ap (λ t. t && is_name (b ∷ bs)) (not_upper b (and_parts (is_ascii_lowercase b) (is_name (b ∷ bs)) h).0)

-- the name of a metavariable
pub upper_printed : (name : List ℕ) → is_upper_name name ≡ true → Prints Ends name (IsUpper name)
upper_printed name upper =
    name_printed name (IsUpper name) (upper_is_name name upper)
    (λ at.
    let spelled : Spelled = record { name = name; at = at } in
    let other : TextWord = cond (is_proper name) (Lower spelled) (Fixed (unwrap_or (word_class name) 255)) in
    (spelled, ap (λ t. cond t (Upper spelled) other ∷ []) upper, refl))

-- the name of a fact or a rule
pub lower_printed : (name : List ℕ) → is_proper name ≡ true → Prints Ends name (IsLower name)
lower_printed name proper =
    let lower = (and_parts (is_lower_name name) _ proper).0 in
    name_printed name (IsLower name) (lower_is_name name lower)
    (λ at.
    let spelled : Spelled = record { name = name; at = at } in
    let word = λ (t : Bool). cond t (Lower spelled) (Fixed (unwrap_or (word_class name) 255)) in
    (spelled, ap (λ t. cond t (Upper spelled) (word (is_proper name)) ∷ []) (lower_is_not_upper name lower) ∙ ap (λ t. word t ∷ []) proper, refl))

-- ---- numbers

-- the words are those of a number in range
pub record IsNumber (number : ℤ) (words : List TextWord) : Type 0 where
  pub negative : Bool
  pub size : ℕ
  pub same : words ≡ number_words negative size
  pub means : number_of negative size ≡ number
  pub in_range : NumberInRange negative size

within : (size : ℕ) → size ≤ 2 ^ 63 → min size (2 ^ 63) ≡ size
within size small = omega (arith, small)

means_positive : (n : ℕ) → n < 2 ^ 63 → number_of false n ≡ pos n
means_positive n small =
    ap (λ m. unwrap_or (signed false m) (pos 0)) (within n (omega (arith, small)))
    ∙ ap (λ t. unwrap_or (cond t None (Some (pos n))) (pos 0)) (ne_eqb n (2 ^ 63) (λ e. omega (arith, e, small)))

means_negative : (n : ℕ) → n < 2 ^ 63 → number_of true (suc n) ≡ negsuc n
means_negative n small = ap (λ m. unwrap_or (signed true m) (pos 0)) (within (suc n) (omega (arith, small)))

pub number_printed : (number : ℤ) → mag number < 2 ^ 63 → Prints Ends (signed_decimal number) (IsNumber number)
number_printed (pos n) small =
    let most : n ≤ 2 ^ 63 = omega (arith, small) in
    record {
      pieces = Digits (decimal n) ∷ [];
      spells = append-nil (decimal n);
      are = λ rest h. (number_piece n rest most h, tt);
      says = λ at. record {
        negative = false;
        size = n;
        same = ap (λ m. Number m ∷ []) (decimal_value-decimal n most);
        means = means_positive n small;
        in_range = small;
      };
    }
number_printed (negsuc n) small =
    let most : suc n ≤ 2 ^ 63 = omega (arith, small) in
    record {
      pieces = Mark Minus ∷ Digits (decimal (suc n)) ∷ [];
      spells = ap (λ (digits : List ℕ). 45 ∷ digits) (append-nil (decimal (suc n)));
      are = λ rest h. (sign_piece Minus _, (number_piece (suc n) rest most h, tt));
      says = λ at. record {
        negative = true;
        size = suc n;
        same = ap (λ m. Fixed 11 ∷ Number m ∷ []) (decimal_value-decimal (suc n) most);
        means = means_negative n small;
        in_range = most;
      };
    }
