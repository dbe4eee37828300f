-- A JSON text with no space has no control character.
use Rattle.std.proofs.Common.{◌≡◌, ℕ, zero, suc, ◌+◌, ◌/◌, ◌%◌, ◌==◌, ◌<◌, ◌≤◌, pos, negsuc, List, [], ◌∷◌, ◌++◌, Bool, true, false, cond, decimal, refl, subst, arith}
use Rattle.std.proofs.lemmas.Bool.Decides.{nat_tests}
use Rattle.std.specs.Prelude.{nat_lt}
use Rattle.std.specs.Char.{digit_char}
use Rattle.std.specs.Fmt.{digits, digits_onto, digit_glyph}
use Rattle.std.specs.List.{AllByRecursion}
use Rattle.json.specs.Print.{escape, escape_byte, escape_letter, quoted}
use Rattle.serde_json.specs.Data.{Num, unsigned, negative, float, Data, null, boolean, number, string, array, object, Items, no_items, item, Members, no_members, member}
use Rattle.serde_json.specs.Written.{number_text, comma_if, compact_text, items_text, members_text}

module _ (P : ℕ → Type 0) where
  pub all_both : (a b : List ℕ) → AllByRecursion P a → AllByRecursion P b → AllByRecursion P (a ++ b)
  all_both [] b p q = q
  all_both (x ∷ a) b p q = (p.0, all_both a b p.1 q)

  either : (test : Bool) (a b : List ℕ) → (test ≡ true → AllByRecursion P a) → (test ≡ false → AllByRecursion P b) → AllByRecursion P (cond test a b)
  either true a b p q = p refl
  either false a b p q = q refl

  module _ (each : (d : ℕ) → d < 10 → P (48 + d)) where
    one_digit : (d : ℕ) → d < 10 → P (digit_glyph false d)
    one_digit d less = subst P (let e : 48 + d ≡ digit_glyph false d = grind (arith, nat_tests) in e) (each d less)

    more_digits : (k n : ℕ) (behind : List ℕ) → AllByRecursion P behind → AllByRecursion P (digits_onto k 10 false n behind)
    more_digits zero n behind h = h
    more_digits (suc k) n behind h =
        let here = one_digit (n % 10) (let e : n % 10 < 10 = omega arith in e) in
        either (n / 10 == 0) _ _ (λ _. (here, h)) (λ _. more_digits k (n / 10) (digit_glyph false (n % 10) ∷ behind) (here, h))

    -- so of each byte of a number, if so of each digit
    pub all_digits : (n : ℕ) → AllByRecursion P (decimal n)
    unfolding digits
    all_digits n = more_digits 64 n [] tt

abbrev pub IsNoControl : ℕ → Type 0
IsNoControl b = 32 ≤ b

abbrev pub HasNoControl : List ℕ → Type 0
HasNoControl text = AllByRecursion IsNoControl text

-- numbers

none_in_decimal : (n : ℕ) → HasNoControl (decimal n)
none_in_decimal = all_digits IsNoControl (λ d _. omega arith)

none_in_number : (n : Num) → HasNoControl (number_text n)
none_in_number (unsigned n) = none_in_decimal n
none_in_number (negative (pos n)) = none_in_decimal n
none_in_number (negative (negsuc n)) = (omega arith, none_in_decimal (suc n))
none_in_number (float x) = tt

-- strings

letter : (x : ℕ) → 0 < escape_letter x → 32 ≤ escape_letter x
letter x h = grind (arith, nat_tests)

hex : (d : ℕ) → 32 ≤ digit_char d
hex d = grind (arith, nat_tests)

none_in_escape : (x : ℕ) → HasNoControl (escape_byte x)
unfolding escape_byte
none_in_escape x =
    either IsNoControl (nat_lt 0 (escape_letter x)) _ _
    (λ h. let some : 0 < escape_letter x = grind (arith, nat_tests) in (omega arith, (letter x some, tt)))
    (λ _. either IsNoControl (nat_lt x 32) _ _
    (λ _. (omega arith, (omega arith, (omega arith, (omega arith, (hex (x / 16), (hex (x % 16), tt)))))))
    (λ h. (grind (arith, nat_tests), tt)))

none_in_string : (s : List ℕ) → HasNoControl (escape s)
none_in_string [] = tt
none_in_string (x ∷ s) = all_both IsNoControl (escape_byte x) (escape s) (none_in_escape x) (none_in_string s)

none_in_quoted : (s : List ℕ) → HasNoControl (quoted s)
none_in_quoted s = (omega arith, all_both IsNoControl (escape s) (34 ∷ []) (none_in_string s) (omega arith, tt))

none_in_boolean : (b : Bool) → HasNoControl (compact_text (boolean b))
none_in_boolean true = (omega arith, (omega arith, (omega arith, (omega arith, tt))))
none_in_boolean false = (omega arith, (omega arith, (omega arith, (omega arith, (omega arith, tt)))))

none_in_comma : (later : Bool) → HasNoControl (comma_if later)
none_in_comma true = (omega arith, tt)
none_in_comma false = tt

mutual
  pub none_in_text : (d : Data) → HasNoControl (compact_text d)
  none_in_text null = (omega arith, (omega arith, (omega arith, (omega arith, tt))))
  none_in_text (boolean b) = none_in_boolean b
  none_in_text (number n) = none_in_number n
  none_in_text (string s) = none_in_quoted s
  none_in_text (array ds) = (omega arith, none_in_items false ds)
  none_in_text (object ms) = (omega arith, none_in_members false ms)

  none_in_items : (later : Bool) (ds : Items) → HasNoControl (items_text later ds)
  none_in_items later no_items = (omega arith, tt)
  none_in_items later (item d ds) =
      all_both IsNoControl (comma_if later) (compact_text d ++ items_text true ds) (none_in_comma later)
      (all_both IsNoControl (compact_text d) (items_text true ds) (none_in_text d) (none_in_items true ds))

  none_in_members : (later : Bool) (ms : Members) → HasNoControl (members_text later ms)
  none_in_members later no_members = (omega arith, tt)
  none_in_members later (member k d ms) =
      let value = all_both IsNoControl (compact_text d) (members_text true ms) (none_in_text d) (none_in_members true ms) in
      let colon : HasNoControl (58 ∷ (compact_text d ++ members_text true ms)) = (omega arith, value) in
      all_both IsNoControl (comma_if later) (quoted k ++ 58 ∷ (compact_text d ++ members_text true ms)) (none_in_comma later)
      (all_both IsNoControl (quoted k) (58 ∷ (compact_text d ++ members_text true ms)) (none_in_quoted k) colon)
