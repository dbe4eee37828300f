-- Where a number ends in a text.
use Rattle.std.proofs.Common.{◌≡◌, ℕ, ◌+◌, zero, suc, ◌*◌, ◌/◌, ◌%◌, ◌^◌, ◌<◌, ◌≤◌, true, List, [], ◌∷◌, ◌++◌, length, get_or, take, Some, None, refl, subst, sym, ap, ◌∙◌, arith, decimal, append_assoc, true≢false}
use Rattle.std.specs.Char.{is_ascii_digit}
use Rattle.std.specs.List.{AllByRecursion}
use Rattle.std.specs.Str.Parse.{digits_value}
use Rattle.std.proofs.lemmas.Fmt.{decimal_by_steps_wide, decimal_digit, decimal_injective, decimal_is_IsNumeral_wide, decimal_nonempty, decimal_step_wide, first_decimal}
use Rattle.std.proofs.Math.Seq.{take-append_seam}
use Rattle.std.proofs.lemmas.Bool.Decides.{nat_tests}
use Rattle.std.proofs.lemmas.Str.Parse.{digits_value-take-le}
use Rattle.line_text.specs.Lines.{IsNumber}
use Rattle.line_text.specs.Reads.{IsCut, Reads, number_with}

abbrev pub AreDigits : List ℕ → Type 0
AreDigits ds = AllByRecursion (λ c. is_ascii_digit c ≡ true) ds

digit : (d : ℕ) → d < 10 → is_ascii_digit (48 + d) ≡ true
digit d h = grind (arith, nat_tests)

both : (a b : List ℕ) → AreDigits a → AreDigits b → AreDigits (a ++ b)
both [] b p q = q
both (x ∷ a) b p q = (p.0, both a b p.1 q)

pub AreDigits-decimal : (n : ℕ) → n < 10 ^ 64 → AreDigits (decimal n)
AreDigits-decimal =
    decimal_by_steps_wide (λ _ ds. AreDigits ds) (λ n h. (digit n h, tt))
    (λ n ds h before. both ds _ before (digit (n % 10) (omega arith), tt))

-- digits up to where none follows are known from the text
pub same_digits : (a b x y : List ℕ) → AreDigits a → AreDigits b → IsCut x → IsCut y → a ++ x ≡ b ++ y → (a ≡ b) × (x ≡ y)
same_digits [] [] x y p q cx cy e = (refl, e)
same_digits [] (d ∷ b) [] y p q cx cy e = cc
same_digits [] (d ∷ b) (c ∷ x) y p q cx cy e = absurd (true≢false (sym q.0 ∙ (let h : is_ascii_digit d ≡ is_ascii_digit c = cc in h) ∙ cx))
same_digits (d ∷ a) [] x [] p q cx cy e = cc
same_digits (d ∷ a) [] x (c ∷ y) p q cx cy e = absurd (true≢false (sym p.0 ∙ (let h : is_ascii_digit d ≡ is_ascii_digit c = cc in h) ∙ cy))
same_digits (d ∷ a) (c ∷ b) x y p q cx cy e =
    let h = same_digits a b x y p.1 q.1 cx cy (let t : a ++ x ≡ b ++ y = cc in t) in
    ((let t : d ∷ a ≡ c ∷ b = let k = h.0 in cc in t), h.1)

-- digits that stand there begin those up to where none follows
pub first_digits : (a b x y : List ℕ) → AreDigits a → IsCut y → a ++ x ≡ b ++ y → (ds : List ℕ) × (b ≡ a ++ ds)
first_digits [] b x y p cy e = (b, refl)
first_digits (d ∷ a) [] x [] p cy e = cc
first_digits (d ∷ a) [] x (c ∷ y) p cy e = absurd (true≢false (sym p.0 ∙ (let h : is_ascii_digit d ≡ is_ascii_digit c = cc in h) ∙ cy))
first_digits (d ∷ a) (c ∷ b) x y p cy e =
    let h = first_digits a b x y p.1 cy (let t : a ++ x ≡ b ++ y = cc in t) in
    (h.0, (let t : c ∷ b ≡ d ∷ (a ++ h.0) = let k = h.1 in cc in t))

-- a number up to where no digit follows is known from the text
pub same_number : (m n : ℕ) (x y : List ℕ) → m < 2 ^ 64 → n < 2 ^ 64 → IsCut x → IsCut y → decimal m ++ x ≡ decimal n ++ y → (m ≡ n) × (x ≡ y)
same_number m n x y fm fn cx cy e =
    let h = same_digits (decimal m) (decimal n) x y (AreDigits-decimal m (omega arith)) (AreDigits-decimal n (omega arith)) cx cy e in
    (decimal_injective m n fm fn h.0, h.1)

-- and none that stands there is greater
pub no_greater : (m n : ℕ) (x y : List ℕ) → m < 10 ^ 64 → n < 10 ^ 64 → IsCut y → decimal m ++ x ≡ decimal n ++ y → m ≤ n
no_greater m n x y fm fn cy e =
    let h = first_digits (decimal m) (decimal n) x y (AreDigits-decimal m fm) cy e in
    let v = (decimal_is_IsNumeral_wide m fm).1 in
    let w = (decimal_is_IsNumeral_wide n fn).1 in
    let front : take (length (decimal m)) (decimal n) ≡ decimal m = ap (take (length (decimal m))) h.1 ∙ take-append_seam (decimal m) h.0 in
    let less = digits_value-take-le 10 (decimal n) (length (decimal m)) (omega arith) in
    let same = ap (digits_value 10) front in
    omega arith

-- one digit more
decimal_more : (n d : ℕ) → 0 < n → d < 10 → n * 10 + d < 10 ^ 64 → decimal (n * 10 + d) ≡ decimal n ++ ((48 + d) ∷ [])
decimal_more n d some h fits =
    let front : (n * 10 + d) / 10 ≡ n = omega arith in
    let last : (n * 10 + d) % 10 ≡ d = omega arith in
    decimal_step_wide (n * 10 + d) (omega arith) fits ∙ rw (front, last) refl

-- what is read of a number

pub number_is : (n : ℕ) (old new : List ℕ) → n < 2 ^ 64 → IsCut new → old ≡ decimal n ++ new → Reads decimal IsNumber old new (Some n)
number_is n old new fits cut is =
    record {
      found = (fits, is);
      only = λ m rest fm cm e.
          let h = same_number n m new rest fits fm cut cm (sym is ∙ e) in (ap (λ k. Some k) h.0, h.1);
    }

not_zero : (ds rest new : List ℕ) → 48 < get_or ds 0 0 → ds ++ rest ≡ 48 ∷ new → ⊥
not_zero [] rest new more e = absurd (omega arith)
not_zero (d ∷ ds) rest new more e = let h : d ≡ 48 = cc in omega arith

zero_alone : (m : ℕ) (rest new : List ℕ) → m < 2 ^ 64 → decimal m ++ rest ≡ 48 ∷ new → (Some 0 ≡ Some m) × (new ≡ rest)
zero_alone zero rest new fits e =
    let h : decimal 0 ≡ 48 ∷ [] = decimal_digit 0 (omega arith) in
    let t : 48 ∷ rest ≡ 48 ∷ new = sym (ap (λ (ds : List ℕ). ds ++ rest) h) ∙ e in
    (refl, (let u : new ≡ rest = cc in u))
zero_alone (suc m) rest new fits e = absurd (not_zero (decimal (suc m)) rest new (first_decimal (suc m) (omega arith) fits) e)

pub zero_is : (old new : List ℕ) → old ≡ 48 ∷ new → Reads decimal IsNumber old new (Some 0)
zero_is old new is =
    let h : decimal 0 ≡ 48 ∷ [] = decimal_digit 0 (omega arith) in
    record {
      found = (omega arith, is ∙ sym (ap (λ (ds : List ℕ). ds ++ new) h));
      only = λ m rest fm cm e. zero_alone m rest new fm (sym e ∙ is);
    }

pub no_digit : (ds rest : List ℕ) → 0 < length ds → AreDigits ds → IsCut (ds ++ rest) → ⊥
no_digit [] rest some are cut = absurd (omega arith)
no_digit (d ∷ ds) rest some are cut = true≢false (sym are.0 ∙ cut)

pub none_is : (old new : List ℕ) → IsCut old → Reads decimal IsNumber old new None
none_is old new cut =
    record {
      found = tt;
      only = λ m rest fm cm e.
          absurd (no_digit (decimal m) rest (decimal_nonempty m fm) (AreDigits-decimal m (omega arith)) (subst IsCut e cut));
    }

pub too_great : (n : ℕ) (old mid new : List ℕ) → 2 ^ 64 ≤ n → n < 10 ^ 64 → old ≡ decimal n ++ mid → Reads decimal IsNumber old new None
too_great n old mid new great fits is =
    record {
      found = tt;
      only = λ m rest fm cm e.
          let h = no_greater n m mid rest fits (omega arith) cm (sym is ∙ e) in absurd (omega arith);
    }

-- the digit behind a number
pub digit_behind : (n d : ℕ) (old mid new : List ℕ) → 0 < n → n < 2 ^ 64 → d < 10 → old ≡ decimal n ++ mid → mid ≡ (48 + d) ∷ new → old ≡ decimal (n * 10 + d) ++ new
digit_behind n d old mid new some fits h is e =
    is ∙ ap (λ (x : List ℕ). decimal n ++ x) e
    ∙ (sym (append_assoc (decimal n) ((48 + d) ∷ []) new) ∙ ap (λ (x : List ℕ). x ++ new) (sym (decimal_more n d some h (omega arith))))

pub first_digit : (d : ℕ) (old new : List ℕ) → d < 10 → old ≡ (48 + d) ∷ new → ((rest : List ℕ) → ¬ (old ≡ 48 ∷ rest)) → (0 < d) × (old ≡ decimal d ++ new)
first_digit zero old new h is other = absurd (other new is)
first_digit (suc d) old new h is other = (omega arith, is ∙ ap (λ (x : List ℕ). x ++ new) (sym (decimal_digit (suc d) h)))

pub more_is : (n d k : ℕ) → Some k ≡ number_with n d → (k ≡ n * 10 + d) × (k < 2 ^ 64)
more_is n d k e = grind (arith, nat_tests)

pub more_none : (n d : ℕ) → None ≡ number_with n d → 2 ^ 64 ≤ n * 10 + d
more_none n d e = grind (arith, nat_tests)
