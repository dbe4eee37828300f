-- The numbers that options give lie in their ranges.
use Rattle.std.proofs.Common.{◌≡◌, ◌≤◌, ℕ, zero, Bool, true, false, Option, Some, None, refl, ap}
use Rattle.std.specs.Prelude.{if◌then◌else◌, option_and_then}
use Rattle.std.specs.Str.Parse.{digits_value, without_leading_plus}
use Rattle.clap.specs.Words.{Text}
use Rattle.clap.specs.ValueTests.{is_unsigned_in}
use Rattle.clap.specs.declared.builder.value_parser.ValueParser.TheVariants.{Unsigned}
use Rattle.clap.proofs.ValueTestLemmas.{accepts-Accepts}
use Rattle.host_words.specs.Options.{number_in}

abbrev number_or_none : Option ℕ → ℕ
number_or_none (Some n) = n
number_or_none None = zero

in_range : (least most v : ℕ) (t : Text) → Some v ≡ number_in least most t → (least ≤ v) × (v ≤ most)
in_range least most v t = from (is_unsigned_in least most t) refl
  where
    from : (b : Bool) → is_unsigned_in least most t ≡ b → Some v ≡ (if b then Some (digits_value 10 (without_leading_plus t)) else None) → (least ≤ v) × (v ≤ most)
    from true is some =
        let r = accepts-Accepts false (Unsigned least most) t is in
        let e : v ≡ digits_value 10 (without_leading_plus t) = ap number_or_none some in
        rw e (r.2, r.3)
    from false is none = absurd (let e = none in cc)

-- the number that was read of an option's text
pub read_in_range : (least most v : ℕ) (o : Option Text) → Some v ≡ option_and_then (number_in least most) o → (least ≤ v) × (v ≤ most)
read_in_range least most v (Some t) is = in_range least most v t is
read_in_range least most v None is = absurd (let e = is in cc)
