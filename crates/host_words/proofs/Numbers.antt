-- A number that the typed getter of `clap` reads.
use Rattle.std.proofs.Common.{◌≡◌, ◌<◌, ◌≤◌, ◌^◌, ℕ, Bool, true, false, List, Option, Some, None, refl, sym, ap, arith}
use Rattle.std.specs.Prelude.{Result, Ok, Err, option_and_then}
use Rattle.std.specs.Str.Parse.{ParsesUnsigned}
use Rattle.clap.specs.Words.{ReadsOne, Text}
use Rattle.clap.specs.ValueTests.{is_unsigned_in}
use Rattle.clap.specs.declared.builder.value_parser.ValueParser.TheVariants.{Unsigned}
use Rattle.clap.proofs.ValueTestLemmas.{accepts-Accepts, Accepts-accepts}
use Rattle.host_words.specs.Options.{number_in}

-- a text that is no number in the range
out_of_range : (least most : ℕ) (t : Text) → (is_unsigned_in least most t ≡ true → ⊥) → number_in least most t ≡ None
out_of_range least most t outside = go (is_unsigned_in least most t) refl
  where
    go : (b : Bool) → is_unsigned_in least most t ≡ b → number_in least most t ≡ None
    go true is = absurd (outside is)
    go false is = rw is refl

module _ {E : Type 0} (G : List ℕ → Result ℕ E → Type 0) (parses : (u : List ℕ) (x : Result ℕ E) → G u x → ParsesUnsigned 32 10 u x) where
  -- where the getter gives none, the text is no number in the range
  none_read : (least most : ℕ) (t : Text) → most < 2 ^ 32 → ReadsOne G t None → number_in least most t ≡ None
  none_read least most t few read = out_of_range least most t (λ is.
      let in_range = accepts-Accepts false (Unsigned least most) t is in
      parses t (Err read.0) read.1 (in_range.0, omega (arith, in_range.3)))

  -- where it gives a number, that is the one of the text, if it lies in the range
  some_read : (least most v : ℕ) (t : Text) → most < 2 ^ 32 → ReadsOne G t (Some v) → least ≤ v → v ≤ most → number_in least most t ≡ Some v
  some_read least most v t few read low high =
      let is = parses t (Ok v) read in
      let in_range : is_unsigned_in least most t ≡ true =
      Accepts-accepts false (Unsigned least most) t (is.0.0, omega (arith, is), rw (← is.1) low, rw (← is.1) high) in
      rw in_range (ap Some (sym is.1))

  other_read : (least most v : ℕ) (t : Text) → ReadsOne G t (Some v) → (least ≤ v → v ≤ most → ⊥) → number_in least most t ≡ None
  other_read least most v t read out = out_of_range least most t (λ is.
      let in_range = accepts-Accepts false (Unsigned least most) t is in
      let same = parses t (Ok v) read in
      out (rw same.1 in_range.2) (rw same.1 in_range.3))

  -- the same of the text that the getter found, or of none
  pub none_found : (least most : ℕ) (o : Option Text) → most < 2 ^ 32 → ((t : Text) → o ≡ Some t → ReadsOne G t None)
      → None ≡ option_and_then (number_in least most) o
  none_found least most None few read = refl
  none_found least most (Some t) few read = sym (none_read least most t few (read t refl))

  pub some_found : (least most v : ℕ) (o : Option Text) → most < 2 ^ 32 → (o ≡ None → Some v ≡ None) → ((t : Text) → o ≡ Some t → ReadsOne G t (Some v))
      → least ≤ v → v ≤ most → Some v ≡ option_and_then (number_in least most) o
  some_found least most v None few none read low high = none refl
  some_found least most v (Some t) few none read low high = sym (some_read least most v t few (read t refl) low high)

  pub other_found : (least most v : ℕ) (o : Option Text) → ((t : Text) → o ≡ Some t → ReadsOne G t (Some v))
      → (least ≤ v → v ≤ most → ⊥) → None ≡ option_and_then (number_in least most) o
  other_found least most v None read out = refl
  other_found least most v (Some t) read out = sym (other_read least most v t (read t refl) out)
