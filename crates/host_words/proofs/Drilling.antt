-- The numbers of the words of `drill`.
use Rattle.std.proofs.Common.{◌≡◌, ◌∙◌, ◌≤◌, ℕ, Bool, true, false, List, Option, Some, None, refl, sym, ap, subst, codes}
use Rattle.std.specs.Prelude.{IfSome, option_and_then}
use Rattle.std.specs.Str.Parse.{digits_value, without_leading_plus}
use Rattle.std.proofs.lemmas.Option.{none-some}
use Rattle.clap.specs.Words.{Row, Text}
use Rattle.clap.specs.ValueTests.{is_unsigned_in}
use Rattle.clap.specs.declared.builder.value_parser.ValueParser.TheVariants.{Unsigned}
use Rattle.clap.proofs.ValueTestLemmas.{accepts-Accepts}
use Rattle.host_words.specs.Options.{number_in, number_of, matched}
use Rattle.host_words.specs.Drill.{drill_app, drill_of, drill_words}

abbrev value_or : ℕ → Option ℕ → ℕ
value_or n (Some v) = v
value_or n None = n

-- a number of the range lies in it
within_read : (least most v : ℕ) (t : Text) → number_in least most t ≡ Some v → (least ≤ v) × (v ≤ most)
within_read least most v t is = go (is_unsigned_in least most t) refl
  where
    go : (b : Bool) → is_unsigned_in least most t ≡ b → (least ≤ v) × (v ≤ most)
    go true inside =
        let in_range = accepts-Accepts false (Unsigned least most) t inside in
        let given : number_in least most t ≡ Some (digits_value 10 (without_leading_plus t)) = rw inside refl in
        let same : digits_value 10 (without_leading_plus t) ≡ v = ap (value_or 0) (sym given ∙ is) in
        subst (λ (n : ℕ). (least ≤ n) × (n ≤ most)) same (in_range.2, in_range.3)
    go false out =
        let given : number_in least most t ≡ None = rw out refl in
        absurd (none-some v (sym given ∙ is))

pub found_within : (least most v : ℕ) (o : Option Text) → Some v ≡ option_and_then (number_in least most) o → (least ≤ v) × (v ≤ most)
found_within least most v (Some t) is = within_read least most v t (sym is)
found_within least most v None is = absurd (none-some v (sym is))

module _ (words : List Text) (rows : List Row) (rows_are : matched drill_app words ≡ Some rows) where
  pub no_seed : number_of 0 65535 (codes "seed") rows ≡ None → drill_words words ≡ None
  no_seed none = ap (option_and_then drill_of) rows_are ∙ rw none refl

  pub no_workers : (seed : ℕ) → number_of 0 65535 (codes "seed") rows ≡ Some seed
      → number_of 1 16 (codes "workers") rows ≡ None → drill_words words ≡ None
  no_workers seed a none = ap (option_and_then drill_of) rows_are ∙ rw (a, none) refl

  pub no_size : (seed workers : ℕ) → number_of 0 65535 (codes "seed") rows ≡ Some seed → number_of 1 16 (codes "workers") rows ≡ Some workers
      → number_of 1 2000 (codes "size") rows ≡ None → drill_words words ≡ None
  no_size seed workers a b none = ap (option_and_then drill_of) rows_are ∙ rw (a, b, none) refl

  pub no_places : (seed workers size : ℕ) → number_of 0 65535 (codes "seed") rows ≡ Some seed → number_of 1 16 (codes "workers") rows ≡ Some workers
      → number_of 1 2000 (codes "size") rows ≡ Some size
      → number_of 1 1200 (codes "places") rows ≡ None → drill_words words ≡ None
  no_places seed workers size a b d none = ap (option_and_then drill_of) rows_are ∙ rw (a, b, d, none) refl

  pub all_numbers : (seed workers size places : ℕ) → number_of 0 65535 (codes "seed") rows ≡ Some seed → number_of 1 16 (codes "workers") rows ≡ Some workers
      → number_of 1 2000 (codes "size") rows ≡ Some size → number_of 1 1200 (codes "places") rows ≡ Some places
      → drill_words words ≡ Some (record { seed = seed; workers = workers; size = size; places = places })
  all_numbers seed workers size places a b d e = ap (option_and_then drill_of) rows_are ∙ rw (a, b, d, e) refl

pub some_within : (least most : ℕ) (o : Option ℕ) (v : ℕ) → IfSome o (λ n. (least ≤ n) × (n ≤ most)) → o ≡ Some v → (least ≤ v) × (v ≤ most)
some_within least most o v within is = subst (λ (p : Option ℕ). IfSome p (λ n. (least ≤ n) × (n ≤ most))) is within
