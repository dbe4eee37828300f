use Rattle.std.proofs.Common.{◌≡◌, ◌*◌, ◌+◌, ◌^◌, Bool, ℕ, refl, sym, ◌∙◌, arith}
use Rattle.leg_masks.specs.Interval.{leg_of}
use Rattle.history_model.specs.Booking.{State, is_occupied}
use Rattle.history_model.specs.Words.{number_of_bits}
use Rattle.history_model.proofs.WordLemmas.{bit_fits, bit_more, taken_more, free_more}
use Rattle.history_model.proofs.shown.word_of_place.Goals as goal
use Rattle.history_model.proofs.shown.word_of_place.Goals.{then-is_taken, else-is_taken}

pub loop-bit-init : goal.loop-bit-init
unfolding number_of_bits
loop-bit-init c = record { value = refl; below = omega arith; word = refl }

pub overflow_mul-value : goal.overflow_mul-value
overflow_mul-value c = omega (arith, bit_fits c.loop-bit.bit c.loop-bit.value c.loop-bit-test.true c.loop-bit.invariant.value)

abbrev occupied : State → ℕ → ℕ → ℕ → Bool
occupied s place half bit = is_occupied s place (leg_of half bit)

pub loop-bit-preserved : goal.loop-bit-preserved
loop-bit-preserved c =
    let twice : c.loop-bit.value * 2 ≡ 2 ^ (c.loop-bit.bit + 1) = bit_more c.loop-bit.bit c.loop-bit.value c.loop-bit.invariant.value in
    elim c.if-is_taken.branch [
      | then-is_taken w ↦ record {
        value = twice;
        below = omega (arith, c.loop-bit.invariant.value, c.loop-bit.invariant.below);
        word = taken_more (occupied c.args.bookings.now c.args.place c.args.half) c.loop-bit.bit c.loop-bit.word c.loop-bit.value c.if-is_taken.word (sym w.if-is_taken.true ∙ c.is_taken.ensures) c.loop-bit.invariant.value c.loop-bit.invariant.word w.word-is;
      }
      | else-is_taken w ↦ record {
        value = twice;
        below = omega (arith, c.loop-bit.invariant.value, c.loop-bit.invariant.below);
        word = free_more (occupied c.args.bookings.now c.args.place c.args.half) c.loop-bit.bit c.loop-bit.word c.if-is_taken.word (sym w.if-is_taken.false ∙ c.is_taken.ensures) c.loop-bit.invariant.word w.word-is;
      }
    ]
