use Rattle.std.proofs.Common.{◌≡◌, ◌<◌, ◌^◌}
use Rattle.leg_masks.specs.Interval.{leg_of}
use Rattle.history_model.specs.Booking.{is_occupied}
use Rattle.history_model.specs.Words.{number_of_bits}
use Rattle.history_model.proofs.shown.word_of_place.Given as goal

abbrev pub invariant-loop-bit : goal.invariant-loop-bit
invariant-loop-bit l = record {
  value : l.value ≡ 2 ^ l.bit;
  below : l.word < 2 ^ l.bit;
  word : l.word ≡ number_of_bits (λ bit. is_occupied l.bookings l.place (leg_of l.half bit)) l.bit;
}
