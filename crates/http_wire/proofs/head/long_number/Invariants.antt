use Rattle.std.proofs.Common.{◌≡◌, ℕ, ◌<◌, ◌^◌, drop, get_or, true}
use Rattle.std.specs.Char.{is_ascii_digit}
use Rattle.std.specs.Str.Parse.{digits_value, digits_value_after}
use Rattle.http_wire.proofs.head.long_number.Given as goal

abbrev pub invariant-loop-digit : goal.invariant-loop-digit
invariant-loop-digit l = record {
  rest : digits_value_after 10 l.number (drop l.digit-index l.digits) ≡ digits_value 10 l.digits;
  each : (k : ℕ) → k < l.digit-index → is_ascii_digit (get_or l.digits k 0) ≡ true;
  small : l.number < 10 ^ l.digit-index;
}
