use Rattle.std.proofs.Common.{◌≡◌, ◌<◌, ◌++◌, ◌^◌, length, decimal}
use Rattle.line_text.proofs.reader.Reader.number.Given as goal

abbrev pub invariant-loop-digit : goal.invariant-loop-digit
invariant-loop-digit l =
    record { some : 0 < l.number; fits : l.number < 2 ^ 64; is : l.fn.self.rest.now ≡ decimal l.number ++ l.self.rest.now }

abbrev pub decreases-loop-digit : goal.decreases-loop-digit
decreases-loop-digit l = length l.self.rest.now
