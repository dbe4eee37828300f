use Rattle.std.proofs.Common.{◌≡◌, length}
use Rattle.http_wire.specs.HeadLines.{says_close}
use Rattle.http_wire.proofs.served.says_close.Given as goal

abbrev pub invariant-words : goal.invariant-words
invariant-words l = says_close l.rest ≡ says_close l.fn.value

abbrev pub decreases-words : goal.decreases-words
decreases-words l = length l.rest
