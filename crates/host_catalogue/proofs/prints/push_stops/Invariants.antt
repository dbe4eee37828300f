use Rattle.std.proofs.Common.{◌≡◌, ◌++◌, take}
use Rattle.host_catalogue.specs.Prints.{stops_text}
use Rattle.host_catalogue.proofs.prints.push_stops.Given as goal

abbrev pub invariant-loop-stop : goal.invariant-loop-stop
invariant-loop-stop l = l.text.items ≡ l.fn.text.items ++ stops_text l.runs (take l.stop-index l.stops)
