use Rattle.std.proofs.Common.{◌≡◌, ◌++◌, take}
use Rattle.host_catalogue.specs.Prints.{places_text}
use Rattle.host_catalogue.proofs.prints.push_places.Given as goal

abbrev pub invariant-loop-place : goal.invariant-loop-place
invariant-loop-place l = l.text.items ≡ l.fn.text.items ++ places_text (take l.place-index l.places)
