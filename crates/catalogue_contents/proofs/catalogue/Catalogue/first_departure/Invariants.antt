use Rattle.std.proofs.Common.{◌≡◌, drop, fold, min}
use Rattle.catalogue_contents.specs.Contents.{least_departure, departure_of}
use Rattle.catalogue_contents.proofs.catalogue.Catalogue.first_departure.Given as goal

abbrev pub invariant-loop-item : goal.invariant-loop-item
invariant-loop-item l = fold (λ least item. min least (departure_of l.self item)) l.least (drop l.item-index l.items) ≡ least_departure l.self l.items
