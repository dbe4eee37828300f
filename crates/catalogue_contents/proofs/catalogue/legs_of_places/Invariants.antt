use Rattle.std.proofs.Common.{◌≡◌, All, map, take}
use Rattle.catalogue_contents.specs.Contents.{place_legs, IsNumberOfLegs}
use Rattle.catalogue_contents.proofs.catalogue.legs_of_places.Given as goal

abbrev pub invariant-loop-place : goal.invariant-loop-place
invariant-loop-place l = record {
  legs : l.legs.items ≡ map (place_legs l.runs) (take l.place-index l.places);
  within : All IsNumberOfLegs l.legs.items;
}
