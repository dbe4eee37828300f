use Rattle.std.proofs.Common.{inr}
use Rattle.plain_host.proofs.PlacesLaws.{row_started}
use Rattle.plain_host.proofs.PlacesSeen.{list_is_free, words_are_free}
use Rattle.plain_host.proofs.PlacesTries.{finds_free}
use Rattle.plain_host.proofs.PlacesParty.{seats_free}
use Rattle.plain_host.proofs.places.places_are_found.Goals as goal

pub returns : goal.returns
returns c = record {
  free = λ cat desk span place lone. list_is_free cat desk span place lone;
  words = words_are_free;
  first = finds_free;
  together = λ layout s desk g free answer won steps fits differ says legal seats.
      seats_free free layout s desk g answer won steps (record { fits = inr fits; differ = differ; says = says }) legal seats;
  starts = row_started;
}
