-- Two texts of a body, as contracts see them.
use Rattle.osdm_json.specs.declared.offers.TripEnds.{TripEnds as ReadEnds}
use Rattle.osdm_json.specs.OfferBodies.{TripEnds}

abbrev pub ends_view : ReadEnds → TripEnds
ends_view e = record { origin = e.origin.now; destination = e.destination.now }
