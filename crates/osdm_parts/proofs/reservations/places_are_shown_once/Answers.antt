use Rattle.osdm_parts.proofs.Shown.{shown_once}
use Rattle.osdm_parts.proofs.reservations.places_are_shown_once.Goals as goal

pub returns : goal.returns
returns c = record { once = shown_once }
