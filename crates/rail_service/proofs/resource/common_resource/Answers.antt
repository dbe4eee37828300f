use Rattle.std.proofs.Common.{◌∙◌, ap}
use Rattle.rail_service.specs.Paths.{resource_at}
use Rattle.rail_service.proofs.Pathways.{Offers-named, Bookings-named, Reservations-named}
use Rattle.rail_service.proofs.resource.common_resource.Goals as goal

pub returns-then-is_path : goal.returns-then-is_path
returns-then-is_path c = ap resource_at (c.is_path.ensures c.if-is_path.true) ∙ Reservations-named

pub returns-then-is_path-2 : goal.returns-then-is_path-2
returns-then-is_path-2 c = ap resource_at (c.is_path-2.ensures c.if-is_path-2.true) ∙ Bookings-named

pub returns-then-is_path-3 : goal.returns-then-is_path-3
returns-then-is_path-3 c = ap resource_at (c.is_path-3.ensures c.if-is_path-3.true) ∙ Offers-named
