-- The candidates of a segment differ.
use Rattle.std.proofs.Common.{◌≢◌, ℕ, ◌+◌, ◌<◌, List, [], ◌∷◌, map, arith}
use Rattle.std.specs.List.{AllByRecursion}
use Rattle.rail_ids.specs.declared.PlaceNo.{PlaceNo}
use Rattle.place_map.specs.Candidates.{candidates_of, AreRising}
use Rattle.place_map.proofs.Numbers.{candidates_rise}
use Rattle.train_runs.specs.declared.segment.Segment.{Segment}
use Rattle.offer_codes.specs.Offers.{OfferView}
use Rattle.catalogue_contents.specs.Contents.{CatalogueView}
use Rattle.history_model.specs.Lists.{Pairwise}
use Rattle.hold_core.specs.Tries.{place_number}
use Rattle.reservation_service.specs.Holding.{candidates_in}

from_least : (least n : ℕ) (ns : List PlaceNo) → n < least → AreRising least ns → AllByRecursion (λ q. n ≢ q) (map place_number ns)
from_least least n [] less rise = tt
from_least least n (p ∷ ps) less rise = ((λ e. omega (arith, e, less, rise.0)), from_least (p.0 + 1) n ps (omega (arith, less, rise.0)) rise.1)

pub rising_apart : (least : ℕ) (ns : List PlaceNo) → AreRising least ns → Pairwise (λ p q. p ≢ q) (map place_number ns)
rising_apart least [] rise = tt
rising_apart least (p ∷ ps) rise = (from_least (p.0 + 1) p.0 ps (omega arith) rise.1, rising_apart (p.0 + 1) ps rise.1)

pub candidates_apart : (cat : CatalogueView) (o : OfferView) (s : Segment) → Pairwise (λ p q. p ≢ q) (candidates_in cat o s)
candidates_apart cat o s = rising_apart 0 (candidates_of s.run.0 o.class o.wanted cat.places) (candidates_rise s.run.0 o.class o.wanted cat.places)
