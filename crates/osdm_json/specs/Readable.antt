-- What holds of each command that was read, for the service's conditions.
use Rattle.std.specs.Prelude.{◌≡◌, ◌≢◌, ◌≤◌, ◌<◌, true, length, IfSome, slice_get, Some}
use Rattle.rail_time.specs.Moments.{last_second}
use Rattle.train_runs.specs.declared.segment.Segment.{Segment}
use Rattle.offer_codes.specs.Offers.{offer_view, is_offer, is_party}
use Rattle.offer_codes.specs.Refunds.{is_refund}
use Rattle.offer_codes.specs.Exchanges.{exchange_view, is_exchange}
use Rattle.train_runs.specs.Stops.{RunView, legs_of}
use Rattle.train_runs.specs.declared.wish.TripWish.{TripWish}
use Rattle.catalogue_contents.specs.Contents.{CatalogueView}
use Rattle.osdm_json.specs.declared.command.Command.{Command}
use Rattle.osdm_json.specs.declared.command.Command.TheVariants as command

-- both stations are known and differ, and the window is one
pub record IsTripWish (cat : CatalogueView) (w : TripWish) : Type 0 where
  pub origin : w.origin.0 < length cat.runs.stations
  pub destination : w.destination.0 < length cat.runs.stations
  pub differ : w.origin.0 ≢ w.destination.0
  pub window : w.earliest ≤ w.latest
  pub in_years : w.latest ≤ last_second

-- legs of a run of the catalogue
pub record IsWithinRun (cat : CatalogueView) (s : Segment) : Type 0 where
  pub run : RunView
  pub found : slice_get cat.runs.runs s.run.0 ≡ Some run
  pub some : s.span.from < s.span.to
  pub legs : s.span.to ≤ legs_of run

abbrev pub IsReadable : CatalogueView → Command → Type 0
IsReadable cat (command.Offers trip adults children class wanted) =
    IsTripWish cat trip × (is_party adults children ≡ true) × (wanted ≤ 31)
IsReadable cat (command.Book offer together) = IfSome offer (λ c. is_offer (offer_view c) ≡ true)
IsReadable cat (command.Reserve segment class count wanted together) =
    IsWithinRun cat segment × (1 ≤ count) × (count ≤ 8) × (wanted ≤ 31)
IsReadable cat (command.Show row) = Unit {0}
IsReadable cat (command.Release row) = Unit {0}
IsReadable cat (command.Confirm row) = Unit {0}
IsReadable cat (command.Fulfil row) = Unit {0}
IsReadable cat (command.QuoteRefund row) = Unit {0}
IsReadable cat (command.AcceptRefund row code) = IfSome code (λ c. is_refund c ≡ true)
IsReadable cat (command.QuoteExchange row offer) = IfSome offer (λ c. is_offer (offer_view c) ≡ true)
IsReadable cat (command.AcceptExchange row code) = IfSome code (λ c. is_exchange (exchange_view c) ≡ true)
IsReadable cat (command.Places segment) = IsWithinRun cat segment
IsReadable cat command.Sweep = Unit {0}
