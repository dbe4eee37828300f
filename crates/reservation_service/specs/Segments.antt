-- Places for one segment of an offer.
use Rattle.std.specs.Prelude.{◌≡◌, ◌≤◌, ◌+◌, true, Bool, [], ◌∷◌, length}
use Rattle.history_model.specs.Booking.{most_items}
use Rattle.claim_rule.specs.Rule.{BooksView, DeskView}
use Rattle.claim_rule.specs.Holds.{HoldView}
use Rattle.claim_rule.specs.Out.{HasNotedItems}
use Rattle.train_runs.specs.declared.segment.Segment.{Segment}
use Rattle.offer_codes.specs.declared.code.OfferCode.{OfferCode}
use Rattle.offer_codes.specs.Offers.{OfferView, offer_view, is_party}
use Rattle.catalogue_contents.specs.Contents.{CatalogueView}
use Rattle.offer_prices.specs.Runs.{is_of_runs}
use Rattle.shop.specs.declared.Shop.{Shop}
use Rattle.reservation_service.specs.declared.holding.Placing.{Placing}
use Rattle.reservation_service.specs.Outs.{IsOutAt, StaysOut}
use Rattle.reservation_service.specs.Holding.{items_wanted, PlacesAll}

-- what is the same at each segment: what is sold, the offer, and whether its passengers are to sit together
pub record Reserving : Type 0 where
  pub cat : CatalogueView
  pub books : BooksView
  pub offer : OfferView
  pub together : Bool

abbrev pub reserving : Shop → OfferCode → Bool → Reserving
reserving shop offer together =
    record { cat = shop.cat.now; books = shop.books.now; offer = offer_view offer; together = together }

-- The hold is out with its items noted, and has room for the passengers' items at this segment, whose run holds its
-- span. There are one to eight passengers.
pub record MayPlace (r : Reserving) (s : Segment) (desk : DeskView) (hold : HoldView) : Type 0 where
  pub out : IsOutAt r.books desk hold
  pub noted : HasNotedItems desk hold
  pub party : is_party r.offer.adults r.offer.children ≡ true
  pub run : is_of_runs r.cat.runs s ≡ true
  pub room : length hold.items + items_wanted r.offer s ≤ most_items

-- From one desk and its hold to the next: places were added for this segment, all items of the hold are noted, and it
-- is still its row's.
pub record Places (r : Reserving) (s : Segment) (placing : Placing) (old new : DeskView × HoldView) : Type 0 where
  pub placed :
      PlacesAll r.cat r.offer r.together old.1.row old.1.items (s ∷ []) placing new.1.items old.0 new.0
  pub out : StaysOut r.books old.0 new.0 new.1
  pub noted : HasNotedItems new.0 new.1
  pub row : new.1.row ≡ old.1.row
