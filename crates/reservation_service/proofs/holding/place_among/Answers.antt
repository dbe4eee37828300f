use Rattle.std.proofs.Common.{ap}
use Rattle.claim_rule.specs.Holds.{HoldView}
use Rattle.offer_codes.specs.Offers.{offer_view}
use Rattle.reservation_service.proofs.Placed.{party_placed}
use Rattle.reservation_service.proofs.holding.place_among.Goals as goal

pub returns : goal.returns
returns c =
    let added = c.add_party.ensures in
    let cat = c.args.shop.now.cat.now in
    let o = offer_view c.args.offer.now in
    let placed = party_placed cat o c.args.hold.now c.add_party.new.hold c.args.segment c.places-places.result.now c.args.candidates.now c.add_party.result c.placing_of_party.result added.entries.0 c.args.desk.now c.add_party.new.desk
    c.places-places.ensures.value c.requires.candidates added.entries.1 added.causes added.entries.2 c.placing_of_party.ensures in
    record {
      placed = record {
        placed = placed;
        out = record { out = record { own = added.own; held = added.hold }; endings = added.endings };
        noted = added.noted c.requires.may.noted;
        row = ap (λ (h : HoldView). h.row) added.entries.2;
      };
    }
