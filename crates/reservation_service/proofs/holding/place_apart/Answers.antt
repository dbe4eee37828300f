use Rattle.std.proofs.Common.{◌≡◌, List, filter, ap, ◌∙◌}
use Rattle.rail_ids.specs.declared.PlaceNo.{PlaceNo}
use Rattle.place_map.specs.declared.coach.Place.{Place}
use Rattle.place_map.specs.ByClass.{has_traits}
use Rattle.place_map.specs.Candidates.{class_places_of, candidates_of}
use Rattle.place_map.proofs.Classes.{with_traits_is}
use Rattle.claim_rule.specs.Holds.{HoldView}
use Rattle.offer_codes.specs.Offers.{offer_view}
use Rattle.reservation_service.proofs.Placed.{singly_placed}
use Rattle.reservation_service.proofs.holding.place_apart.Goals as goal

pub returns : goal.returns
returns c =
    let cat = c.args.shop.now.cat.now in
    let o = offer_view c.args.offer.now in
    let s = c.args.segment in
    let passes = has_traits o.wanted cat.places in
    let are : filter passes c.class_places-all.result.now ≡ candidates_of s.run.0 o.class o.wanted cat.places =
    ap (λ (l : List PlaceNo). filter passes l) c.class_places-all.ensures.places
    ∙ (ap (λ (l : List Place). filter passes (class_places_of s.run.0 o.class l)) c.places.ensures.value
    ∙ with_traits_is s.run.0 o.class o.wanted cat.places) in
    let did = c.add_wanted.ensures in
    let placed = singly_placed cat o c.args.hold.now c.add_wanted.new.hold s (filter passes c.class_places-all.result.now) c.add_wanted.result c.placing_of-2.result c.args.desk.now c.add_wanted.new.desk
    are did.entries c.placing_of-2.ensures in
    record { placed = record { placed = placed; out = did.out; noted = did.noted c.requires.may.noted; row = ap (λ (h : HoldView). h.row) did.entries.2 } }
