use Rattle.std.proofs.Common.{sym}
use Rattle.trip_builder.specs.Trips.{trips_of}
use Rattle.offer_engine.specs.Offers.{raised}
use Rattle.shop.proofs.Homes.{stays}
use Rattle.search_service.proofs.Spellings.{trips_spelled, offers_writable}
use Rattle.search_service.proofs.Answers.{search_begun, searched}
use Rattle.search_service.proofs.offer_search.search_offers.Goals as goal

pub returns-in_default-clause-answer : goal.returns-in_default-clause-answer
returns-in_default-clause-answer c = search_begun c.args.shop.now.cat.now c.args.wish.now c.args.now c.args.desk.now c.offers.new.desk c.in_default.ensures.begun

pub offer_answer-requires : goal.offer_answer-requires
offer_answer-requires c = record {
  writable = rw (c.as_slice.ensures.value) (offers_writable c.args.shop.now.cat.now c.args.wish.now c.args.now (trips_of c.args.shop.now.cat.now.runs (raised c.args.wish.now.trip c.args.now)) c.in-Ok.found.items c.in-Ok.ensures.entries.0 c.know_ranges.ensures.in_years c.requires.party c.requires.traits
      (rw (sym c.runs.ensures.value) (trips_spelled c.runs.result.now (raised c.args.wish.now.trip c.args.now) c.know_ranges.ensures.runs c.know_ranges.ensures.stops)) c.in-Ok.ensures.entries.1);
}

pub returns-clause-answer : goal.returns-clause-answer
returns-clause-answer c =
    let said = c.offer_answer.ensures in
    searched c.args.shop.now.cat.now c.args.wish.now c.args.now c.in-Ok.found.items c.args.desk.now c.offers.new.desk c.offer_answer.result c.in-Ok.ensures.entries
    (rw (sym c.as_slice.ensures.value) said.told) said.untold

pub returns-in_default-clause-home : goal.returns-in_default-clause-home
returns-in_default-clause-home c = let did = c.offers.ensures in stays _ _ _ did.own did.holds did.endings did.tidy c.requires.home

pub returns-clause-home : goal.returns-clause-home
returns-clause-home c = let did = c.offers.ensures in stays _ _ _ did.own did.holds did.endings did.tidy c.requires.home
