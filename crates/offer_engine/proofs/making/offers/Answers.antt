use Rattle.std.proofs.Common.{◌≡◌, ◌∙◌, ◌+◌, ◌++◌, ◌∷◌, [], List, take, ap, sym, subst}
use Rattle.claim_rule.specs.Calls.{AddsStepsBy}
use Rattle.claim_rule.proofs.Out.{holds_same, endings_same, holds_then, endings_then}
use Rattle.train_runs.specs.declared.segment.Segment.{Segment}
use Rattle.offer_codes.specs.declared.code.Offer.{Offer}
use Rattle.train_runs.specs.Runs.{RunsView}
use Rattle.trip_builder.specs.Trips.{trips_of}
use Rattle.offer_engine.specs.Offers.{raised, IsOfferFor, OffersFor, BeginsOffers}
use Rattle.offer_engine.proofs.Counting.{offers_none, offers_next, begun_none, begun_whole, on_err}
use Rattle.offer_engine.proofs.making.offers.Goals as goal

pub returns-in_err-found-clause-begun : goal.returns-in_err-found-clause-begun
returns-in_err-found-clause-begun c =
    on_err c.from_residual.result (begun_none c.args.cat.now c.args.wish.now c.args.desk.now (trips_of c.args.cat.now.runs (raised c.args.wish.now.trip c.args.now)) c.requires.own.legal)

pub loop-trip-init : goal.loop-trip-init
loop-trip-init c =
    let desk = c.args.desk.now in
    record {
      own = c.requires.own;
      holds = holds_same desk;
      endings = endings_same desk;
      tidy = λ is. is;
      made = subst (λ (l : List Offer). AddsStepsBy (OffersFor c.args.cat.now c.args.wish.now c.args.now [] l) desk desk) (sym c.new-offers.ensures.items) (offers_none c.args.cat.now c.args.wish.now c.args.now desk c.requires.own.legal);
    }

pub loop-trip-preserved : goal.loop-trip-preserved
loop-trip-preserved c =
    let i = c.loop-trip.invariant in
    let cat = c.args.cat.now in
    let w = c.args.wish.now in
    let now = c.args.now in
    let old = c.args.desk.now in
    let mid = c.loop-trip.desk in
    let did = c.offer_of in
    let new = did.new.desk in
    let ts = c.deref-trip-items.result.now in
    record {
      own = did.ensures.own;
      holds = holds_then old mid new i.holds did.ensures.holds;
      endings = endings_then old mid new i.endings did.ensures.endings;
      tidy = λ is. did.ensures.tidy (i.tidy is);
      made = subst (λ (l : List Offer). AddsStepsBy (OffersFor cat w now (take (c.loop-trip.trip-index + 1) ts) l) old new) (sym c.in_ok-push.ensures.items)
          (offers_next cat w now old mid new ts c.loop-trip.trip-index c.trip-item.result c.loop-trip.offers.items c.offer_of.result c.loop-trip-test.true i.made
          (subst (λ (t : List Segment). AddsStepsBy (IsOfferFor cat w now t c.offer_of.result) mid new) c.trip-item.is c.offer_of.ensures.entries));
    }

pub returns-in_err-push-clause-begun : goal.returns-in_err-push-clause-begun
returns-in_err-push-clause-begun c =
    let i = c.loop-trip.invariant in
    let cat = c.args.cat.now in
    let w = c.args.wish.now in
    let now = c.args.now in
    let old = c.args.desk.now in
    let mid = c.loop-trip.desk in
    let new = c.offer_of.new.desk in
    let ts = c.deref-trip-items.result.now in
    let whole : ts ≡ trips_of cat.runs (raised w.trip now) = c.deref-trip-items.ensures.value ∙ (c.in_ok-found.ensures ∙ (ap (λ (r : RunsView). trips_of r c.raised.result) c.runs.ensures.value ∙ ap (trips_of cat.runs) c.raised.ensures)) in
    on_err c.from_residual-in_err-push.result (subst (λ (l : List (List Segment)). AddsStepsBy (BeginsOffers cat w l) old new) whole
    (begun_whole cat w now old new ts (c.loop-trip.trip-index + 1) (c.loop-trip.offers.items ++ c.offer_of.result ∷ [])
    (offers_next cat w now old mid new ts c.loop-trip.trip-index c.trip-item.result c.loop-trip.offers.items c.offer_of.result c.loop-trip-test.true i.made
    (subst (λ (t : List Segment). AddsStepsBy (IsOfferFor cat w now t c.offer_of.result) mid new) c.trip-item.is c.offer_of.ensures.entries))))

pub returns-in_err-push-clause-holds : goal.returns-in_err-push-clause-holds
returns-in_err-push-clause-holds c = holds_then c.args.desk.now c.loop-trip.desk c.offer_of.new.desk c.loop-trip.invariant.holds c.offer_of.ensures.holds

pub returns-in_err-push-clause-endings : goal.returns-in_err-push-clause-endings
returns-in_err-push-clause-endings c = endings_then c.args.desk.now c.loop-trip.desk c.offer_of.new.desk c.loop-trip.invariant.endings c.offer_of.ensures.endings

pub returns-in_err-push-clause-tidy : goal.returns-in_err-push-clause-tidy
returns-in_err-push-clause-tidy c = λ is. c.offer_of.ensures.tidy (c.loop-trip.invariant.tidy is)
