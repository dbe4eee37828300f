use Rattle.std.proofs.Common.{[], Option, Some, None, IfNone, sym, subst}
use Rattle.rail_ids.specs.declared.RowNo.{RowNo}
use Rattle.claim_rule.specs.Calls.{AddsStepsBy}
use Rattle.claim_rule.proofs.Out.{endings_then}
use Rattle.booking_rows.specs.Starts.{StartsHold}
use Rattle.shop.specs.Homes.{IsAtHome}
use Rattle.offer_codes.specs.Offers.{offer_view}
use Rattle.reservation_service.specs.Holding.{PlacesAll}
use Rattle.reservation_service.proofs.holding.hold_places.Goals as goal

pub returns-clause-placed : goal.returns-clause-placed
returns-clause-placed c =
    let old = c.args.desk.now in
    let mid = c.start_hold.new.desk in
    let did = c.place_segments-placing in (
      mid,
      subst (λ (r : RowNo). AddsStepsBy (StartsHold old mid (Some r)) old mid) (sym did.ensures.row) c.in_ok-hold.ensures.entries,
      subst (λ (r : RowNo). PlacesAll c.args.shop.now.cat.now (offer_view c.args.offer.now) c.args.together r [] c.args.offer.now.segments.items did.result did.new.hold.items mid did.new.desk) (sym did.ensures.row) did.ensures.placed,
    )

pub returns-clause-out : goal.returns-clause-out
returns-clause-out c =
    let did = c.place_segments-placing.ensures in
    record { out = did.out.out; endings = endings_then c.args.desk.now c.start_hold.new.desk c.place_segments-placing.new.desk c.in_ok-hold.ensures.endings did.out.endings }

-- there is no row
at_none : {A : Type 0} (r : Option A) (P : Type 0) → P → IfNone r P
at_none None P is = is
at_none (Some a) P is = tt

pub returns-in_err-hold-clause-home : goal.returns-in_err-hold-clause-home
returns-in_err-hold-clause-home c =
    let none = c.in_err-hold.ensures in
    at_none c.from_residual.result (IsAtHome c.args.shop.now.books.now c.start_hold.new.desk) (record { own = c.start_hold.ensures.own; idle = (none.none_out, none.endings.none c.requires.home.idle.1) })
