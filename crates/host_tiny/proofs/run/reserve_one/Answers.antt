use Rattle.std.proofs.Common.{◌≡◌, ◌<◌, ◌≤◌, ℕ, List, ◌∷◌, [], ◌++◌, length, sym, ap, ◌∙◌, subst, arith}
use Rattle.std.specs.Prelude.{slice_index_or}
use Rattle.std.specs.List.{AllByRecursion}
use Rattle.leg_masks.specs.Interval.{PlacedSpan as Item}
use Rattle.leg_masks.proofs.HalfLegs.{pieces_some}
use Rattle.host_tiny.specs.Run.{IsSettled, reservations, reserved}
use Rattle.host_tiny.specs.Reservations.{IsLeastFree}
use Rattle.host_tiny.proofs.Pieces.{all_at, first_at, some_at}
use Rattle.host_tiny.proofs.Freeness.{by_number}
use Rattle.host_tiny.proofs.Reserving.{run_still, candidates_fit, full, items_found, reserved_all, reserved_none, never_contended}
use Rattle.host_tiny.proofs.run.reserve_one.Goals as goal

pub returns-in_default-clause-run : goal.returns-in_default-clause-run
returns-in_default-clause-run c = λ legs run.
    let old = c.args.desk.now in
    let new = c.start_hold.new.desk in
    let e = c.in_default.ensures in
    let f = full legs c.args.places.now c.args.books.now old new run e.entries in
    run_still legs c.args.places.now c.args.books.now old new run e.own f.2 e.none_out (subst IsSettled (sym f.1) run.settled)

pub returns-in_default-clause-reserves : goal.returns-in_default-clause-reserves
returns-in_default-clause-reserves c =
    let r = c.requires.run in
    let f = full r.0 c.args.places.now c.args.books.now c.args.desk.now c.start_hold.new.desk r.1 c.in_default.ensures.entries in
    (f.0, ap reservations f.1)

pub add_places-requires-clause-places : goal.add_places-requires-clause-places
add_places-requires-clause-places c =
    let r = c.requires.run in
    candidates_fit r.0 c.args.places.now c.args.books.now c.args.desk.now c.args.span r.1 r.2

pub add_places-requires-clause-room : goal.add_places-requires-clause-room
add_places-requires-clause-room c =
    let none = ap length c.in-Some.ensures.hold.1 in
    let few = (pieces_some c.args.span).1 in
    omega (arith, none, few)

pub first_place-place-requires-clause-some : goal.first_place-place-requires-clause-some
first_place-place-requires-clause-some c =
    let r = c.requires.run in
    let e = c.in-Some.ensures in
    let adds = c.in-All.ensures.entries in
    let one = items_found r.0 c.args.places.now c.args.books.now c.args.desk.now c.start_hold.new.desk c.add_places.new.desk c.in-Some.hold c.add_places.new.hold c.args.span adds.0
    r.1 r.2 e.entries e.hold.0 e.hold.1 e.own adds.1 adds.2 in
    subst (λ (is : List Item). 1 ≤ length is) (sym one.1) (some_at c.args.span one.0.0)

pub first_place-place-requires-clause-small : goal.first_place-place-requires-clause-small
first_place-place-requires-clause-small c =
    let r = c.requires.run in
    let e = c.in-Some.ensures in
    let adds = c.in-All.ensures.entries in
    let one = items_found r.0 c.args.places.now c.args.books.now c.args.desk.now c.start_hold.new.desk c.add_places.new.desk c.in-Some.hold c.add_places.new.hold c.args.span adds.0
    r.1 r.2 e.entries e.hold.0 e.hold.1 e.own adds.1 adds.2 in
    let few : one.0.0 < 65536 = omega (arith, one.0.2, r.1.most) in
    by_number (λ (i : Item). i.place < 65536) c.add_places.new.hold.items
    (subst (AllByRecursion (λ (i : Item). i.place < 65536)) (sym one.1) (all_at (λ (p : ℕ). p < 65536) c.args.span one.0.0 few))

pub seal_booking-requires-clause-some : goal.seal_booking-requires-clause-some
seal_booking-requires-clause-some c =
    let r = c.requires.run in
    let e = c.in-Some.ensures in
    let adds = c.in-All.ensures.entries in
    let one = items_found r.0 c.args.places.now c.args.books.now c.args.desk.now c.start_hold.new.desk c.add_places.new.desk c.in-Some.hold c.add_places.new.hold c.args.span adds.0
    r.1 r.2 e.entries e.hold.0 e.hold.1 e.own adds.1 adds.2 in
    subst (λ (is : List Item). 1 ≤ length is) (sym one.1) (some_at c.args.span one.0.0)

pub unreachable-requires : goal.unreachable-requires
unreachable-requires c =
    let r = c.requires.run in
    let e = c.in-Some.ensures in
    let adds = c.in-Contended.ensures.entries in
    never_contended r.0 c.args.places.now c.args.books.now c.args.desk.now c.start_hold.new.desk c.add_places.new.desk c.in-Some.hold c.args.span c.in-Contended.place adds.0
    r.1 r.2 e.entries e.hold.0 e.own adds.1

pub returns-in-All-clause-run : goal.returns-in-All-clause-run
returns-in-All-clause-run c = λ legs run.
    let r = c.requires.run in
    let e = c.in-Some.ensures in
    let adds = c.in-All.ensures.entries in
    let s = c.seal_booking.ensures in
    let all = reserved_all r.0 c.args.places.now c.args.books.now c.args.desk.now c.start_hold.new.desk c.add_places.new.desk c.seal_booking.new.desk c.in-Some.hold
    c.add_places.new.hold c.args.span adds.0 s.entries.0 s.entries.1 s.entries.2 r.1 r.2 e.entries e.hold.0 e.hold.1 e.own adds.1 adds.2 c.in-All.ensures.hold s.entries.3 in
    run_still legs c.args.places.now c.args.books.now c.args.desk.now c.seal_booking.new.desk run s.own all.6 s.none all.4

pub returns-in-All-clause-reserves : goal.returns-in-All-clause-reserves
returns-in-All-clause-reserves c =
    let r = c.requires.run in
    let e = c.in-Some.ensures in
    let adds = c.in-All.ensures.entries in
    let s = c.seal_booking.ensures in
    let span = c.args.span in
    let all = reserved_all r.0 c.args.places.now c.args.books.now c.args.desk.now c.start_hold.new.desk c.add_places.new.desk c.seal_booking.new.desk c.in-Some.hold
    c.add_places.new.hold span adds.0 s.entries.0 s.entries.1 s.entries.2 r.1 r.2 e.entries e.hold.0 e.hold.1 e.own adds.1 adds.2 c.in-All.ensures.hold s.entries.3 in
    let other : Item = record { place = 0; span = span } in
    let place : c.first_place-place.result ≡ all.0 = c.first_place-place.ensures other ∙ (ap (λ (is : List Item). (slice_index_or is 0 other).place) all.1 ∙ first_at span all.0 other) in (
      all.2,
      subst (λ (p : ℕ). IsLeastFree (reserved c.args.desk.now) (length c.args.places.now) p span) (sym place) all.3,
      subst (λ (p : ℕ). reserved c.seal_booking.new.desk ≡ reserved c.args.desk.now ++ record { place = p; span = span } ∷ []) (sym place) all.5,
    )

pub returns-in-NoPlace-clause-run : goal.returns-in-NoPlace-clause-run
returns-in-NoPlace-clause-run c = λ legs run.
    let r = c.requires.run in
    let e = c.in-Some.ensures in
    let adds = c.in-NoPlace.ensures.entries in
    let none = reserved_none r.0 c.args.places.now c.args.books.now c.args.desk.now c.start_hold.new.desk c.add_places.new.desk c.abandon.new.desk c.in-Some.hold
    c.add_places.new.hold c.args.span c.in-NoPlace.won adds.0 r.1 r.2 e.entries e.hold.0 e.hold.1 e.own adds.1 adds.2 c.in-NoPlace.ensures.hold c.abandon.ensures.entries in
    run_still legs c.args.places.now c.args.books.now c.args.desk.now c.abandon.new.desk run c.abandon.ensures.own none.4 c.abandon.ensures.none none.2

pub returns-in-NoPlace-clause-reserves : goal.returns-in-NoPlace-clause-reserves
returns-in-NoPlace-clause-reserves c =
    let r = c.requires.run in
    let e = c.in-Some.ensures in
    let adds = c.in-NoPlace.ensures.entries in
    let none = reserved_none r.0 c.args.places.now c.args.books.now c.args.desk.now c.start_hold.new.desk c.add_places.new.desk c.abandon.new.desk c.in-Some.hold
    c.add_places.new.hold c.args.span c.in-NoPlace.won adds.0 r.1 r.2 e.entries e.hold.0 e.hold.1 e.own adds.1 adds.2 c.in-NoPlace.ensures.hold c.abandon.ensures.entries in
    (none.0, none.1, none.3)
