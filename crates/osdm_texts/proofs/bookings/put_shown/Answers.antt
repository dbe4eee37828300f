use Rattle.std.proofs.Common.{refl, map}
use Rattle.osdm_parts.specs.Reservations.{reservations, reservation_tree}
use Rattle.osdm_texts.specs.Seen.{seen_of}
use Rattle.osdm_parts.proofs.Chains.{one, step, last_call, ended}
use Rattle.osdm_texts.proofs.BookingTokens.{booking_tokens}
use Rattle.osdm_texts.proofs.bookings.put_shown.Goals as goal

pub returns : goal.returns
returns c =
    let r = c.put_successor.result in
    let end = c.put_successor.new.out in
    let s = c.args.shown.now in
    let shown = c.in_ok-put_reservations.ensures in
    let tail = last_call r end _ (step (rw c.is_settled.ensures at c.in_ok-put_flag.ensures) (rw c.phase_text.ensures.text at c.in_ok-put_text.ensures)) c.put_successor.ensures refl in
    let items = last_call r end _ (ended (map (reservation_tree c.args.cat.now) (reservations s.items.now)) shown (one c.in_ok-end_array.ensures)) tail refl in
    let later = last_call r end _ (step (step (step c.in_ok-put_booking_id.ensures (rw c.currency_text.ensures.value at c.in_ok-put_price.ensures)) (one c.in_ok-key.ensures)) (one c.in_ok-begin_array.ensures)) items refl in
    let from_end = last_call r end _ c.in_ok-put_end.ensures later refl in
    last_call r end _ (step (one c.in_ok-begin_object.ensures) c.in_ok-put_time.ensures) from_end
    (booking_tokens c.args.cat.now c.args.row (seen_of s))
