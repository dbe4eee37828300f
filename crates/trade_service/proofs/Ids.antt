-- A booking that was refunded, and one that was exchanged, has an id, and so has the new one.
use Rattle.std.proofs.Common.{◌≡◌, ℕ, ◌≤◌, true, List, sym, subst, arith}
use Rattle.leg_masks.specs.Interval.{PlacedSpan as Item}
use Rattle.rail_ids.specs.declared.RowNo.{RowNo}
use Rattle.rail_ids.specs.Spelling.{last_generation}
use Rattle.history_model.specs.declared.phase.Phase.{Phase}
use Rattle.history_model.specs.declared.phase.Phase.TheVariants as phase
use Rattle.history_model.specs.declared.phase.EndKind.TheVariants as kind
use Rattle.history_model.specs.Phase.{is_sealed}
use Rattle.history_model.specs.Booking.{booking_at}
use Rattle.history_model.proofs.Keeping.{found}
use Rattle.claim_rule.specs.Rule.{BooksView, DeskView, state_seen}
use Rattle.claim_rule.specs.Desks.{IsOf}
use Rattle.claim_rule.specs.Holds.{HoldView}
use Rattle.claim_rule.specs.Out.{IsHolding}
use Rattle.booking_rows.specs.declared.notes.Detail.{Detail}
use Rattle.booking_rows.specs.declared.turns.Aim.TheVariants as aim
use Rattle.booking_rows.specs.Aims.{end_of}
use Rattle.booking_rows.specs.Views.{RowSeen, MaySucceed}
use Rattle.booking_rows.specs.SealedRows.{IsSealedRow, IsAfter}
use Rattle.booking_rows.proofs.ViewLemmas.{at_key, generation_of_seen, generation_of_hold}
use Rattle.exchange_core.specs.Ready.{ReadyView, IsReadyFor}
use Rattle.osdm_parts.specs.Ids.{HasId}
use Rattle.osdm_texts.specs.Bookings.{HasIds}
use Rattle.booking_service.specs.Deciding.{at_end}
use Rattle.osdm_texts.specs.Seen.{made_view}

pub refunded_ids : (row : RowNo) (now amount : ℕ) (v ended : RowSeen) → row.generation ≤ last_generation → ended ≡ at_end kind.Refund (end_of (aim.Refund now amount)) v → HasIds row ended
refunded_ids row now amount v ended id is = (id, subst (λ (w : RowSeen). MaySucceed w.ended) (sym is) (omega arith))

generation_of_sealed : (books : BooksView) (desk : DeskView) (row : RowNo) → IsOf books desk → IsSealedRow desk row → row.generation ≤ last_generation
generation_of_sealed books desk row of sealed =
    let b = found (booking_at (state_seen desk) row.row row.generation) (λ b. is_sealed b.phase ≡ true) sealed in
    let since = at_key desk row b.0 (IsAfter phase.Prebooked) b.1 (b.2, λ kind e. let no : ◌≡◌ {A = Phase} phase.Prebooked (phase.Ended kind) = e in cc) in
    generation_of_seen books desk row phase.Prebooked of since

pub exchanged_ids : (books : BooksView) (desk : DeskView) (hold : HoldView) (ready : ReadyView) (row replaced : RowNo) (v : RowSeen) (d : Detail) (items : List Item) → IsOf books desk → IsHolding desk hold → IsReadyFor desk ready
    → row ≡ hold.row → replaced ≡ ready.code.row → v ≡ made_view phase.Confirmed d items → HasIds row v × HasId replaced
exchanged_ids books desk hold ready row replaced v d items of holds is here there view =
    let new : HasId row = subst HasId (sym here) (generation_of_hold books desk hold of holds) in
    let old : HasId replaced = subst HasId (sym there) (generation_of_sealed books desk ready.code.row of is.sealed) in
    ((new, subst (λ (w : RowSeen). MaySucceed w.ended) (sym view) tt), old)
