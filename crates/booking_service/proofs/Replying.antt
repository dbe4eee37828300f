-- The replies to commands on a booking.
use Rattle.std.proofs.Common.{◌≡◌, inl, inr, ℕ, Option, Some, None, IfSome, Result, Ok, refl, sym, subst}
use Rattle.std.specs.Option.{ok_or}
use Rattle.rail_ids.specs.declared.RowNo.{RowNo}
use Rattle.claim_rule.specs.Rule.{DeskView}
use Rattle.claim_rule.specs.Calls.{AddsStepsBy}
use Rattle.booking_rows.specs.Views.{RowSeen}
use Rattle.catalogue_contents.specs.Contents.{CatalogueView}
use Rattle.osdm_parts.specs.declared.problem.Problem.{Problem}
use Rattle.osdm_texts.specs.declared.written.Written.{Written}
use Rattle.osdm_parts.specs.declared.problem.Problem.TheVariants.{UnknownBooking, NoMemory}
use Rattle.osdm_texts.specs.Answers.{Reply, booking, problem, Told, refused, reply_told, told_of, Tells}
use Rattle.osdm_texts.proofs.Telling.{of_problem}
use Rattle.refund_core.specs.Quotes.{FindsBooking}
use Rattle.booking_service.specs.Deciding.{Replying, OnBooking, Answered, shows}

pub unknown : (cat : CatalogueView) (rows : ℕ) (row : RowNo) (retailer : ℕ) (Does : RowSeen → Replying) (old new : DeskView)
    → AddsStepsBy (FindsBooking rows row retailer None) old new → Answered cat (OnBooking rows row retailer Does) old new (refused UnknownBooking)
unknown cat rows row retailer Does old new did = (problem UnknownBooking, inl (did, refl), of_problem cat UnknownBooking)

pub no_memory : (cat : CatalogueView) (rows : ℕ) (row : RowNo) (retailer : ℕ) (Does : RowSeen → Replying) (v : RowSeen) (old new : DeskView)
    → AddsStepsBy (FindsBooking rows row retailer (Some v)) old new → Answered cat (OnBooking rows row retailer Does) old new (refused NoMemory)
no_memory cat rows row retailer Does v old new did = (problem NoMemory, inr (v, new, did, inr (refl, refl)), of_problem cat NoMemory)

pub done : (cat : CatalogueView) (rows : ℕ) (row : RowNo) (retailer : ℕ) (Does : RowSeen → Replying) (v : RowSeen) (reply : Reply) (old mid new : DeskView) (said : Told)
    → AddsStepsBy (FindsBooking rows row retailer (Some v)) old mid → Does v mid new reply → said ≡ reply_told cat reply
    → Answered cat (OnBooking rows row retailer Does) old new said
done cat rows row retailer Does v reply old mid new said did does is = (reply, inr (v, mid, did, inl does), is)

-- shown, or there was no memory to show it
pub shown_or : (cat : CatalogueView) (rows : ℕ) (row : RowNo) (retailer : ℕ) (v : RowSeen) (old new : DeskView) (found : Option Written) (r : Result Written Problem) → r ≡ ok_or found NoMemory
    → IfSome found (Tells cat (booking row v)) → AddsStepsBy (FindsBooking rows row retailer (Some v)) old new → Answered cat (OnBooking rows row retailer (shows row)) old new (told_of r)
shown_or cat rows row retailer v old new None r same told did = subst (λ x. Answered cat (OnBooking rows row retailer (shows row)) old new (told_of x)) (sym same) (no_memory cat rows row retailer (shows row) v old new did)
shown_or cat rows row retailer v old new (Some w) r same told did =
    subst (λ x. Answered cat (OnBooking rows row retailer (shows row)) old new (told_of x)) (sym same) (done cat rows row retailer (shows row) v (booking row v) old new new (told_of (Ok w)) did (refl, refl) told)
