-- The fold of cuts is an export, and each export is read back.
use Rattle.std.proofs.Common.{◌≡◌, List, [], length, map, ap, ◌∙◌}
use Rattle.history_model.specs.Booking.{State}
use Rattle.claim_rule.specs.Openings.{kept_bookings}
use Rattle.claim_rule.specs.Walls.{WallView}
use Rattle.cold_store.specs.Exports.{IsClosed, state_on, text_on}
use Rattle.cold_store.specs.Laws.{HasBegun, HasSizes, IsReadBack}
use Rattle.cold_store.specs.Written.{said_of}
use Rattle.line_text.specs.Lines.{export_text_of}
use Rattle.cold_store.specs.Tidy.{IsTidyWall}
use Rattle.cold_store.proofs.ReadAgain.{exports_read_back}
use Rattle.cold_store.proofs.Tidied.{tidied}
use Rattle.row_cuts.specs.Cuts.{Cut, FollowOn, folded_text, last_state}
use Rattle.row_cuts.proofs.Folding.{folds}

pub all_read_back : (w : WallView) (cuts : List Cut) → HasSizes w.layout → HasBegun w.layout → IsClosed w → IsTidyWall w → FollowOn w.layout.rows [] cuts → last_state [] cuts ≡ state_on w
    → IsReadBack w (folded_text (length w.layout.legs) w.layout.rows cuts)
all_read_back w cuts sizes begun closed tidy follow last =
    let text = folded_text (length w.layout.legs) w.layout.rows cuts in
    let free = tidied w closed.legal tidy in
    let is : text ≡ text_on w =
    folds (length w.layout.legs) w.layout.rows cuts follow
    ∙ ap (λ (s : State). export_text_of (length w.layout.legs) w.layout.rows (map said_of (kept_bookings w.layout.rows s))) last in
    exports_read_back w text sizes begun closed (free.0, free.1, is)
