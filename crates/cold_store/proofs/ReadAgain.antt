-- Each export is read back.
use Rattle.std.proofs.Common.{ℕ, List, map, sym, ◌∙◌}
use Rattle.claim_rule.specs.Openings.{kept_bookings}
use Rattle.claim_rule.specs.Walls.{WallView}
use Rattle.claim_rule.proofs.OpeningKept.{kept_back}
use Rattle.cold_store.specs.Exports.{IsClosed, IsExport, said_on, state_on}
use Rattle.cold_store.specs.Laws.{HasBegun, HasSizes, IsReadBack}
use Rattle.cold_store.specs.Right.{kept_of}
use Rattle.cold_store.proofs.Accepted.{accepted}
use Rattle.line_text.proofs.OneList.{one_list}
use Rattle.cold_store.proofs.Opens.{may_open}
use Rattle.cold_store.proofs.RoundTrip.{all_back, read_back}

pub exports_read_back : (w : WallView) (text : List ℕ) → HasSizes w.layout → HasBegun w.layout → IsClosed w → IsExport w text → IsReadBack w text
exports_read_back w text sizes begun closed is =
    let sound = read_back w text sizes begun closed is in
    let legs = w.layout.legs in
    let rows = w.layout.rows in
    let said = said_on w in
    let kept = all_back (kept_bookings rows (state_on w)) in
    record {
      sound = sound;
      kept = kept;
      again = kept_back legs rows (map kept_of said) (may_open legs rows said sound.sized.each sound.sized.rising sound.right sound.apart) ∙ kept;
      only = λ places all others export.
          let s = one_list text _ _ said places all others sound.sized export in (sym s.0, sym s.1, sym s.2);
      accepted = accepted legs rows text said sound;
    }
