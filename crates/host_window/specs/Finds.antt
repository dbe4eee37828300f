-- What the window shows of a host's books.
use Rattle.std.specs.Prelude.{ℕ, List, [], ◌++◌, Option, Some, None, codes}
use Rattle.row_cuts.specs.declared.counts.RowCount.{RowCount}
use Rattle.row_cuts.specs.declared.sold.SoldCount.{SoldCount}
use Rattle.host_window.specs.Metrics.{head, metrics_text}
use Rattle.host_window.specs.Texts.{HeadView, head_text, number_text, one_text}
use Rattle.host_window.specs.declared.counts.Counts.{Counts}
use Rattle.host_window.specs.declared.family.Kind.TheVariants.{Counter, Gauge}
use Rattle.host_window.specs.declared.found.Finds.{Finds}
use Rattle.host_window.specs.declared.found.Found.{Found}

abbrev pub expired_head : HeadView
expired_head = head (codes "sumacgate_sweeps_expired_total") (codes "Bookings that sweeps expired.") Counter

abbrev pub late_head : HeadView
late_head =
    head (codes "sumacgate_sweeps_lost_total")
    (codes "Late bookings that were decided before a sweep expired them.")
    Counter

abbrev pub waiting_head : HeadView
waiting_head =
    head (codes "sumacgate_sweep_waiting")
    (codes "Prebooked bookings that the last sweep left, since they were not late.")
    Gauge

abbrev pub unused_head : HeadView
unused_head = head (codes "sumacgate_rows_never_used") (codes "Rows that have never been used.") Gauge

abbrev pub rows_head : HeadView
rows_head =
    head (codes "sumacgate_rows") (codes "Rows that have been used, by the phase of their last booking.") Gauge

abbrev pub generation_head : HeadView
generation_head =
    head (codes "sumacgate_greatest_generation")
    (codes "The greatest generation of a row: how often it was used again.")
    Gauge

abbrev pub places_head : HeadView
places_head = head (codes "sumacgate_places_sold") (codes "Places of which a leg is sold, by class.") Gauge

-- the beginning of a family, and a number of it with a label
unfoldable pub begun_text : HeadView → List ℕ
begun_text h = head_text h

unfoldable pub labelled_text : List ℕ → List ℕ → ℕ → List ℕ
labelled_text name label n = number_text name label n

-- what it shows of sweeps
unfoldable pub swept_text : Finds → List ℕ
swept_text f = (one_text expired_head f.expired ++ one_text late_head f.lost) ++ one_text waiting_head f.waiting

-- of rows in use, each phase with its number
abbrev pub phase_text : List ℕ → ℕ → List ℕ
phase_text label n = labelled_text (codes "sumacgate_rows") label n

unfoldable pub rows_text : RowCount → List ℕ
rows_text r =
    (((((begun_text rows_head ++ phase_text (codes "{phase=\"making\"}") r.making)
    ++ phase_text (codes "{phase=\"prebooked\"}") r.prebooked)
    ++ phase_text (codes "{phase=\"confirmed\"}") r.confirmed)
    ++ phase_text (codes "{phase=\"fulfilled\"}") r.fulfilled)
    ++ phase_text (codes "{phase=\"ending\"}") r.ending)
    ++ phase_text (codes "{phase=\"ended\"}") r.ended

-- of places, each class with its number
abbrev pub class_text : List ℕ → ℕ → List ℕ
class_text label n = labelled_text (codes "sumacgate_places_sold") label n

unfoldable pub places_text : SoldCount → List ℕ
places_text s =
    (begun_text places_head ++ class_text (codes "{class=\"first\"}") s.first)
    ++ class_text (codes "{class=\"second\"}") s.second

-- of looks
unfoldable pub looked_text : Found → List ℕ
looked_text f =
    ((one_text unused_head f.rows.never_used ++ rows_text f.rows)
    ++ one_text generation_head f.rows.greatest_generation)
    ++ places_text f.sold

-- nothing of them where nobody looks
abbrev pub found_text : Option Found → List ℕ
found_text None = []
found_text (Some f) = looked_text f

-- the whole page
unfoldable pub window_text : Counts → Finds → List ℕ
window_text c f = (metrics_text c ++ swept_text f) ++ found_text f.found
