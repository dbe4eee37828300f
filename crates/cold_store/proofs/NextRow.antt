-- Lines in rising row, and one more of a greater row.
use Rattle.std.proofs.Common.{◌≡◌, ◌≢◌, ℕ, ◌<◌, ◌≤◌, List, [], ◌∷◌, ◌++◌, map, Option, Some, None, IfSome, refl, sym, ap, ◌∙◌, subst, arith}
use Rattle.std.specs.List.{AllByRecursion, last_or}
use Rattle.history_model.specs.Lists.{Pairwise}
use Rattle.history_model.proofs.ListLemmas.{All-map, All-under_map}
use Rattle.line_text.specs.declared.ends.SaidRow.{SaidRow}
use Rattle.cold_store.specs.Drafts.{AreRisingRows, IsNextRow, row_said}
use Rattle.line_text.specs.Lines.{SaidBooking}
use Rattle.cold_store.proofs.Pairs.{Pairwise-push}

below_from : (row : ℕ) (x : SaidRow) (xs : List SaidRow) → IfSome (last_or (Some x) xs) (λ last. last.row < row) → AreRisingRows (x ∷ xs) → AllByRecursion (λ (l : SaidRow). l.row < row) (x ∷ xs)
below_from row x [] h rising = (h, tt)
below_from row x (y ∷ ys) h rising =
    let rest = below_from row y ys h rising.1 in
    let a : y.row < row = rest.0 in
    let c : x.row < y.row = rising.0.0 in
    (omega arith, rest)

-- all rows are less than the next
pub all-below : (lines : List SaidRow) (row : ℕ) → AreRisingRows lines → IsNextRow lines row → AllByRecursion (λ (l : SaidRow). l.row < row) lines
all-below [] row rising h = tt
all-below (x ∷ xs) row rising h = below_from row x xs h rising

pub rising-more : (lines : List SaidRow) (line : SaidRow) → AreRisingRows lines → IsNextRow lines line.row → AreRisingRows (lines ++ line ∷ [])
rising-more lines line rising next = Pairwise-push (λ (a b : SaidRow). a.row < b.row) lines line rising (all-below lines line.row rising next)

-- so the bookings are of other rows
pub other-rows : (lines : List SaidRow) (said : List SaidBooking) (row : ℕ) → lines ≡ map row_said said → AreRisingRows lines → IsNextRow lines row → AllByRecursion (λ (a : SaidBooking). a.row ≢ row) said
other-rows lines said row is rising next =
    let below = subst (λ (ls : List SaidRow). AllByRecursion (λ (l : SaidRow). l.row < row) ls) is (all-below lines row rising next) in
    All-map {P = λ (a : SaidBooking). a.row < row} {Q = λ (a : SaidBooking). a.row ≢ row} (λ a l e. omega (arith, l, e)) said (All-under_map (λ (l : SaidRow). l.row < row) row_said said below)
