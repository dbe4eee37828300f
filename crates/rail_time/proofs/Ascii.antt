-- The text of a moment is ASCII.
use Rattle.std.proofs.Common.{ℕ, zero, suc, ◌<◌, ◌≤◌, ◌+◌, ◌/◌, ◌%◌, List, [], ◌∷◌, IsAscii, lit<, arith}
use Rattle.std.specs.List.{AllByRecursion}
use Rattle.jiff_core.proofs.SignedLemmas.{signed_arith}
use Rattle.jiff_core.proofs.CalendarLemmas.{days_in_month_bounds}
use Rattle.rail_time.specs.Days.{day_of}
use Rattle.rail_time.specs.Texts.{moment_text}
use Rattle.rail_time.proofs.Calendar.{IsDayNumber-day_of}
use Rattle.std.proofs.Common.{pos}

IsAscii-from_all : (bs : List ℕ) → AllByRecursion (λ b. b < 128) bs → IsAscii bs
IsAscii-from_all [] h i = lit< tt
IsAscii-from_all (b ∷ bs) h zero = h.0
IsAscii-from_all (b ∷ bs) h (suc i) = IsAscii-from_all bs h.1 i

two : (n : ℕ) → n < 100 → (48 + n / 10 < 128) × (48 + n % 10 < 128)
two n h = (omega arith, omega arith)

pub IsAscii-moment_text : (s : ℕ) → s ≤ 4_102_444_799 → IsAscii (moment_text s)
IsAscii-moment_text s h =
    let d = day_of (s / 86_400) in
    let known = IsDayNumber-day_of (s / 86_400) (omega arith) in
    let long = days_in_month_bounds (pos d.year) d.month in
    let year : d.year ≤ 9999 = omega (arith, signed_arith, known.civil.0.1) in
    let month : d.month < 100 = omega (arith, known.civil.1.1) in
    let day : d.day < 100 = omega (arith, known.civil.2.1, long.0) in
    let c : ℕ = s % 86_400 in
    let y1 = two (d.year / 100) (omega arith) in
    let y2 = two (d.year % 100) (omega arith) in
    let m = two d.month month in
    let n = two d.day day in
    let h1 = two (s % 86_400 / 3600) (omega arith) in
    let h2 = two (s % 86_400 / 60 % 60) (omega arith) in
    let h3 = two (s % 86_400 % 60) (omega arith) in
    IsAscii-from_all (moment_text s)
    (y1.0, (y1.1, (y2.0, (y2.1, (lit< tt, (m.0, (m.1, (lit< tt, (n.0, (n.1, (lit< tt, (h1.0, (h1.1, (lit< tt, (h2.0, (h2.1, (lit< tt, (h3.0, (h3.1, (lit< tt, tt))))))))))))))))))))
