-- Texts that JSON writes as they are.
use Rattle.std.proofs.Common.{◌≡◌, ℕ, ◌+◌, ◌/◌, ◌%◌, ◌<◌, ◌≤◌, pos, List, [], ◌∷◌, ◌++◌, codes, refl, sym, ap, ◌∙◌, append_assoc, arith}
use Rattle.std.specs.List.{AllByRecursion}
use Rattle.std.proofs.lemmas.Bool.Decides.{nat_tests}
use Rattle.json.specs.Print.{escape, escape_byte}
use Rattle.jiff_core.proofs.SignedLemmas.{signed_arith}
use Rattle.jiff_core.proofs.CalendarLemmas.{days_in_month_bounds}
use Rattle.rail_time.specs.Days.{day_of}
use Rattle.rail_time.proofs.Calendar.{IsDayNumber-day_of}
use Rattle.osdm_parts.specs.Times.{time_text}

abbrev pub IsPlain : List ℕ → Type 0
IsPlain s = escape s ≡ s

-- from `-` to `Z` no byte is escaped
abbrev IsBetween : ℕ → Type 0
IsBetween b = (45 ≤ b) × (b ≤ 90)

plain_byte : (b : ℕ) → 45 ≤ b → b ≤ 90 → escape_byte b ≡ b ∷ []
unfolding escape_byte
plain_byte b low high = grind (arith, nat_tests)

IsPlain-from_all : (bs : List ℕ) → AllByRecursion IsBetween bs → IsPlain bs
IsPlain-from_all [] h = refl
IsPlain-from_all (b ∷ bs) h = rw (plain_byte b h.0.0 h.0.1, IsPlain-from_all bs h.1) refl

escape-append : (a b : List ℕ) → escape (a ++ b) ≡ escape a ++ escape b
escape-append [] b = refl
escape-append (x ∷ a) b = ap (λ (s : List ℕ). escape_byte x ++ s) (escape-append a b) ∙ sym (append_assoc (escape_byte x) (escape a) (escape b))

pub IsPlain-append : (a b : List ℕ) → IsPlain a → IsPlain b → IsPlain (a ++ b)
IsPlain-append a b p q = escape-append a b ∙ (ap (λ (s : List ℕ). s ++ escape b) p ∙ ap (λ (s : List ℕ). a ++ s) q)

pub IsPlain-space : IsPlain (codes " ")
unfolding escape_byte
IsPlain-space = refl

two : (n : ℕ) → n < 100 → IsBetween (48 + n / 10) × IsBetween (48 + n % 10)
two n h = ((omega arith, omega arith), (omega arith, omega arith))

pub IsPlain-time_text : (s : ℕ) → s ≤ 4_102_444_799 → IsPlain (time_text s)
unfolding time_text
IsPlain-time_text s h =
    let d = day_of (s / 86_400) in
    let known = IsDayNumber-day_of (s / 86_400) (omega arith) in
    let long = days_in_month_bounds (pos d.year) d.month in
    let year : d.year ≤ 9999 = omega (arith, signed_arith, known.civil.0.1) in
    let month : d.month < 100 = omega (arith, known.civil.1.1) in
    let day : d.day < 100 = omega (arith, known.civil.2.1, long.0) in
    let y1 = two (d.year / 100) (omega arith) in
    let y2 = two (d.year % 100) (omega arith) in
    let m = two d.month month in
    let n = two d.day day in
    let h1 = two (s % 86_400 / 3600) (omega arith) in
    let h2 = two (s % 86_400 / 60 % 60) (omega arith) in
    let h3 = two (s % 86_400 % 60) (omega arith) in
    let dash : IsBetween 45 = (omega arith, omega arith) in
    let colon : IsBetween 58 = (omega arith, omega arith) in
    let letter_t : IsBetween 84 = (omega arith, omega arith) in
    let letter_z : IsBetween 90 = (omega arith, omega arith) in
    IsPlain-from_all _
    (y1.0, (y1.1, (y2.0, (y2.1, (dash, (m.0, (m.1, (dash, (n.0, (n.1, (letter_t, (h1.0, (h1.1, (colon, (h2.0, (h2.1, (colon, (h3.0, (h3.1, (letter_z, tt))))))))))))))))))))
