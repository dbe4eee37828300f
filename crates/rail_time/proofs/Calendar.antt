-- The days by steps are the days of `jiff`'s calendar.
use Rattle.std.proofs.Common.{◌≡◌, ℕ, zero, suc, ◌+◌, ◌<◌, ◌≤◌, Bool, true, false, nat_lt, pos, ◌+ℤ◌, refl, sym, ap, ◌∙◌, arith, rules, if◌then◌else◌, lit≤, inl, inr}
use Rattle.std.proofs.lemmas.Bool.{cases_lt}
use Rattle.std.proofs.lemmas.Bool.Decides.{nat_tests}
use Rattle.jiff_core.specs.declared.civil.date.Date.{Date}
use Rattle.jiff_core.specs.Calendar.{days_in_month, days_from_civil, IsCivilDate}
use Rattle.jiff_core.specs.Date.{epoch_day}
use Rattle.jiff_core.proofs.SignedLemmas.{signed_arith}
use Rattle.jiff_core.proofs.CalendarLemmas.{days_in_month_bounds, day_count-epoch, days_from_civil-day_count}
use Rattle.jiff_core.proofs.DateLemmas.{epoch_day_injective, days_from_civil-day, days_from_civil-next_month, days_from_civil-next_year, days_from_civil-max}
use Rattle.rail_time.specs.Days.{Day, day_of}

-- the day has this day number, and the calendar has it
pub record IsDayNumber (n : ℕ) (d : Day) : Type 0 where
  pub civil : IsCivilDate (pos d.year) d.month d.day
  pub number : days_from_civil (pos d.year) d.month d.day ≡ pos n
  pub late : 1970 ≤ d.year

within_month : (n : ℕ) (d : Day) → IsDayNumber n d → d.day < days_in_month (pos d.year) d.month → IsDayNumber (suc n) (record { year = d.year; month = d.month; day = d.day + 1 })
within_month n d h more = record {
  civil = (h.civil.0, h.civil.1, (omega arith, omega arith));
  number = omega (arith, signed_arith, h.number, days_from_civil-day (pos d.year) d.month d.day (d.day + 1) h.civil.2.0 (omega arith));
  late = h.late;
}

next_month : (n : ℕ) (d : Day) → IsDayNumber n d → days_in_month (pos d.year) d.month ≤ d.day → d.month < 12 → IsDayNumber (suc n) (record { year = d.year; month = d.month + 1; day = 1 })
next_month n d h last more =
    let long = days_in_month_bounds (pos d.year) (d.month + 1) in
    let whole : d.day ≡ days_in_month (pos d.year) d.month = omega (arith, h.civil.2.1) in
    record {
      civil = (h.civil.0, (omega arith, omega arith), (omega arith, omega (arith, long.1)));
      number = omega (arith, signed_arith, h.number, days_from_civil-next_month (pos d.year) d.month d.day h.civil.1.0 whole);
      late = h.late;
    }

-- the last year has no day more
year_left : (n : ℕ) (d : Day) → IsDayNumber n d → days_from_civil (pos d.year) 12 31 ≡ pos n → suc n ≤ 2_932_896 → d.year < 9999
year_left n d h at small =
    elim (cases_lt d.year 9999) [
      | inl less ↦ less
      | inr past ↦
          let last : d.year ≡ 9999 = omega (arith, signed_arith, h.civil.0.1) in
          let same : pos n ≡ pos 2_932_896 = sym at ∙ ap (λ y. days_from_civil (pos y) 12 31) last ∙ days_from_civil-max in
          absurd (omega (arith, signed_arith))
    ]

next_year : (n : ℕ) (d : Day) → IsDayNumber n d → suc n ≤ 2_932_896 → days_in_month (pos d.year) d.month ≤ d.day → 12 ≤ d.month → IsDayNumber (suc n) (record { year = d.year + 1; month = 1; day = 1 })
next_year n d h small last december =
    let twelve : d.month ≡ 12 = omega (arith, h.civil.1.1) in
    let long : days_in_month (pos d.year) d.month ≡ 31 = rw twelve refl in
    let end : d.day ≡ 31 = omega (arith, h.civil.2.1) in
    let at : days_from_civil (pos d.year) 12 31 ≡ pos n = ap (λ m. days_from_civil (pos d.year) m 31) (sym twelve) ∙ ap (λ x. days_from_civil (pos d.year) d.month x) (sym end) ∙ h.number in
    let more : d.year < 9999 = year_left n d h at small in
    let next : days_from_civil (pos (d.year + 1)) 1 1 ≡ days_from_civil (pos d.year) 12 31 +ℤ pos 1 = days_from_civil-next_year (pos d.year) (pos (d.year + 1)) (search rules) (search (rules, signed_arith)) in
    record {
      civil = ((search rules, omega (arith, signed_arith)), (lit≤ tt, lit≤ tt), (lit≤ tt, omega (arith, (days_in_month_bounds (pos (d.year + 1)) 1).1)));
      number = next ∙ omega (arith, signed_arith, at);
      late = omega (arith, h.late);
    }

step_at : (day_left month_left : Bool) (n : ℕ) (d : Day) → nat_lt d.day (days_in_month (pos d.year) d.month) ≡ day_left → nat_lt d.month 12 ≡ month_left → IsDayNumber n d → suc n ≤ 2_932_896
    → IsDayNumber (suc n) (if day_left then record { year = d.year; month = d.month; day = d.day + 1 } else (if month_left then record { year = d.year; month = d.month + 1; day = 1 } else record { year = d.year + 1; month = 1; day = 1 }))
step_at true c n d day month h small = within_month n d h (grind (arith, nat_tests))
step_at false true n d day month h small = next_month n d h (grind (arith, nat_tests)) (grind (arith, nat_tests))
step_at false false n d day month h small = next_year n d h small (grind (arith, nat_tests)) (grind (arith, nat_tests))

pub IsDayNumber-day_of : (n : ℕ) → n ≤ 2_932_896 → IsDayNumber n (day_of n)
unfolding day_of
IsDayNumber-day_of zero h = record {
  civil = (search rules, (lit≤ tt, lit≤ tt), (lit≤ tt, lit≤ tt));
  number = omega (arith, signed_arith, days_from_civil-day_count (pos 1970) 1 1, day_count-epoch);
  late = lit≤ tt;
}
IsDayNumber-day_of (suc n) h = step_at _ _ n (day_of n) refl refl (IsDayNumber-day_of n (omega arith)) h

-- a date with that day number has the same parts
pub date_parts-day_of : (n : ℕ) (date : Date) → n ≤ 2_932_896 → epoch_day date ≡ pos n → (date.year ≡ pos (day_of n).year) × (date.month ≡ (day_of n).month) × (date.day ≡ (day_of n).day)
date_parts-day_of n date small is =
    let h = IsDayNumber-day_of n small in
    let same : Date = record { year = pos (day_of n).year; month = (day_of n).month; day = (day_of n).day; year_in = h.civil.0; month_in = h.civil.1; day_in = h.civil.2 } in
    epoch_day_injective date same (is ∙ sym h.number)
