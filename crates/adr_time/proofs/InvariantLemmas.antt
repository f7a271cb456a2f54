-- With no years and months the sum in UTC is that of two numbers.
use Rattle.std.proofs.Common.{◌≡◌, ◌∙◌, ◌+◌, ◌*◌, ◌≤◌, ◌&&◌, ℕ, zero, suc, ℤ, pos, neg_ℤ, ◌+ℤ◌, ◌*ℤ◌, ◌<ℤ◌, unsigned_abs, if◌then◌else◌, Ok, Err, Bool, true, false, arith, refl, sym, ap, subst, inl, inr}
use Rattle.std.proofs.lemmas.Bool.Decides.{leb_tells}
use Rattle.std.proofs.lemmas.Int.{by_lt_z, ints}
use Rattle.jiff_core.specs.Calendar.{IsYear, days_from_civil, days_in_month}
use Rattle.jiff_core.specs.Date.{epoch_day}
use Rattle.jiff_core.specs.Span.{span_months, span_days, clock_nanos, invariant_nanos, month_magnitude, day_magnitude, clock_magnitude}
use Rattle.jiff_core.specs.Sign.{signed}
use Rattle.jiff_core.specs.Timestamp.{IsTimestampNanos}
use Rattle.jiff_core.specs.declared.civil.date.Date.{Date}
use Rattle.jiff_core.specs.declared.span.Span.{Span}
use Rattle.jiff_core.proofs.CalendarLemmas.{days_in_month_bounds}
use Rattle.jiff_core.proofs.DateLemmas.{days_from_civil-min, days_from_civil-max, days_from_civil-day, days_from_civil-next_month, days_from_civil-next_year}
use Rattle.jiff_core.proofs.SignedLemmas.{signed_arith, one_part}
use Rattle.jiff_span.proofs.DifferenceLemmas.{signed_zero}
use Rattle.jiff_span.proofs.MonthLemmas.{add_months-zero}
use Rattle.adr_time.specs.Calendar.{calendar_sum, sum_in_utc, is_moment, is_year, is_in_range_sum, year_after, date_of_day, day_of, day_after}
use Rattle.jiff_fmt.specs.Temporal.{date_parts}
use Rattle.adr_refusal.specs.declared.refusal.Refusal.TheVariants.{TimeRange}
use Rattle.adr_time.specs.Ends.{is_on_calendar, moment_after}
use Rattle.adr_time.proofs.CalendarLemmas.{date_of_day-date, day_after-date}
use Rattle.adr_time.proofs.ForwardLemmas.{same_bools}
use Rattle.adr_time.proofs.SumLemmas.{is_moment-true, true-is_moment, true-is_year, all_three, first_of}

-- a date with that day number
abbrev IsDayOfDate : ℤ → Type 0
IsDayOfDate n = (d : Date) × (epoch_day d ≡ n)

-- the day after a date that isn't the last
next_day : (d : Date) → epoch_day d <ℤ pos 2_932_896 → IsDayOfDate (epoch_day d +ℤ pos 1)
next_day d h =
    let year = d.year_in in
    let month = d.month_in in
    let day = d.day_in in
    elim (leb_tells (d.day + 1) (days_in_month d.year d.month)) [
      | inl more ↦ (
        record { year = d.year; month = d.month; day = d.day + 1; year_in = year; month_in = month; day_in = (omega arith, more.1) },
        omega (arith, signed_arith, days_from_civil-day d.year d.month d.day (d.day + 1) day.0 (omega arith)),
      )
      | inr last ↦
          let end : d.day ≡ days_in_month d.year d.month = omega (arith, last.1) in
          elim (leb_tells (d.month + 1) 12) [
            | inl more ↦
                let long = days_in_month_bounds d.year (d.month + 1) in (
                  record { year = d.year; month = d.month + 1; day = 1; year_in = year; month_in = (omega arith, more.1); day_in = (omega arith, omega arith) },
                  days_from_civil-next_month d.year d.month d.day month.0 end,
                )
            | inr december ↦
                let twelve : d.month ≡ 12 = omega (arith, december.1) in
                let whole : d.day ≡ 31 = end ∙ ap (days_in_month d.year) twelve in
                let here : epoch_day d ≡ days_from_civil d.year 12 31 = ap (λ m. days_from_civil d.year m d.day) twelve ∙ ap (days_from_civil d.year 12) whole in
                by_lt_z d.year (pos 9999)
                (λ less. (
                  record { year = d.year +ℤ pos 1; month = 1; day = 1; year_in = omega (arith, signed_arith); month_in = (omega arith, omega arith); day_in = (omega arith, omega arith) },
                  days_from_civil-next_year d.year (d.year +ℤ pos 1) (omega (arith, signed_arith)) refl ∙ ap (λ n. n +ℤ pos 1) (sym here),
                ))
                (λ most.
                let same : d.year ≡ pos 9999 = omega (arith, signed_arith) in
                let top = ap (λ y. days_from_civil y 12 31) same ∙ days_from_civil-max in
                absurd (omega (arith, signed_arith, here, top, h)))
          ]
    ]

-- each day of the calendar is a date's
day_from_first : (k : ℕ) → k ≤ 7_304_483 → IsDayOfDate (neg_ℤ (pos 4_371_587) +ℤ pos k)
day_from_first zero h = (
  record { year = neg_ℤ (pos 9999); month = 1; day = 1; year_in = omega (arith, signed_arith); month_in = (omega arith, omega arith); day_in = (omega arith, omega arith) },
  days_from_civil-min,
)
day_from_first (suc k) h =
    let before = day_from_first k (omega arith) in
    let next = next_day before.0 (omega (arith, signed_arith, before.1)) in
    (next.0, next.1 ∙ omega (arith, signed_arith, before.1))

-- the day of each moment is a date's
date_of_moment : (t : ℤ) → IsTimestampNanos t → IsDayOfDate (day_of t)
date_of_moment t h =
    let low = h.0 in
    let high = h.1 in
    let from : neg_ℤ (pos 4_371_587) +ℤ pos (unsigned_abs (day_of t +ℤ pos 4_371_587)) ≡ day_of t = omega (arith, signed_arith, one_part (day_of t +ℤ pos 4_371_587)) in
    let day = day_from_first (unsigned_abs (day_of t +ℤ pos 4_371_587)) (omega (arith, signed_arith, one_part (day_of t +ℤ pos 4_371_587))) in
    let number : epoch_day day.0 ≡ neg_ℤ (pos 4_371_587) +ℤ pos (unsigned_abs (day_of t +ℤ pos 4_371_587)) = day.1 in
    (day.0, number ∙ from)

-- days and a time of one sign as one number
signed_sum : (b : Bool) (days clock : ℕ) → signed b days *ℤ pos 86_400_000_000_000 +ℤ signed b clock ≡ signed b (days * 86_400_000_000_000 + clock)
signed_sum false days clock = omega (arith, signed_arith)
signed_sum true days clock = omega (arith, signed_arith)

-- days that go the way of the rest lead no further than the whole
days_between : (b : Bool) (t : ℤ) (days clock : ℕ) → IsTimestampNanos t
    → IsTimestampNanos (t +ℤ signed b days *ℤ pos 86_400_000_000_000 +ℤ signed b clock)
    → IsTimestampNanos (t +ℤ signed b days *ℤ pos 86_400_000_000_000)
days_between false t days clock h sum =
    let low = h.0 in
    let high = sum.1 in
    (omega (arith, signed_arith), omega (arith, signed_arith))
days_between true t days clock h sum =
    let low = sum.0 in
    let high = h.1 in
    (omega (arith, signed_arith), omega (arith, signed_arith))

-- no years and months lead to the same year and the same day
year_stays : (t : ℤ) → IsTimestampNanos t → IsYear (year_after (date_of_day (day_of t)) (pos 0))
year_stays t h =
    let d = date_of_moment t h in
    let here : date_of_day (day_of t) ≡ date_parts d.0 = ap date_of_day (sym d.1) ∙ date_of_day-date d.0 in
    let year = d.0.year_in in
    let month = d.0.month_in in
    subst (λ p. IsYear (year_after p (pos 0))) (sym here) (omega (arith, signed_arith))

day_stays : (t : ℤ) → IsTimestampNanos t → day_after (date_of_day (day_of t)) (pos 0) ≡ day_of t
day_stays t h =
    let d = date_of_moment t h in
    ap (λ n. day_after (date_of_day n) (pos 0)) (sym d.1) ∙ ap (λ p. day_after p (pos 0)) (date_of_day-date d.0) ∙ day_after-date d.0 (pos 0) ∙ add_months-zero d.0 ∙ d.1

no_months : (s : Span) → month_magnitude s ≡ 0 → span_months s ≡ pos 0
no_months s none = signed_zero s.negative _ none

-- the calendar part is the moment and the days
calendar_sum-days : (t : ℤ) (s : Span) → IsTimestampNanos t → month_magnitude s ≡ 0
    → calendar_sum t s ≡ t +ℤ span_days s *ℤ pos 86_400_000_000_000
calendar_sum-days t s h none =
    let day : day_after (date_of_day (day_of t)) (span_months s) ≡ day_of t = ap (day_after (date_of_day (day_of t))) (no_months s none) ∙ day_stays t h in
    rw day (omega (arith, signed_arith))

-- the whole sum is the moment and the days and the rest
pub sum-invariant : (t : ℤ) (s : Span) → IsTimestampNanos t → month_magnitude s ≡ 0 → sum_in_utc t s ≡ t +ℤ invariant_nanos s
sum-invariant t s h none =
    let days : span_days s *ℤ pos 86_400_000_000_000 +ℤ clock_nanos s ≡ invariant_nanos s = signed_sum s.negative (day_magnitude s) (clock_magnitude s) in
    let calendar = calendar_sum-days t s h none in
    omega (arith, signed_arith, days, calendar)

pub range-invariant : (t : ℤ) (s : Span) → IsTimestampNanos t → month_magnitude s ≡ 0 → is_in_range_sum t s ≡ is_moment (sum_in_utc t s)
range-invariant t s h none =
    let low = h.0 in
    let high = h.1 in
    let calendar = calendar_sum-days t s h none in
    let year : IsYear (year_after (date_of_day (day_of t)) (span_months s)) = subst (λ k. IsYear (year_after (date_of_day (day_of t)) k)) (sym (no_months s none)) (year_stays t h) in
    same_bools _ _ (λ all. (first_of (is_year (year_after (date_of_day (day_of t)) (span_months s))) (is_moment (calendar_sum t s)) (is_moment (sum_in_utc t s)) all).2) (λ sum.
    let inside = is_moment-true _ sum in
    let whole = subst (λ n. IsTimestampNanos (n +ℤ clock_nanos s)) calendar inside in
    let middle = subst IsTimestampNanos (sym calendar) (days_between s.negative t (day_magnitude s) (clock_magnitude s) h whole) in
    all_three _ _ _ (true-is_year _ year) (true-is_moment _ middle) sum)

-- and they don't lead off the calendar
pub calendar-invariant : (t : ℤ) (s : Span) → IsTimestampNanos t → month_magnitude s ≡ 0 → is_on_calendar t s ≡ true
calendar-invariant t s h none =
    let year : IsYear (year_after (date_of_day (day_of t)) (span_months s)) = subst (λ k. IsYear (year_after (date_of_day (day_of t)) k)) (sym (no_months s none)) (year_stays t h) in
    let low = year.0 in
    grind (arith, ints)

pub either-invariant : (t : ℤ) (s : Span) → IsTimestampNanos t → month_magnitude s ≡ 0
    → is_in_range_sum t s ≡ (is_on_calendar t s && is_moment (sum_in_utc t s))
either-invariant t s h none = rw (range-invariant t s h none, calendar-invariant t s h none) refl

pub moment_after-invariant : (t : ℤ) (s : Span) → IsTimestampNanos t → month_magnitude s ≡ 0
    → moment_after t s ≡ (if is_moment (t +ℤ invariant_nanos s) then Ok (t +ℤ invariant_nanos s) else Err TimeRange)
moment_after-invariant t s h none = rw (range-invariant t s h none, sum-invariant t s h none) refl
