-- A span of either sign leaves the range only where its whole sum does, as far back as the calendar goes.
use Rattle.std.proofs.Common.{◌≡◌, ◌∙◌, ◌≤◌, ◌&&◌, ℕ, ℤ, pos, neg_ℤ, ◌+ℤ◌, ◌≤ℤ◌, ◌<ℤ◌, Bool, true, false, arith, refl, sym, ap, subst}
use Rattle.std.specs.Prelude.{int_le}
use Rattle.std.proofs.lemmas.Bool.{and_parts}
use Rattle.std.proofs.lemmas.Int.{by_lt_z, ints}
use Rattle.jiff_core.specs.Calendar.{IsYear, days_of_years, days_of_months, days_in_month, day_count, days_from_civil}
use Rattle.jiff_core.specs.Date.{epoch_day}
use Rattle.jiff_core.specs.DateTime.{civil_nanos}
use Rattle.jiff_core.specs.Span.{span_months, span_days, clock_nanos, month_magnitude, day_magnitude, clock_magnitude}
use Rattle.jiff_core.specs.Sign.{signed}
use Rattle.jiff_core.specs.Timestamp.{IsTimestampNanos}
use Rattle.jiff_core.specs.declared.civil.date.Date.{Date}
use Rattle.jiff_core.specs.declared.civil.datetime.DateTime.{DateTime}
use Rattle.jiff_core.specs.declared.span.Span.{Span}
use Rattle.jiff_core.proofs.SignedLemmas.{signed_arith}
use Rattle.jiff_core.proofs.CalendarLemmas.{day_of_year_before, day_count-day_of_year, days_from_civil-day_count, days_in_month_bounds, days_of_months_all}
use Rattle.jiff_core.proofs.DateTimeLemmas.{civil_nanos-parts, time_nanos_bound}
use Rattle.jiff_span.specs.Months.{add_months, IsShiftable, shifted_year, shifted_month, shifted_day}
use Rattle.jiff_span.proofs.MonthLemmas.{shifted_month_in, shifted_number, add_months-zero, add_months-backward}
use Rattle.jiff_zoned.specs.Moved.{civil_after}
use Rattle.jiff_zoned.specs.declared.zoned.Zoned.{Zoned}
use Rattle.jiff_tz.specs.declared.timezone.TimeZone.TheVariants.{UTC}
use Rattle.adr_time.proofs.ForwardLemmas.{forward, range-forward, same_bools, year_low}
use Rattle.adr_time.proofs.SumLemmas.{all_three, first_of, is_moment-true, is_year-true, shown-UTC, sum-shown, true-is_moment, true-is_year, year-shown}
use Rattle.adr_time.specs.Ends.{is_on_calendar}
use Rattle.adr_time.specs.Calendar.{calendar_sum, sum_in_utc, is_moment, is_year, is_in_range_sum, year_after, date_of_day, day_of}

-- the year -10000 lies before the first day
first_count : day_count (neg_ℤ (pos 10000)) 1 1 ≡ 0
unfolding day_count days_of_years days_of_months
first_count = refl

before_the_first : (m d : ℕ) → 1 ≤ m → m ≤ 12 → 1 ≤ d → d ≤ days_in_month (neg_ℤ (pos 10000)) m
    → days_from_civil (neg_ℤ (pos 10000)) m d <ℤ neg_ℤ (pos 4_371_587)
before_the_first m d low high day inside =
    let place = day_of_year_before (neg_ℤ (pos 10000)) m d 12 low inside high in
    let all : days_of_months (neg_ℤ (pos 10000)) 12 ≡ 366 = days_of_months_all (neg_ℤ (pos 10000)) in
    let count = day_count-day_of_year (neg_ℤ (pos 10000)) m d day in
    let number = days_from_civil-day_count (neg_ℤ (pos 10000)) m d in
    omega (arith, signed_arith, place, all, count, number, first_count)

-- months that lead to that year lead before the first day
past_the_start : (d : Date) (k : ℤ) → shifted_year d k ≡ neg_ℤ (pos 10000) → add_months d k <ℤ neg_ℤ (pos 4_371_587)
past_the_start d k e =
    let month = shifted_month_in d k in
    let long = days_in_month_bounds (shifted_year d k) (shifted_month d k) in
    let own = d.day_in in
    let day : 1 ≤ shifted_day d k = omega arith in
    let short : shifted_day d k ≤ days_in_month (shifted_year d k) (shifted_month d k) = omega arith in
    let inside : shifted_day d k ≤ days_in_month (neg_ℤ (pos 10000)) (shifted_month d k) = subst (λ y. shifted_day d k ≤ days_in_month y (shifted_month d k)) e short in
    subst (λ y. days_from_civil y (shifted_month d k) (shifted_day d k) <ℤ neg_ℤ (pos 4_371_587)) (sym e)
    (before_the_first (shifted_month d k) (shifted_day d k) month.0 month.1 day inside)

-- months back lead to the same day or an earlier one
not_after : (d : Date) (k : ℕ) → IsShiftable d (neg_ℤ (pos k)) → add_months d (neg_ℤ (pos k)) ≤ℤ epoch_day d
not_after d k h =
    by_lt_z (neg_ℤ (pos k)) (pos 0)
    (λ down. omega (arith, signed_arith, add_months-backward d (neg_ℤ (pos k)) h down))
    (λ none. let zero : neg_ℤ (pos k) ≡ pos 0 = omega (arith, signed_arith) in rw zero (omega (arith, signed_arith, add_months-zero d)))

backward : (b : Bool) (n : ℕ) → b ≡ true → signed b n ≡ neg_ℤ (pos n)
backward b n e = rw e refl

-- the years after the last are not reached
year_high : (d : Date) (k : ℕ) → shifted_year d (neg_ℤ (pos k)) ≤ℤ pos 9999
year_high d k =
    let y = d.year_in in
    let m = d.month_in in
    let n = shifted_number d (neg_ℤ (pos k)) in
    let month = shifted_month_in d (neg_ℤ (pos k)) in
    omega (arith, signed_arith)

steps_in_range : (dt : DateTime) (months days clock : ℕ) (t : ℤ) → civil_nanos dt ≡ t → IsTimestampNanos t
    → neg_ℤ (pos 10000) ≤ℤ shifted_year dt.date (neg_ℤ (pos months))
    → IsTimestampNanos (civil_after dt (neg_ℤ (pos months)) (neg_ℤ (pos days)) +ℤ neg_ℤ (pos clock))
    → IsShiftable dt.date (neg_ℤ (pos months)) × IsTimestampNanos (civil_after dt (neg_ℤ (pos months)) (neg_ℤ (pos days)))
steps_in_range dt months days clock t e here low sum =
    let parts = civil_nanos-parts dt in
    let time = time_nanos_bound dt.time in
    by_lt_z (shifted_year dt.date (neg_ℤ (pos months))) (neg_ℤ (pos 9999))
    (λ past.
    let last : shifted_year dt.date (neg_ℤ (pos months)) ≡ neg_ℤ (pos 10000) = omega (arith, signed_arith) in
    let early = past_the_start dt.date (neg_ℤ (pos months)) last in absurd (omega (arith, signed_arith)))
    (λ within.
    let year : IsShiftable dt.date (neg_ℤ (pos months)) = (within, year_high dt.date months) in
    let earlier = not_after dt.date months year in
    (year, (omega (arith, signed_arith), omega (arith, signed_arith))))

int_le_true : (y : ℤ) → neg_ℤ (pos 9999) ≤ℤ y → int_le (neg_ℤ (pos 10000)) y ≡ true
int_le_true y h = grind (arith, ints)

both_true : (a b : Bool) → a ≡ true → b ≡ true → (a && b) ≡ true
both_true a b p q = rw (p, q) refl

year_low-true : (y : ℤ) → int_le (neg_ℤ (pos 10000)) y ≡ true → neg_ℤ (pos 10000) ≤ℤ y
year_low-true y e = grind (arith, ints)

true-year_low : (y : ℤ) → IsYear y → int_le (neg_ℤ (pos 10000)) y ≡ true
true-year_low y h = int_le_true y h.0

range-backward : (z : Zoned) (s : Span) → z.time_zone ≡ UTC → s.negative ≡ true
    → is_on_calendar z.timestamp.nanosecond s ≡ true → is_moment (sum_in_utc z.timestamp.nanosecond s) ≡ true
    → is_in_range_sum z.timestamp.nanosecond s ≡ true
range-backward z s e down on h =
    let months : span_months s ≡ neg_ℤ (pos (month_magnitude s)) = backward s.negative (month_magnitude s) down in
    let days : span_days s ≡ neg_ℤ (pos (day_magnitude s)) = backward s.negative (day_magnitude s) down in
    let clock : clock_nanos s ≡ neg_ℤ (pos (clock_magnitude s)) = backward s.negative (clock_magnitude s) down in
    let at : calendar_sum z.timestamp.nanosecond s ≡ civil_after z.datetime (neg_ℤ (pos (month_magnitude s))) (neg_ℤ (pos (day_magnitude s))) =
    sum-shown z s e ∙ ap (λ k. civil_after z.datetime k (span_days s)) months ∙ ap (λ k. civil_after z.datetime (neg_ℤ (pos (month_magnitude s))) k) days in
    let whole : sum_in_utc z.timestamp.nanosecond s ≡ civil_after z.datetime (neg_ℤ (pos (month_magnitude s))) (neg_ℤ (pos (day_magnitude s))) +ℤ neg_ℤ (pos (clock_magnitude s)) =
    ap (λ n. n +ℤ clock_nanos s) at ∙ ap (λ k. civil_after z.datetime (neg_ℤ (pos (month_magnitude s))) (neg_ℤ (pos (day_magnitude s))) +ℤ k) clock in
    let shifted = year-shown z (span_months s) e ∙ ap (λ k. shifted_year z.datetime.date k) months in
    let steps = steps_in_range z.datetime (month_magnitude s) (day_magnitude s) (clock_magnitude s) z.timestamp.nanosecond (shown-UTC z e) z.timestamp.in_range
    (subst (λ y. neg_ℤ (pos 10000) ≤ℤ y) shifted (year_low-true _ on))
    (subst IsTimestampNanos whole (is_moment-true _ h)) in
    all_three _ _ _ (true-is_year _ (subst IsYear (sym shifted) steps.0)) (true-is_moment _ (subst IsTimestampNanos (sym at) steps.1)) h

-- forward no sum leads before the calendar
on_calendar-forward : (z : Zoned) (s : Span) → z.time_zone ≡ UTC → s.negative ≡ false → is_on_calendar z.timestamp.nanosecond s ≡ true
on_calendar-forward z s e up =
    let months : span_months s ≡ pos (month_magnitude s) = forward s.negative (month_magnitude s) up in
    let shifted = year-shown z (span_months s) e ∙ ap (λ k. shifted_year z.datetime.date k) months in
    let low = year_low z.datetime.date (month_magnitude s) in
    int_le_true _ (subst (λ y. neg_ℤ (pos 9999) ≤ℤ y) (sym shifted) low)

on_calendar-in_range : (t : ℤ) (s : Span) → is_in_range_sum t s ≡ true → (is_on_calendar t s && is_moment (sum_in_utc t s)) ≡ true
on_calendar-in_range t s h =
    let year = year_after (date_of_day (day_of t)) (span_months s) in
    let parts = first_of (is_year year) (is_moment (calendar_sum t s)) (is_moment (sum_in_utc t s)) h in
    both_true (is_on_calendar t s) (is_moment (sum_in_utc t s)) (true-year_low year (is_year-true year parts.0)) parts.2

-- of either sign
pub range-either : (z : Zoned) (s : Span) → z.time_zone ≡ UTC
    → is_in_range_sum z.timestamp.nanosecond s ≡ (is_on_calendar z.timestamp.nanosecond s && is_moment (sum_in_utc z.timestamp.nanosecond s))
range-either z s e = by s.negative refl
  where
    inside : Bool
    inside = is_moment (sum_in_utc z.timestamp.nanosecond s)

    by : (b : Bool) → s.negative ≡ b → is_in_range_sum z.timestamp.nanosecond s ≡ (is_on_calendar z.timestamp.nanosecond s && inside)
    by false up = range-forward z s e up ∙ ap (λ b. b && inside) (sym (on_calendar-forward z s e up))
    by true down =
        same_bools (is_in_range_sum z.timestamp.nanosecond s) (is_on_calendar z.timestamp.nanosecond s && inside)
        (on_calendar-in_range z.timestamp.nanosecond s)
        (λ h. let parts = and_parts (is_on_calendar z.timestamp.nanosecond s) inside h in range-backward z s e down parts.0 parts.1)
