-- A worked sum whose years lead before the calendar: day numbers turn round there, so that it comes out as a moment,
-- and its year alone tells that it is out of range.
use Rattle.std.proofs.Common.{◌≡◌, ◌∙◌, ◌&&◌, ℤ, pos, neg_ℤ, true, false, arith, refl, sym, ap}
use Rattle.jiff_core.specs.Calendar.{day_count, days_from_civil, days_of_months, days_of_years}
use Rattle.jiff_core.specs.declared.civil.date.Date.{Date}
use Rattle.jiff_core.specs.declared.span.Span.{Span}
use Rattle.jiff_core.proofs.CalendarLemmas.{day_count-day, day_count-epoch, days_from_civil-day_count}
use Rattle.jiff_core.proofs.SignedLemmas.{signed_arith}
use Rattle.jiff_fmt.specs.Temporal.{DateParts, date_parts}
use Rattle.adr_time.specs.Calendar.{calendar_sum, date_of_day, day_after, is_in_range_sum, is_moment, is_year, sum_in_utc, year_after}
use Rattle.adr_time.proofs.CalendarLemmas.{date_of_day-date}

-- 1970-01-03T00:00:00Z
pub start : ℤ
start = pos 172_800_000_000_000

third_of_january : Date
third_of_january = record {
  year = pos 1970;
  month = 1;
  day = 3;
  year_in = (omega (arith, signed_arith), omega (arith, signed_arith));
  month_in = (omega arith, omega arith);
  day_in = (omega arith, omega arith);
}

-- 11,971 years back: to the year -10001
pub back : Span
back = record {
  negative = true;
  years = 11_971;
  months = 0;
  weeks = 0;
  days = 0;
  hours = 0;
  minutes = 0;
  seconds = 0;
  milliseconds = 0;
  microseconds = 0;
  nanoseconds = 0;
  years_in = omega arith;
  months_in = omega arith;
  weeks_in = omega arith;
  days_in = omega arith;
  hours_in = omega arith;
  minutes_in = omega arith;
  seconds_in = omega arith;
  milliseconds_in = omega arith;
  microseconds_in = omega arith;
  nanoseconds_in = omega arith;
  zero_has_no_sign = λ h. omega arith;
}

third_day : days_from_civil (pos 1970) 1 3 ≡ pos 2
third_day =
    let number = days_from_civil-day_count (pos 1970) 1 3 in
    let later = day_count-day (pos 1970) 1 3 1 (omega arith) (omega arith) in
    omega (arith, signed_arith, number, later, day_count-epoch)

its_date : date_of_day (pos 2) ≡ date_parts third_of_january
unfolding third_of_january
its_date = ap date_of_day (sym third_day) ∙ date_of_day-date third_of_january

-- the third day of the year -10001 has the number of that of the year -9999
turned_count : day_count (neg_ℤ (pos 10_001)) 1 3 ≡ 368
unfolding day_count days_of_years days_of_months
turned_count = refl

turned_day : days_from_civil (neg_ℤ (pos 10_001)) 1 3 ≡ neg_ℤ (pos 4_371_585)
turned_day =
    let number = days_from_civil-day_count (neg_ℤ (pos 10_001)) 1 3 in
    omega (arith, signed_arith, number, turned_count)

day_back : day_after (date_of_day (pos 2)) (neg_ℤ (pos 143_652)) ≡ neg_ℤ (pos 4_371_585)
unfolding day_after third_of_january
day_back = ap (λ (d : DateParts). day_after d (neg_ℤ (pos 143_652))) its_date ∙ turned_day

pub early_sum_is_a_moment : is_moment (sum_in_utc start back) ≡ true
unfolding start back
early_sum_is_a_moment = rw day_back refl

pub early_year_is_out_of_range : is_in_range_sum start back ≡ false
unfolding start back third_of_january
early_year_is_out_of_range = ap (λ (d : DateParts). is_year (year_after d (neg_ℤ (pos 143_652))) && is_moment (calendar_sum start back) && is_moment (sum_in_utc start back)) its_date
