-- The calendar of the worked rows: the days that they name, and what lengths reach from there.
use Rattle.std.specs.Prelude.{◌≡◌, ℕ, ℤ, pos, ◌*◌, ◌+◌, [], ◌∷◌, codes, Ok, Err, refl}
use Rattle.std.proofs.Common.{rules, ◌∙◌, sym, ap}
use Rattle.jiff_core.specs.declared.civil.date.Date.{Date}
use Rattle.jiff_core.specs.Calendar.{days_from_civil, day_count, days_of_years, days_of_months}
use Rattle.jiff_fmt.specs.Temporal.{calendar_and_time, date_units, time_units}
use Rattle.jiff_fmt.specs.Reader.{u64_prefix, checked_number, temporal_fraction}
use Rattle.jiff_fmt.specs.Units.{to_span}
use Rattle.adr_refusal.specs.declared.refusal.Refusal.TheVariants.{TimeRange}
use Rattle.adr_time.specs.Calendar.{date_of_day, day_after}
use Rattle.adr_time.specs.Ends.{end_after}
use Rattle.adr_time.specs.Lengths.{length_named, span_of}
use Rattle.adr_time.specs.declared.length.Length.{Length}
use Rattle.adr_time.specs.declared.length.Length.TheVariants.{Of, Endless}
use Rattle.adr_time.specs.declared.span.End.TheVariants.{At}
use Rattle.adr_time.proofs.CalendarLemmas.{date_of_day-date}

-- 2024-01-01 with that many half hours
abbrev pub half_hours : ℕ → ℤ
half_hours n = pos (1704067200000000000 + n * 1800000000000)

abbrev pub hours : ℕ → Length
hours n = Of (span_of (0 ∷ 0 ∷ 0 ∷ 0 ∷ 0 ∷ n ∷ 0 ∷ 0 ∷ 0 ∷ 0 ∷ 0 ∷ []))

abbrev pub one_month : Length
one_month = Of (span_of (0 ∷ 0 ∷ 1 ∷ 0 ∷ 0 ∷ 0 ∷ 0 ∷ 0 ∷ 0 ∷ 0 ∷ 0 ∷ []))

abbrev pub one_year : Length
one_year = Of (span_of (0 ∷ 1 ∷ 0 ∷ 0 ∷ 0 ∷ 0 ∷ 0 ∷ 0 ∷ 0 ∷ 0 ∷ 0 ∷ []))

-- ---- these lengths are those of the texts

hour_named : length_named (codes "PT1H") ≡ Ok (hours 1)
unfolding length_named span_of calendar_and_time date_units u64_prefix time_units checked_number temporal_fraction to_span
hour_named = refl

two_hours_named : length_named (codes "PT2H") ≡ Ok (hours 2)
unfolding length_named span_of calendar_and_time date_units u64_prefix time_units checked_number temporal_fraction to_span
two_hours_named = refl

no_time_named : length_named (codes "PT0S") ≡ Ok (hours 0)
unfolding length_named span_of calendar_and_time date_units u64_prefix time_units checked_number temporal_fraction to_span
no_time_named = refl

month_named : length_named (codes "P1M") ≡ Ok one_month
unfolding length_named span_of calendar_and_time date_units u64_prefix time_units checked_number temporal_fraction to_span
month_named = refl

year_named : length_named (codes "P1Y") ≡ Ok one_year
unfolding length_named span_of calendar_and_time date_units u64_prefix time_units checked_number temporal_fraction to_span
year_named = refl

endless_named : length_named (codes "P9999Y") ≡ Ok Endless
unfolding length_named span_of calendar_and_time date_units u64_prefix time_units checked_number temporal_fraction to_span
endless_named = refl

-- ---- days: what the calendar shows on a day number

first_of_2024 : Date
first_of_2024 = record { year = pos 2024; month = 1; day = 1; year_in = search rules; month_in = search rules; day_in = search rules }

first_of_2024-day : days_from_civil (pos 2024) 1 1 ≡ pos 19723
unfolding days_from_civil day_count days_of_years days_of_months
first_of_2024-day = refl

pub new_year : date_of_day (pos 19723) ≡ record { year = pos 2024; month = 1; day = 1 }
unfolding first_of_2024
new_year = ap date_of_day (sym first_of_2024-day) ∙ date_of_day-date first_of_2024

last_of_january : Date
last_of_january = record { year = pos 2024; month = 1; day = 31; year_in = search rules; month_in = search rules; day_in = search rules }

last_of_january-day : days_from_civil (pos 2024) 1 31 ≡ pos 19753
unfolding days_from_civil day_count days_of_years days_of_months
last_of_january-day = refl

january_31 : date_of_day (pos 19753) ≡ record { year = pos 2024; month = 1; day = 31 }
unfolding last_of_january
january_31 = ap date_of_day (sym last_of_january-day) ∙ date_of_day-date last_of_january

first_of_june_9999 : Date
first_of_june_9999 = record { year = pos 9999; month = 6; day = 1; year_in = search rules; month_in = search rules; day_in = search rules }

first_of_june_9999-day : days_from_civil (pos 9999) 6 1 ≡ pos 2932683
unfolding days_from_civil day_count days_of_years days_of_months
first_of_june_9999-day = refl

june_9999 : date_of_day (pos 2932683) ≡ record { year = pos 9999; month = 6; day = 1 }
unfolding first_of_june_9999
june_9999 = ap date_of_day (sym first_of_june_9999-day) ∙ date_of_day-date first_of_june_9999

-- ---- ends

pub midnight_and_1 : end_after (half_hours 0) (hours 1) ≡ Ok (At (half_hours 2))
unfolding days_from_civil day_count days_of_years days_of_months span_of day_after
midnight_and_1 = rw new_year refl

pub midnight_and_2 : end_after (half_hours 0) (hours 2) ≡ Ok (At (half_hours 4))
unfolding days_from_civil day_count days_of_years days_of_months span_of day_after
midnight_and_2 = rw new_year refl

pub one_and_0 : end_after (half_hours 2) (hours 0) ≡ Ok (At (half_hours 2))
unfolding days_from_civil day_count days_of_years days_of_months span_of day_after
one_and_0 = rw new_year refl

pub one_and_1 : end_after (half_hours 2) (hours 1) ≡ Ok (At (half_hours 4))
unfolding days_from_civil day_count days_of_years days_of_months span_of day_after
one_and_1 = rw new_year refl

pub one_and_2 : end_after (half_hours 2) (hours 2) ≡ Ok (At (half_hours 6))
unfolding days_from_civil day_count days_of_years days_of_months span_of day_after
one_and_2 = rw new_year refl

pub half_past_one_and_1 : end_after (half_hours 3) (hours 1) ≡ Ok (At (half_hours 5))
unfolding days_from_civil day_count days_of_years days_of_months span_of day_after
half_past_one_and_1 = rw new_year refl

pub two_and_1 : end_after (half_hours 4) (hours 1) ≡ Ok (At (half_hours 6))
unfolding days_from_civil day_count days_of_years days_of_months span_of day_after
two_and_1 = rw new_year refl

pub two_and_2 : end_after (half_hours 4) (hours 2) ≡ Ok (At (half_hours 8))
unfolding days_from_civil day_count days_of_years days_of_months span_of day_after
two_and_2 = rw new_year refl

pub six_and_1 : end_after (half_hours 12) (hours 1) ≡ Ok (At (half_hours 14))
unfolding days_from_civil day_count days_of_years days_of_months span_of day_after
six_and_1 = rw new_year refl

-- a month from 31 January ends on 29 February, 59 days into the year
pub january_31_and_a_month : end_after (half_hours 1440) one_month ≡ Ok (At (half_hours 2832))
unfolding days_from_civil day_count days_of_years days_of_months span_of day_after
january_31_and_a_month = rw january_31 refl

-- the noon of the calendar's last year and a year is out of range
pub june_9999_and_a_year : end_after (pos 253383811200000000000) one_year ≡ Err TimeRange
unfolding days_from_civil day_count days_of_years days_of_months span_of day_after
june_9999_and_a_year = rw june_9999 refl
