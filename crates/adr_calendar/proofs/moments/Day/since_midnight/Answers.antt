use Rattle.std.proofs.Common.{◌≡◌, ◌-ℤ◌, ◌<◌, ◌++◌, unsigned_abs, codes, sym, ap, ◌∙◌, arith, FitsSigned}
use Rattle.std.specs.Int.{w128}
use Rattle.std.proofs.lemmas.Int.{ints, to_z-of_z}
use Rattle.adr_time.specs.Calendar.{clock_of, date_of_day, day_of}
use Rattle.adr_time.specs.Text.{date_text}
use Rattle.adr_calendar.proofs.Days.{in_day}
use Rattle.adr_calendar.proofs.moments.Day.since_midnight.Goals as goal

-- the moment is of the day, and the clock shows what has passed since its midnight
of_day : (c : goal.Then-since-lt-DAY) → (c.in-Ok.since ≡ clock_of c.args.moment) × (day_of c.args.moment ≡ day_of c.in_ok-self.field-0)
of_day c =
    let t = c.nanoseconds.result in
    let m = c.nanoseconds-2.result in
    let moment : FitsSigned w128 c.nanoseconds.result = omega (arith, ints, c.nanoseconds.ensures.in_range) in
    let midnight : FitsSigned w128 c.nanoseconds-2.result = omega (arith, ints, c.nanoseconds-2.ensures.in_range) in
    let apart : FitsSigned w128 (c.nanoseconds.result -ℤ c.nanoseconds-2.result) =
    omega (arith, ints, c.nanoseconds.ensures.in_range, c.nanoseconds-2.ensures.in_range) in
    let since = simp to_z-of_z at c.in-Ok.ensures in
    let whole = ap clock_of c.nanoseconds-2.ensures.value ∙ c.args.self.now.whole c.in_ok-self.field-0 c.in_ok-self.was in
    let less : unsigned_abs (t -ℤ m) < 86_400_000_000_000 = omega (arith, since.1, c.if-since-lt-DAY.true) in
    let day = in_day t m whole since.0.0 less in (
      since.1 ∙ day.0 ∙ ap clock_of c.nanoseconds.ensures.value,
      sym (ap day_of c.nanoseconds.ensures.value) ∙ day.1 ∙ ap day_of c.nanoseconds-2.ensures.value,
    )

pub returns-in-Ok-clause-value : goal.returns-in-Ok-clause-value
returns-in-Ok-clause-value c = (of_day c).0

pub returns-in-Ok-clause-text : goal.returns-in-Ok-clause-text
returns-in-Ok-clause-text c =
    c.args.self.now.told c.in_ok-self.field-0 c.in_ok-self.was ∙ ap (λ d. date_text (date_of_day d) ++ codes "T") (sym (of_day c).1)
