-- Which of two intervals goes before the other (OpenADR 3.0 Definition: event, priority).
use Rattle.std.specs.Prelude.{ℕ, ◌^◌, ◌==◌, ◌&&◌, ◌||◌, nat_lt, ℤ, pos, neg_ℤ, int_lt, Bool, Option}
use Rattle.std.specs.Ordering.{int_eq}
use Rattle.std.specs.List.{list_any}
use Rattle.std.specs.Option.{unwrap_or}
use Rattle.adr_value.specs.Same.{same_type}
use Rattle.adr_value.specs.declared.payload.PayloadType.{PayloadType}
use Rattle.adr_object.specs.declared.event.Interval.{Interval}
use Rattle.adr_model.specs.declared.entry.Entry.{Entry}
use Rattle.adr_model.specs.declared.entry.Rank.{Rank}
use Rattle.adr_model.specs.declared.entry.Tie.{Tie}
use Rattle.adr_model.specs.declared.entry.Tie.TheVariants.{Newest, LatestStart}

-- the interval has a payload of the type
abbrev pub carries : Interval → PayloadType → Bool
carries interval payload_type = list_any (λ p. same_type p.kind payload_type) interval.payloads

-- a lower number is a higher priority, and absence is below every number
abbrev pub priority_of : Option ℕ → ℕ
priority_of priority = unwrap_or priority (2 ^ 32)

-- how late an interval counts where priorities are equal: under the rule of the latest start, minus its start
abbrev pub late_of : Tie → ℤ → ℤ
late_of Newest start = pos 0
late_of LatestStart start = neg_ℤ start

-- the entry with its rank under a rule for ties
abbrev pub ranked : Tie → Entry → Entry
ranked tie e = record e { rank = record e.rank { late = late_of tie e.span.start } }

-- of one priority: by lateness, then the later write, then the earlier place
abbrev pub breaks_tie : Rank → Rank → Bool
breaks_tie a b =
    int_lt a.late b.late
    || (int_eq a.late b.late && (nat_lt b.written a.written || ((a.written == b.written) && nat_lt a.place b.place)))

-- by priority, and where that is equal by the rule for ties
abbrev pub goes_before : Rank → Rank → Bool
goes_before a b = nat_lt a.priority b.priority || ((a.priority == b.priority) && breaks_tie a b)
