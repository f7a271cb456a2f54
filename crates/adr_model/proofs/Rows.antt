-- Worked examples: which event governs, and until when, after the edits of a script.
use Rattle.std.specs.Prelude.{◌≡◌, List, [], ◌∷◌, ◌++◌, codes, pos, true, Some, None, Ok, Err, refl, fold, map}
use Rattle.std.proofs.Common.{ap}
use Rattle.std.specs.Option.{option_map}
use Rattle.adr_refusal.specs.Faults.{least_fault}
use Rattle.adr_value.specs.declared.datum.Datum.{Datum}
use Rattle.adr_value.specs.declared.datum.Datum.TheVariants.{Text, Truth, Point}
use Rattle.adr_refusal.specs.declared.refusal.Refusal.TheVariants.{AfterEndless, Exists, InUse, NoStart, TimeRange}
use Rattle.adr_value.specs.declared.payload.PayloadType.{PayloadType}
use Rattle.adr_value.specs.declared.payload.PayloadType.TheVariants.{Price, Private}
use Rattle.adr_time.specs.declared.length.Length.TheVariants.{Endless as endless}
use Rattle.adr_time.specs.declared.span.End.TheVariants.{Endless}
use Rattle.adr_object.specs.declared.event.Event.{Event}
use Rattle.adr_object.specs.declared.object.Object.TheVariants.{Program as program, Event as event, Ven as ven, Resource as resource}
use Rattle.adr_object.specs.declared.object.Kind.TheVariants.{Event as event_kind, Ven as ven_kind, Resource as resource_kind}
use Rattle.adr_object.specs.declared.object.Edit.{Edit}
use Rattle.adr_object.specs.declared.object.Edit.TheVariants.{Create, Change, Remove}
use Rattle.adr_model.specs.Rank.{ranked}
use Rattle.adr_model.specs.declared.entry.Tie.TheVariants.{Newest}
use Rattle.adr_model.specs.Answer.{changes, earliest, until}
use Rattle.adr_model.specs.Layout.{layout}
use Rattle.adr_model.specs.Book.{empty}
use Rattle.adr_model.specs.Edits.{after, step, step_by, made}
use Rattle.adr_model.specs.Governor.{entries_for}
use Rattle.adr_model.proofs.EditLemmas.{after_all}
use Rattle.adr_model.proofs.Times.{half_hours, hours, one_month, one_year, midnight_and_1, midnight_and_2, one_and_0, one_and_1, one_and_2, half_past_one_and_1, two_and_1, two_and_2, six_and_1, january_31_and_a_month, june_9999_and_a_year}
use Rattle.adr_model.proofs.Scripts.{setting, setting_with, aimed_at, whole, priced, period, one_price, one_price-layout, span_between, prices, governor, ends, won_by, until_half_hour, entry, absent, governed, ended}

-- ---- one event of an hour

abbrev pub one_hour : Event
one_hour = one_price (codes "e1") None (half_hours 0) (Some (hours 1)) 17 []

abbrev pub one_event : List Edit
one_event = setting ++ Create (event one_hour) ∷ []

pub one_hour-layout : layout one_hour ≡ Ok (span_between 0 2 ∷ [])
one_hour-layout = one_price-layout _ _ _ _ _ _ _ midnight_and_1

pub one_event-after : after one_event ≡ fold made empty one_event
one_event-after = after_all one_event (refl, (refl, (refl, (rw one_hour-layout refl, tt))))

one_event-prices : prices one_event ≡ entry absent 4 0 (span_between 0 2) ∷ []
one_event-prices = rw one_event-after (rw one_hour-layout refl)

-- it governs its hour, at the end no more
one_event-governor : map (governor one_event) (0 ∷ 1 ∷ 2 ∷ []) ≡ won_by 4 ∷ won_by 4 ∷ None ∷ []
one_event-governor = governed _ _ one_event-prices (0 ∷ 1 ∷ 2 ∷ [])

one_event-until : map (ends one_event) (1 ∷ 2 ∷ []) ≡ until_half_hour 2 ∷ Endless ∷ []
one_event-until = ended _ _ one_event-prices (1 ∷ 2 ∷ [])

-- half a second before it nothing governs, until it starts
one_event-before : until Newest (after one_event) (codes "r1") Price (pos 1704067199500000000) ≡ until_half_hour 0
unfolding until
one_event-before = ap (λ es. earliest (changes (map (ranked Newest) es) (pos 1704067199500000000))) one_event-prices

-- an id that is there comes before a program that is not
taken_id : step (after one_event) (Create (event (record one_hour { program_id = codes "p9"; intervals = [] }))) ≡ Err Exists
unfolding step_by least_fault layout
taken_id = rw one_event-after refl

-- ---- a lower number goes first, and an absent one goes last

abbrev pub none_two_hours : Event
none_two_hours = one_price (codes "e1") None (half_hours 0) (Some (hours 2)) 10 []

abbrev pub five_later : Event
five_later = one_price (codes "e2") (Some 5) (half_hours 2) (Some (hours 2)) 20 []

abbrev pub zero_last : Event
zero_last = one_price (codes "e3") (Some 0) (half_hours 4) (Some (hours 2)) 30 []

abbrev pub by_priority : List Edit
by_priority = setting ++ Create (event none_two_hours) ∷ Create (event five_later) ∷ Create (event zero_last) ∷ []

pub none_two_hours-layout : layout none_two_hours ≡ Ok (span_between 0 4 ∷ [])
none_two_hours-layout = one_price-layout _ _ _ _ _ _ _ midnight_and_2

pub five_later-layout : layout five_later ≡ Ok (span_between 2 6 ∷ [])
five_later-layout = one_price-layout _ _ _ _ _ _ _ one_and_2

pub zero_last-layout : layout zero_last ≡ Ok (span_between 4 8 ∷ [])
zero_last-layout = one_price-layout _ _ _ _ _ _ _ two_and_2

pub by_priority-after : after by_priority ≡ fold made empty by_priority
by_priority-after =
    after_all by_priority (refl, (refl, (refl, (rw none_two_hours-layout refl, (rw five_later-layout refl, (rw zero_last-layout refl, tt))))))

by_priority-prices :
    prices by_priority ≡ entry absent 4 0 (span_between 0 4) ∷ entry 5 5 0 (span_between 2 6) ∷ entry 0 6 0 (span_between 4 8) ∷ []
by_priority-prices = rw by_priority-after (rw (none_two_hours-layout, five_later-layout, zero_last-layout) refl)

by_priority-governor :
    map (governor by_priority) (0 ∷ 1 ∷ 2 ∷ 3 ∷ 4 ∷ 7 ∷ 8 ∷ [])
    ≡ won_by 4 ∷ won_by 4 ∷ won_by 5 ∷ won_by 5 ∷ won_by 6 ∷ won_by 6 ∷ None ∷ []
by_priority-governor = governed _ _ by_priority-prices (0 ∷ 1 ∷ 2 ∷ 3 ∷ 4 ∷ 7 ∷ 8 ∷ [])

by_priority-until :
    map (ends by_priority) (0 ∷ 3 ∷ 5 ∷ 8 ∷ []) ≡ until_half_hour 2 ∷ until_half_hour 4 ∷ until_half_hour 8 ∷ Endless ∷ []
by_priority-until = ended _ _ by_priority-prices (0 ∷ 3 ∷ 5 ∷ 8 ∷ [])

-- ---- the greatest number still goes before an absent one

abbrev last_number : Event
last_number = one_price (codes "e1") (Some 4294967295) (half_hours 0) (Some (hours 2)) 10 []

abbrev no_number : Event
no_number = one_price (codes "e2") None (half_hours 0) (Some (hours 2)) 20 []

abbrev last_and_none : List Edit
last_and_none = setting ++ Create (event last_number) ∷ Create (event no_number) ∷ []

last_number-layout : layout last_number ≡ Ok (span_between 0 4 ∷ [])
last_number-layout = one_price-layout _ _ _ _ _ _ _ midnight_and_2

no_number-layout : layout no_number ≡ Ok (span_between 0 4 ∷ [])
no_number-layout = one_price-layout _ _ _ _ _ _ _ midnight_and_2

last_and_none-after : after last_and_none ≡ fold made empty last_and_none
last_and_none-after = after_all last_and_none (refl, (refl, (refl, (rw last_number-layout refl, (rw no_number-layout refl, tt)))))

last_and_none-prices : prices last_and_none ≡ entry 4294967295 4 0 (span_between 0 4) ∷ entry absent 5 0 (span_between 0 4) ∷ []
last_and_none-prices = rw last_and_none-after (rw (last_number-layout, no_number-layout) refl)

last_and_none-governor : map (governor last_and_none) (1 ∷ []) ≡ won_by 4 ∷ []
last_and_none-governor = governed _ _ last_and_none-prices (1 ∷ [])

-- ---- of two events of one priority the later write governs

abbrev pub three_first : Event
three_first = one_price (codes "e1") (Some 3) (half_hours 0) (Some (hours 2)) 10 []

abbrev pub three_second : Event
three_second = one_price (codes "e2") (Some 3) (half_hours 0) (Some (hours 2)) 20 []

abbrev pub by_write : List Edit
by_write = setting ++ Create (event three_first) ∷ Create (event three_second) ∷ []

abbrev pub first_again : Edit
first_again = Change (event three_first)

pub three_first-layout : layout three_first ≡ Ok (span_between 0 4 ∷ [])
three_first-layout = one_price-layout _ _ _ _ _ _ _ midnight_and_2

pub three_second-layout : layout three_second ≡ Ok (span_between 0 4 ∷ [])
three_second-layout = one_price-layout _ _ _ _ _ _ _ midnight_and_2

pub by_write-after : after by_write ≡ fold made empty by_write
by_write-after = after_all by_write (refl, (refl, (refl, (rw three_first-layout refl, (rw three_second-layout refl, tt)))))

pub written_again-after : after (by_write ++ first_again ∷ []) ≡ fold made empty (by_write ++ first_again ∷ [])
written_again-after =
    after_all (by_write ++ first_again ∷ [])
    (refl, (refl, (refl, (rw three_first-layout refl, (rw three_second-layout refl, (rw three_first-layout refl, tt))))))

by_write-prices : prices by_write ≡ entry 3 4 0 (span_between 0 4) ∷ entry 3 5 0 (span_between 0 4) ∷ []
by_write-prices = rw by_write-after (rw (three_first-layout, three_second-layout) refl)

by_write-governor : map (governor by_write) (1 ∷ []) ≡ won_by 5 ∷ []
by_write-governor = governed _ _ by_write-prices (1 ∷ [])

written_again-prices : prices (by_write ++ first_again ∷ []) ≡ entry 3 6 0 (span_between 0 4) ∷ entry 3 5 0 (span_between 0 4) ∷ []
written_again-prices = rw written_again-after (rw (three_first-layout, three_second-layout) refl)

written_again-governor : map (governor (by_write ++ first_again ∷ [])) (1 ∷ []) ≡ won_by 6 ∷ []
written_again-governor = governed _ _ written_again-prices (1 ∷ [])

written_again-until : map (ends (by_write ++ first_again ∷ [])) (1 ∷ []) ≡ until_half_hour 4 ∷ []
written_again-until = ended _ _ written_again-prices (1 ∷ [])

-- ---- three intervals of an hour each in a row, and one with a period of its own that loses to those before it

abbrev four_parts : Event
four_parts =
    record (one_price (codes "e1") None (half_hours 0) None 0 []) {
      interval_period = period (half_hours 0) (Some (hours 1));
      intervals =
          priced (pos 0) None 1
          ∷ priced (pos 1) None 2
          ∷ priced (pos 2) None 3
          ∷ priced (pos 3) (period (half_hours 3) (Some (hours 1))) 4
          ∷ [];
    }

abbrev in_parts : List Edit
in_parts = setting ++ Create (event four_parts) ∷ []

four_parts-layout : layout four_parts ≡ Ok (span_between 0 2 ∷ span_between 2 4 ∷ span_between 4 6 ∷ span_between 3 5 ∷ [])
unfolding layout
four_parts-layout = rw (midnight_and_1, one_and_1, two_and_1, half_past_one_and_1) refl

in_parts-after : after in_parts ≡ fold made empty in_parts
in_parts-after = after_all in_parts (refl, (refl, (refl, (rw four_parts-layout refl, tt))))

in_parts-prices :
    prices in_parts
    ≡ entry absent 4 0 (span_between 0 2) ∷ entry absent 4 1 (span_between 2 4) ∷ entry absent 4 2 (span_between 4 6) ∷ entry absent 4 3 (span_between 3 5) ∷ []
in_parts-prices = rw in_parts-after (rw four_parts-layout refl)

in_parts-governor :
    map (λ n. option_map (λ w. w.place) (governor in_parts n)) (0 ∷ 2 ∷ 3 ∷ 4 ∷ 5 ∷ 6 ∷ [])
    ≡ Some 0 ∷ Some 1 ∷ Some 1 ∷ Some 2 ∷ Some 2 ∷ None ∷ []
in_parts-governor = ap (map (λ o. option_map (λ w. w.place) o)) (governed _ _ in_parts-prices (0 ∷ 2 ∷ 3 ∷ 4 ∷ 5 ∷ 6 ∷ []))

in_parts-until :
    map (ends in_parts) (1 ∷ 3 ∷ 4 ∷ 6 ∷ []) ≡ until_half_hour 2 ∷ until_half_hour 4 ∷ until_half_hour 6 ∷ Endless ∷ []
in_parts-until = ended _ _ in_parts-prices (1 ∷ 3 ∷ 4 ∷ 6 ∷ [])

-- an interval with its own period and then one without: the second starts where the first ends, and has no time
own_then_none : Event
own_then_none = record (one_price (codes "e1") None (half_hours 0) (Some (hours 1)) 1 []) {
  intervals = priced (pos 0) (period (half_hours 0) (Some (hours 1))) 1 ∷ priced (pos 1) None 2 ∷ [];
}

own_then_none-layout : layout own_then_none ≡ Ok (span_between 0 2 ∷ span_between 2 2 ∷ [])
unfolding layout own_then_none
own_then_none-layout = rw midnight_and_1 refl

-- ---- an endless event governs to the end, and no interval without a period of its own can follow it

abbrev always : Event
always =
    record (one_price (codes "e1") None (half_hours 0) None 9 []) {
      interval_period = period (half_hours 0) (Some endless);
      intervals = priced (pos 0) None 9 ∷ [];
    }

abbrev one_always : List Edit
one_always = setting ++ Create (event always) ∷ []

one_always-after : after one_always ≡ fold made empty one_always
unfolding layout
one_always-after = after_all one_always (refl, (refl, (refl, (refl, tt))))

one_always-prices : prices one_always ≡ entry absent 4 0 (record { start = half_hours 0; end = Endless }) ∷ []
unfolding layout
one_always-prices = rw one_always-after refl

one_always-governor : map (governor one_always) (1 ∷ 1000000 ∷ []) ≡ won_by 4 ∷ won_by 4 ∷ []
one_always-governor = governed _ _ one_always-prices (1 ∷ 1000000 ∷ [])

one_always-until : map (ends one_always) (1 ∷ []) ≡ Endless ∷ []
one_always-until = ended _ _ one_always-prices (1 ∷ [])

after_always : step (after one_always) (Create (event (record always { id = codes "e2"; intervals = priced (pos 0) None 9 ∷ priced (pos 1) None 9 ∷ [] }))) ≡ Err AfterEndless
unfolding step_by least_fault layout
after_always = rw one_always-after refl

-- an event whose first interval has no start anywhere
startless : step (after one_always) (Create (event (record always { id = codes "e2"; interval_period = None }))) ≡ Err NoStart
unfolding step_by least_fault layout
startless = rw one_always-after refl

-- ---- a delete lets the event below govern again

abbrev pub endless_ten : Event
endless_ten = one_price (codes "e1") None (half_hours 0) (Some endless) 10 []

abbrev pub one_above : Event
one_above = one_price (codes "e2") (Some 1) (half_hours 2) (Some (hours 1)) 20 []

abbrev pub above_endless : List Edit
above_endless = setting ++ Create (event endless_ten) ∷ Create (event one_above) ∷ []

abbrev pub without_above : Edit
without_above = Remove event_kind (codes "e2")

pub endless_ten-layout : layout endless_ten ≡ Ok (record { start = half_hours 0; end = Endless } ∷ [])
unfolding layout
endless_ten-layout = refl

pub one_above-layout : layout one_above ≡ Ok (span_between 2 4 ∷ [])
one_above-layout = one_price-layout _ _ _ _ _ _ _ one_and_1

pub above_endless-after : after above_endless ≡ fold made empty above_endless
above_endless-after = after_all above_endless (refl, (refl, (refl, (rw endless_ten-layout refl, (rw one_above-layout refl, tt)))))

pub below_again-after : after (above_endless ++ without_above ∷ []) ≡ fold made empty (above_endless ++ without_above ∷ [])
below_again-after =
    after_all (above_endless ++ without_above ∷ [])
    (refl, (refl, (refl, (rw endless_ten-layout refl, (rw one_above-layout refl, (refl, tt))))))

above_endless-prices :
    prices above_endless ≡ entry absent 4 0 (record { start = half_hours 0; end = Endless }) ∷ entry 1 5 0 (span_between 2 4) ∷ []
above_endless-prices = rw above_endless-after (rw (endless_ten-layout, one_above-layout) refl)

above_endless-governor : map (governor above_endless) (0 ∷ 2 ∷ 4 ∷ 100000 ∷ []) ≡ won_by 4 ∷ won_by 5 ∷ won_by 4 ∷ won_by 4 ∷ []
above_endless-governor = governed _ _ above_endless-prices (0 ∷ 2 ∷ 4 ∷ 100000 ∷ [])

above_endless-until : map (ends above_endless) (0 ∷ 2 ∷ 4 ∷ []) ≡ until_half_hour 2 ∷ until_half_hour 4 ∷ Endless ∷ []
above_endless-until = ended _ _ above_endless-prices (0 ∷ 2 ∷ 4 ∷ [])

below_again-prices : prices (above_endless ++ without_above ∷ []) ≡ entry absent 4 0 (record { start = half_hours 0; end = Endless }) ∷ []
below_again-prices = rw below_again-after (rw endless_ten-layout refl)

below_again-governor : map (governor (above_endless ++ without_above ∷ [])) (0 ∷ 2 ∷ 4 ∷ []) ≡ won_by 4 ∷ won_by 4 ∷ won_by 4 ∷ []
below_again-governor = governed _ _ below_again-prices (0 ∷ 2 ∷ 4 ∷ [])

below_again-until : map (ends (above_endless ++ without_above ∷ [])) (0 ∷ []) ≡ Endless ∷ []
below_again-until = ended _ _ below_again-prices (0 ∷ [])

-- ---- a start that stood for the moment of its edit stays when the program is changed later

abbrev pub from_six : Event
from_six = one_price (codes "e1") None (half_hours 12) (Some (hours 1)) 10 []

abbrev pub at_six : List Edit
at_six = setting ++ Create (event from_six) ∷ []

abbrev pub renamed : Edit
renamed = Change (program (record { id = codes "p1"; program_name = codes "P2"; targets = [] }))

pub from_six-layout : layout from_six ≡ Ok (span_between 12 14 ∷ [])
from_six-layout = one_price-layout _ _ _ _ _ _ _ six_and_1

pub at_six-after : after at_six ≡ fold made empty at_six
at_six-after = after_all at_six (refl, (refl, (refl, (rw from_six-layout refl, tt))))

pub renamed-after : after (at_six ++ renamed ∷ []) ≡ fold made empty (at_six ++ renamed ∷ [])
renamed-after = after_all (at_six ++ renamed ∷ []) (refl, (refl, (refl, (rw from_six-layout refl, (refl, tt)))))

renamed-prices : prices (at_six ++ renamed ∷ []) ≡ entry absent 4 0 (span_between 12 14) ∷ []
renamed-prices = rw renamed-after (rw from_six-layout refl)

renamed-governor : map (governor (at_six ++ renamed ∷ [])) (11 ∷ 12 ∷ 13 ∷ 14 ∷ []) ≡ None ∷ won_by 4 ∷ won_by 4 ∷ None ∷ []
renamed-governor = governed _ _ renamed-prices (11 ∷ 12 ∷ 13 ∷ 14 ∷ [])

-- ---- a month that has no such day ends on its last day, and an end past the calendar is refused

abbrev month_from_31 : Event
month_from_31 = one_price (codes "e1") None (half_hours 1440) (Some one_month) 10 []

abbrev a_month : List Edit
a_month = setting ++ Create (event month_from_31) ∷ []

month_from_31-layout : layout month_from_31 ≡ Ok (span_between 1440 2832 ∷ [])
month_from_31-layout = one_price-layout _ _ _ _ _ _ _ january_31_and_a_month

a_month-after : after a_month ≡ fold made empty a_month
a_month-after = after_all a_month (refl, (refl, (refl, (rw month_from_31-layout refl, tt))))

a_month-prices : prices a_month ≡ entry absent 4 0 (span_between 1440 2832) ∷ []
a_month-prices = rw a_month-after (rw month_from_31-layout refl)

-- asked on the first of February
a_month-governor : map (governor a_month) (1488 ∷ []) ≡ won_by 4 ∷ []
a_month-governor = governed _ _ a_month-prices (1488 ∷ [])

a_month-until : map (ends a_month) (1488 ∷ []) ≡ until_half_hour 2832 ∷ []
a_month-until = ended _ _ a_month-prices (1488 ∷ [])

past_the_calendar :
    step (after a_month) (Create (event (one_price (codes "e2") None (pos 253383811200000000000) (Some one_year) 10 []))) ≡ Err TimeRange
unfolding step_by least_fault layout
past_the_calendar = rw (a_month-after, june_9999_and_a_year) refl

-- ---- an interval of no length governs nothing, whatever its priority

abbrev ten_two_hours : Event
ten_two_hours = one_price (codes "e1") None (half_hours 0) (Some (hours 2)) 10 []

abbrev no_time : Event
no_time = one_price (codes "e2") (Some 0) (half_hours 2) (Some (hours 0)) 20 []

abbrev no_length : Event
no_length = one_price (codes "e3") (Some 0) (half_hours 2) None 30 []

abbrev without_time : List Edit
without_time = setting ++ Create (event ten_two_hours) ∷ Create (event no_time) ∷ Create (event no_length) ∷ []

ten_two_hours-layout : layout ten_two_hours ≡ Ok (span_between 0 4 ∷ [])
ten_two_hours-layout = one_price-layout _ _ _ _ _ _ _ midnight_and_2

no_time-layout : layout no_time ≡ Ok (span_between 2 2 ∷ [])
no_time-layout = one_price-layout _ _ _ _ _ _ _ one_and_0

no_length-layout : layout no_length ≡ Ok (span_between 2 2 ∷ [])
unfolding layout
no_length-layout = refl

without_time-after : after without_time ≡ fold made empty without_time
without_time-after =
    after_all without_time (refl, (refl, (refl, (rw ten_two_hours-layout refl, (rw no_time-layout refl, (rw no_length-layout refl, tt))))))

without_time-prices :
    prices without_time ≡ entry absent 4 0 (span_between 0 4) ∷ entry 0 5 0 (span_between 2 2) ∷ entry 0 6 0 (span_between 2 2) ∷ []
without_time-prices = rw without_time-after (rw (ten_two_hours-layout, no_time-layout, no_length-layout) refl)

without_time-governor : map (governor without_time) (0 ∷ 2 ∷ 3 ∷ 4 ∷ []) ≡ won_by 4 ∷ won_by 4 ∷ won_by 4 ∷ None ∷ []
without_time-governor = governed _ _ without_time-prices (0 ∷ 2 ∷ 3 ∷ 4 ∷ [])

without_time-until : map (ends without_time) (0 ∷ 2 ∷ []) ≡ until_half_hour 4 ∷ until_half_hour 4 ∷ []
without_time-until = ended _ _ without_time-prices (0 ∷ 2 ∷ [])

-- ---- a change of the ven's group changes which event applies

abbrev pub for_group_a : Event
for_group_a = one_price (codes "e1") None (half_hours 0) (Some (hours 2)) 10 (aimed_at (codes "GROUP") (codes "A"))

abbrev pub for_group_b : Event
for_group_b = one_price (codes "e2") None (half_hours 0) (Some (hours 2)) 20 (aimed_at (codes "GROUP") (codes "B"))

abbrev pub by_group : List Edit
by_group = setting_with (aimed_at (codes "GROUP") (codes "A")) ++ Create (event for_group_a) ∷ Create (event for_group_b) ∷ []

abbrev pub into_group_b : Edit
into_group_b = Change (ven (record { id = codes "v1"; ven_name = codes "V"; targets = aimed_at (codes "GROUP") (codes "B") }))

pub for_group_a-layout : layout for_group_a ≡ Ok (span_between 0 4 ∷ [])
for_group_a-layout = one_price-layout _ _ _ _ _ _ _ midnight_and_2

pub for_group_b-layout : layout for_group_b ≡ Ok (span_between 0 4 ∷ [])
for_group_b-layout = one_price-layout _ _ _ _ _ _ _ midnight_and_2

pub by_group-after : after by_group ≡ fold made empty by_group
by_group-after = after_all by_group (refl, (refl, (refl, (rw for_group_a-layout refl, (rw for_group_b-layout refl, tt)))))

pub regrouped-after : after (by_group ++ into_group_b ∷ []) ≡ fold made empty (by_group ++ into_group_b ∷ [])
regrouped-after =
    after_all (by_group ++ into_group_b ∷ []) (refl, (refl, (refl, (rw for_group_a-layout refl, (rw for_group_b-layout refl, (refl, tt))))))

by_group-prices : prices by_group ≡ entry absent 4 0 (span_between 0 4) ∷ []
by_group-prices = rw by_group-after (rw for_group_a-layout refl)

by_group-governor : map (governor by_group) (1 ∷ []) ≡ won_by 4 ∷ []
by_group-governor = governed _ _ by_group-prices (1 ∷ [])

regrouped-prices : prices (by_group ++ into_group_b ∷ []) ≡ entry absent 5 0 (span_between 0 4) ∷ []
regrouped-prices = rw regrouped-after (rw for_group_b-layout refl)

regrouped-governor : map (governor (by_group ++ into_group_b ∷ [])) (1 ∷ []) ≡ won_by 5 ∷ []
regrouped-governor = governed _ _ regrouped-prices (1 ∷ [])

-- ---- a resource that moves to the ven that the event is aimed at; a ven that a resource names stays

abbrev pub second_ven : Edit
second_ven = Create (ven (record { id = codes "v2"; ven_name = codes "W"; targets = [] }))

abbrev pub for_ven_w : Event
for_ven_w = one_price (codes "e1") None (half_hours 0) (Some (hours 2)) 10 (aimed_at (codes "VEN_NAME") (codes "W"))

abbrev pub two_vens : List Edit
two_vens = setting ++ second_ven ∷ Create (event for_ven_w) ∷ []

abbrev pub moved_to_w : Edit
moved_to_w = Change (resource (record { id = codes "r1"; resource_name = codes "R"; ven_id = codes "v2"; targets = [] }))

abbrev pub without_first_ven : Edit
without_first_ven = Remove ven_kind (codes "v1")

pub for_ven_w-layout : layout for_ven_w ≡ Ok (span_between 0 4 ∷ [])
for_ven_w-layout = one_price-layout _ _ _ _ _ _ _ midnight_and_2

pub two_vens-after : after two_vens ≡ fold made empty two_vens
two_vens-after = after_all two_vens (refl, (refl, (refl, (refl, (rw for_ven_w-layout refl, tt)))))

pub moved-after : after (two_vens ++ moved_to_w ∷ []) ≡ fold made empty (two_vens ++ moved_to_w ∷ [])
moved-after = after_all (two_vens ++ moved_to_w ∷ []) (refl, (refl, (refl, (refl, (rw for_ven_w-layout refl, (refl, tt))))))

pub one_ven_less-after : after (two_vens ++ moved_to_w ∷ without_first_ven ∷ []) ≡ fold made empty (two_vens ++ moved_to_w ∷ without_first_ven ∷ [])
one_ven_less-after =
    after_all (two_vens ++ moved_to_w ∷ without_first_ven ∷ []) (refl, (refl, (refl, (refl, (rw for_ven_w-layout refl, (refl, (refl, tt)))))))

two_vens-prices : prices two_vens ≡ []
two_vens-prices = rw two_vens-after refl

used_ven : step (after two_vens) without_first_ven ≡ Err InUse
unfolding step_by least_fault
used_ven = rw two_vens-after refl

one_ven_less-version : (after (two_vens ++ moved_to_w ∷ without_first_ven ∷ [])).version ≡ 7
one_ven_less-version = rw one_ven_less-after refl

one_ven_less-prices : prices (two_vens ++ moved_to_w ∷ without_first_ven ∷ []) ≡ entry absent 5 0 (span_between 0 4) ∷ []
one_ven_less-prices = rw one_ven_less-after (rw for_ven_w-layout refl)

one_ven_less-governor : map (governor (two_vens ++ moved_to_w ∷ without_first_ven ∷ [])) (1 ∷ []) ≡ won_by 5 ∷ []
one_ven_less-governor = governed _ _ one_ven_less-prices (1 ∷ [])

-- ---- an event for one of two resources, with a price and a private type

abbrev pub second_resource : Edit
second_resource = Create (resource (record { id = codes "r2"; resource_name = codes "Q"; ven_id = codes "v1"; targets = [] }))

abbrev pub load : PayloadType
load = Private (codes "X_LOAD")

abbrev pub load_values : List Datum
load_values = Text (codes "a b") ∷ Truth true ∷ Point (record { coefficient = pos 1; scale = 0 }) (record { coefficient = pos 25; scale = 1 }) ∷ []

abbrev pub price_and_load : Event
price_and_load =
    record (one_price (codes "e1") None (half_hours 0) (Some (hours 2)) 10 (aimed_at (codes "RESOURCE_NAME") (codes "R"))) {
      intervals =
          record {
            id = pos 0;
            period = period (half_hours 0) (Some (hours 2));
            payloads = record { kind = Price; values = whole 10 ∷ [] } ∷ record { kind = load; values = load_values } ∷ [];
          }
          ∷ [];
    }

abbrev pub two_resources : List Edit
two_resources = setting ++ second_resource ∷ Create (event price_and_load) ∷ []

abbrev pub without_r1 : Edit
without_r1 = Remove resource_kind (codes "r1")

abbrev pub r1_again : Edit
r1_again = Create (resource (record { id = codes "r1"; resource_name = codes "R"; ven_id = codes "v1"; targets = [] }))

pub price_and_load-layout : layout price_and_load ≡ Ok (span_between 0 4 ∷ [])
unfolding layout
price_and_load-layout = rw midnight_and_2 refl

pub two_resources-after : after two_resources ≡ fold made empty two_resources
two_resources-after = after_all two_resources (refl, (refl, (refl, (refl, (rw price_and_load-layout refl, tt)))))

pub r1_less-after : after (two_resources ++ without_r1 ∷ []) ≡ fold made empty (two_resources ++ without_r1 ∷ [])
r1_less-after = after_all (two_resources ++ without_r1 ∷ []) (refl, (refl, (refl, (refl, (rw price_and_load-layout refl, (refl, tt))))))

pub r1_last-after : after (two_resources ++ without_r1 ∷ r1_again ∷ []) ≡ fold made empty (two_resources ++ without_r1 ∷ r1_again ∷ [])
r1_last-after =
    after_all (two_resources ++ without_r1 ∷ r1_again ∷ []) (refl, (refl, (refl, (refl, (rw price_and_load-layout refl, (refl, (refl, tt)))))))

pub entries_of_both :
    map (λ id. map (entries_for (after two_resources) id) (Price ∷ load ∷ [])) (codes "r1" ∷ codes "r2" ∷ [])
    ≡ ((entry absent 5 0 (span_between 0 4) ∷ []) ∷ (entry absent 5 0 (span_between 0 4) ∷ []) ∷ []) ∷ ([] ∷ [] ∷ []) ∷ []
entries_of_both = rw two_resources-after (rw price_and_load-layout refl)

-- a created resource goes last
r1_last-order : map (λ r. r.id) (after (two_resources ++ without_r1 ∷ r1_again ∷ [])).resources ≡ codes "r2" ∷ codes "r1" ∷ []
r1_last-order = rw r1_last-after refl
