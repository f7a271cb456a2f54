-- Worked examples: what a query answers, down to the bytes.
use Rattle.std.specs.Prelude.{◌≡◌, ℕ, ℤ, pos, ◌-ℤ◌, int_le, int_lt, ◌&&◌, ◌||◌, not, List, codes, ◌∷◌, [], ◌++◌, Result, Ok, Err, true, is_some, filter, flat_map, fold, map, Option, refl}
use Rattle.std.proofs.Common.{ap, ◌∙◌}
use Rattle.std.specs.Option.{option_and_then, option_map_or}
use Rattle.std.specs.Ordering.{int_cmp, int_eq}
use Rattle.adr_refusal.specs.declared.refusal.Refusal.{Refusal}
use Rattle.adr_model.specs.declared.entry.Entry.{Entry}
use Rattle.std.specs.Fmt.{digits}
use Rattle.adr_value.specs.Payload.{name_of}
use Rattle.adr_value.specs.declared.payload.PayloadType.{PayloadType}
use Rattle.adr_value.specs.declared.payload.PayloadType.TheVariants.{Price}
use Rattle.adr_refusal.specs.declared.refusal.Refusal.TheVariants.{BadWindow, UnknownResource}
use Rattle.adr_model.specs.declared.entry.Tie.TheVariants.{Newest}
use Rattle.adr_model.specs.declared.timeline.Winner.{Winner}
use Rattle.adr_model.specs.Rank.{ranked}
use Rattle.adr_model.proofs.Ranked.{governs_winners}
use Rattle.adr_model.specs.Answer.{at, bounds, changes, earliest, same_winner, shown_of, until}
use Rattle.adr_model.specs.Book.{Book, empty, resource_by}
use Rattle.adr_model.specs.Edits.{after, after_from, made}
use Rattle.adr_model.specs.Governor.{candidates, entries_for, governs, winner_at}
use Rattle.adr_model.specs.Queries.{beginnings, end_within, governing_types, in_lines, in_order, list, roll, segment_text, type_text, types}
use Rattle.adr_model.proofs.Times.{half_hours, new_year}
use Rattle.adr_model.proofs.Scripts.{absent, entry, span_between}
use Rattle.adr_model.proofs.Rows.{one_event, one_event-after, one_hour-layout, by_priority, by_priority-after, none_two_hours-layout, five_later-layout, zero_last-layout, two_resources, two_resources-after, price_and_load-layout, load, without_r1, r1_again, r1_last-after}

-- ---- `at`

-- what governs, within its hour
governed_answer : at Newest (after one_event) (codes "r1") Price (half_hours 1)
    ≡ Ok (codes "version 4 event e1 interval 0 until 2024-01-01T01:00:00Z values 17\n")
unfolding at until governs candidates digits
governed_answer = rw one_event-after (rw (one_hour-layout, new_year) refl)

-- after its end nothing does, for ever
empty_answer : at Newest (after one_event) (codes "r1") Price (half_hours 2) ≡ Ok (codes "version 4 none until end\n")
unfolding at until governs candidates digits
empty_answer = rw one_event-after (rw one_hour-layout refl)

-- a resource that is not there
unknown_answer : at Newest (after one_event) (codes "r9") Price (half_hours 1) ≡ Err UnknownResource
unfolding at
unknown_answer = rw one_event-after refl

-- a text, a truth value and a point
load_answer : at Newest (after two_resources) (codes "r1") load (half_hours 1)
    ≡ Ok (codes "version 5 event e1 interval 0 until 2024-01-01T02:00:00Z values \"a b\" true (1,2.5)\n")
unfolding at until governs candidates digits
load_answer = rw two_resources-after (rw (price_and_load-layout, new_year) refl)

-- ---- `list`

-- from the entries of the resource and type, and the winners among them
abbrev listed : Book → PayloadType → ℤ → ℤ → (ℤ → Option Winner) → List Entry → Result (List ℕ) Refusal
listed book kind from to g es =
    Ok (in_lines book
    (flat_map
    (λ u. option_map_or (segment_text u (end_within to (earliest (changes (map (ranked Newest) es) u)))) (option_and_then (shown_of book kind) (g u)) [])
    (filter
    (λ u. int_le from u && (int_lt u to && (is_some (g u) && (int_eq u from || not (same_winner (g (u -ℤ pos 1)) (g u))))))
    (in_order int_cmp (from ∷ bounds es)))))

abbrev listed_of : Book → PayloadType → ℤ → ℤ → List Entry → Result (List ℕ) Refusal
listed_of book kind from to es = listed book kind from to (winner_at (map (ranked Newest) es)) es

list_from : (book : Book) (id : List ℕ) (kind : PayloadType) (from to : ℤ) (es : List Entry) → int_lt from to ≡ true → is_some (resource_by book id) ≡ true
    → entries_for book id kind ≡ es → list Newest book id kind from to ≡ listed_of book kind from to es
unfolding list beginnings until
list_from book id kind from to es window there h =
    rw (window, there)
    (ap (λ g. listed book kind from to g (entries_for book id kind)) (governs_winners Newest book id kind) ∙ ap (listed_of book kind from to) h)

three_entries : List Entry
three_entries = entry absent 4 0 (span_between 0 4) ∷ entry 5 5 0 (span_between 2 6) ∷ entry 0 6 0 (span_between 4 8) ∷ []

made_entries : entries_for (fold made empty by_priority) (codes "r1") Price ≡ three_entries
unfolding three_entries
made_entries = rw (none_two_hours-layout, five_later-layout, zero_last-layout) refl

made_segments : listed_of (fold made empty by_priority) Price (half_hours 0) (half_hours 8) three_entries
    ≡ Ok (codes "version 6\n2024-01-01T00:00:00Z 2024-01-01T01:00:00Z event e1 interval 0 values 10\n2024-01-01T01:00:00Z 2024-01-01T02:00:00Z event e2 interval 0 values 20\n2024-01-01T02:00:00Z 2024-01-01T04:00:00Z event e3 interval 0 values 30\n.\n")
unfolding three_entries digits
made_segments = rw new_year refl

three_segments : list Newest (after by_priority) (codes "r1") Price (half_hours 0) (half_hours 8)
    ≡ Ok (codes "version 6\n2024-01-01T00:00:00Z 2024-01-01T01:00:00Z event e1 interval 0 values 10\n2024-01-01T01:00:00Z 2024-01-01T02:00:00Z event e2 interval 0 values 20\n2024-01-01T02:00:00Z 2024-01-01T04:00:00Z event e3 interval 0 values 30\n.\n")
three_segments =
    ap (λ book. list Newest book (codes "r1") Price (half_hours 0) (half_hours 8)) by_priority-after
    ∙ list_from (fold made empty by_priority) (codes "r1") Price (half_hours 0) (half_hours 8) three_entries refl refl made_entries
    ∙ made_segments

-- a window that is empty, also of a resource that is not there
empty_window : list Newest (after one_event) (codes "r9") Price (half_hours 0) (half_hours 0) ≡ Err BadWindow
unfolding list
empty_window = refl

-- ---- `roll`

nothing_to_roll : roll Newest (after []) Price (half_hours 1) ≡ Ok (codes "version 0\n.\n")
unfolding roll after_from digits
nothing_to_roll = refl

both_rolled : roll Newest (after two_resources) Price (half_hours 1)
    ≡ Ok (codes "version 5\nr1 event e1 interval 0 until 2024-01-01T02:00:00Z values 10\nr2 none until end\n.\n")
unfolding roll until governs candidates digits
both_rolled = rw two_resources-after (rw (price_and_load-layout, new_year) refl)

-- a resource that was created again goes last
rolled_again : roll Newest (after (two_resources ++ without_r1 ∷ r1_again ∷ [])) Price (half_hours 1)
    ≡ Ok (codes "version 7\nr2 none until end\nr1 event e1 interval 0 until 2024-01-01T02:00:00Z values 10\n.\n")
unfolding roll until governs candidates digits
rolled_again = rw r1_last-after (rw (price_and_load-layout, new_year) refl)

-- ---- `types`

-- from the types that govern
types_from : (book : Book) (id : List ℕ) (kinds : List PayloadType) → is_some (resource_by book id) ≡ true → governing_types Newest book id ≡ kinds
    → types Newest book id ≡ Ok (in_lines book (flat_map (λ kind. type_text (name_of kind) ++ codes "\n") kinds))
unfolding types
types_from book id kinds there h = rw (there, h) refl

price_and_load_govern : governing_types Newest (fold made empty two_resources) (codes "r1") ≡ Price ∷ load ∷ []
unfolding governing_types governs candidates
price_and_load_govern = rw price_and_load-layout refl

nothing_governs : governing_types Newest (fold made empty two_resources) (codes "r2") ≡ []
unfolding governing_types governs candidates
nothing_governs = refl

types_of_r1 : types Newest (after two_resources) (codes "r1") ≡ Ok (codes "version 5\nPRICE\nX_LOAD\n.\n")
unfolding digits
types_of_r1 = rw two_resources-after (types_from (fold made empty two_resources) (codes "r1") (Price ∷ load ∷ []) refl price_and_load_govern)

types_of_r2 : types Newest (after two_resources) (codes "r2") ≡ Ok (codes "version 5\n.\n")
unfolding digits
types_of_r2 = rw two_resources-after (types_from (fold made empty two_resources) (codes "r2") [] refl nothing_governs)
