-- How much the repair of timelines compares.
use Rattle.std.specs.Prelude.{◌≡◌, ℕ, ℤ, ◌+◌, List, [], ◌∷◌, Option, if◌then◌else◌}
use Rattle.std.specs.Option.{option_copied, option_map_or}
use Rattle.adr_model.specs.declared.entry.Entry.{Entry}
use Rattle.adr_model.specs.declared.timeline.Segment.{Segment}
use Rattle.adr_model.specs.declared.timeline.Winner.{Winner}
use Rattle.adr_model.specs.Governor.{winner_at}
use Rattle.adr_model.specs.Timeline.{shows}
use Rattle.adr_index.specs.Index.{Indexed}
use Rattle.adr_timeline.specs.Build.{most_compared}
use Rattle.adr_lines.specs.declared.grouped.TypeEntries.{TypeEntries}
use Rattle.adr_lines.specs.Grouped.{any_covers_at}
use Rattle.adr_lines.specs.Right.{written_in}
use Rattle.adr_lines.specs.declared.indexes.Indexes.{Indexes}
use Rattle.adr_lines.specs.Indexes.{under}
use Rattle.adr_group.specs.declared.line.Given.{Given}

-- the entries of the index, where there is one
abbrev pub indexed : Option Indexed → List Entry
indexed index = option_map_or (λ i. i.entries) index []

-- those of them that are of the writes
abbrev pub given_entries : Given → List Entry
given_entries given = written_in given.writes.now (indexed (option_copied given.index))

-- to build what the writes show inside each of the windows, of these entries
abbrev pub most_inside : List ℕ → List Entry → List Entry → ℕ
most_inside writes entries [] = 0
most_inside writes entries (w ∷ windows) = most_compared (written_in writes entries) w.span + most_inside writes entries windows

-- the same of each of the types
abbrev pub most_repaired : List TypeEntries → List ℕ → Indexes → ℕ
most_repaired [] writes indexes = 0
most_repaired (g ∷ windows) writes indexes = most_inside writes (under indexes g.payload_type) g.entries.items + most_repaired windows writes indexes

-- inside the windows the line shows what wins among the entries of the writes, and elsewhere what was shown
abbrev pub IsRepaired : List ℕ → List Entry → List Entry → (ℤ → Option Winner) → List Segment → Type 0
IsRepaired writes entries windows before after = (t : ℤ) → shows after t ≡ (if any_covers_at windows t then winner_at (written_in writes entries) t else before t)
