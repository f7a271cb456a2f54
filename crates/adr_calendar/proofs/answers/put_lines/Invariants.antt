use Rattle.std.proofs.Common.{◌≡◌, ◌++◌, take}
use Rattle.std.specs.List.{flat_map}
use Rattle.adr_calendar.specs.Segments.{line_of_segment}
use Rattle.adr_calendar.proofs.answers.put_lines.Given as goal

-- the lines of the segments so far stand there, and the events are looked up in the same objects
abbrev pub invariant-loop-segment : goal.invariant-loop-segment
invariant-loop-segment l =
    (l.out.items ≡ l.initial.out.items ++ flat_map (line_of_segment l.book.objects l.payload_type l.to) (take l.segment-index l.segments))
    × (l.last_event.objects.now ≡ l.book.objects)
