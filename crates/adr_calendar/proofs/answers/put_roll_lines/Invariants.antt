use Rattle.std.proofs.Common.{◌≡◌, ◌++◌, take}
use Rattle.std.specs.List.{flat_map}
use Rattle.adr_model.specs.Queries.{roll_line}
use Rattle.adr_calendar.proofs.answers.put_roll_lines.Given as goal

-- the lines of the resources so far stand there, and the last state was told of the same book and type
abbrev pub invariant-loop-place : goal.invariant-loop-place
invariant-loop-place g l = record {
  lines :
      l.out.items
      ≡ l.initial.out.items
      ++ flat_map (λ r. roll_line (g.C.Calendar.tie l.calendar) (g.C.Calendar.objects l.calendar) l.payload_type l.moment r.id) (take l.place (g.C.Calendar.objects l.calendar).resources);
  book : l.last.book.now.objects ≡ g.C.Calendar.objects l.calendar;
  kind : l.last.payload_type.now ≡ l.payload_type;
}
