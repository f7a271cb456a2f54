-- Which look-ups serve which windows.
use Rattle.std.specs.Prelude.{◌≡◌, ℤ, true, List}
use Rattle.adr_time.specs.Spans.{is_before}
use Rattle.adr_time.specs.declared.span.End.{End}
use Rattle.adr_time.specs.declared.span.Span.{Span}
use Rattle.adr_model.specs.declared.entry.Entry.{Entry}
use Rattle.adr_model.specs.Entries.{meeting}

-- whatever comes before the end comes before the other
abbrev pub IsNoLater : End → End → Type 0
IsNoLater end other = (t : ℤ) → is_before t end ≡ true → is_before t other ≡ true

-- among the entries that meet the span are all that meet the window
abbrev pub Serves : Span → Span → Type 0
Serves span window = (entries : List Entry) → meeting (meeting entries span) window ≡ meeting entries window
