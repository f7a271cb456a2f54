-- What is asked for by an instant or a window.
use Rattle.std.proofs.Common.{◌≡◌, Bool, true, false, ◌&&◌, List, [], ◌∷◌, refl}
use Rattle.adr_time.specs.Spans.{is_before}
use Rattle.adr_time.specs.declared.span.Span.{Span}
use Rattle.adr_model.specs.declared.entry.Entry.{Entry}
use Rattle.adr_model.specs.Entries.{meeting}

-- nothing meets a window without instants
pub meeting_empty : (es : List Entry) (w : Span) → is_before w.start w.end ≡ false → meeting es w ≡ []
meeting_empty [] w h = refl
meeting_empty (e ∷ es) w h = rw (none (is_before e.span.start e.span.end) (is_before e.span.start w.end) (is_before w.start e.span.end) (is_before w.start w.end) h) (meeting_empty es w h)
  where
    none : (a b c x : Bool) → x ≡ false → (a && x && b && c) ≡ false
    none true b c x h = rw h
    none false b c x h = refl
