-- What a clause sees of an event that applies: the event as it was written.
use Rattle.adr_model.specs.declared.written.Written.{Written}
use Rattle.adr_touches.specs.declared.matching.Applied.{Applied}

abbrev pub written_event : Applied → Written
written_event a = record { event = a.event.now; written = a.written }
