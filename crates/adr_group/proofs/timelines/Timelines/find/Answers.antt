use Rattle.std.proofs.Common.{◌∙◌, sym}
use Rattle.adr_value.specs.Payload.{name_of}
use Rattle.adr_group.proofs.Listed.{found_shows}
use Rattle.adr_group.proofs.timelines.Timelines.find.Goals as goal

pub returns-in-Some-clause-lasts : goal.returns-in-Some-clause-lasts
returns-in-Some-clause-lasts c none =
    found_shows (name_of c.args.payload_type.now) c.self.inside.by_type c.in-Some.line.now c.self.invariant (c.in-Some.ensures ∙ sym c.in_ok-place.ensures) (sym c.get.ensures ∙ none)
