use Rattle.adr_fan.proofs.Readers.{readers_tell_the_least_matching}
use Rattle.adr_fan.proofs.laws.reader_laws.Goals as goal

pub returns-clause-least : goal.returns-clause-least
returns-clause-least c =
    let told = c.least_matching_interval_governs.ensures in
    readers_tell_the_least_matching c.fan_laws.ensures.state told.objects told.timelines told.states
