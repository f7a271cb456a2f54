-- The names of the members that bodies are read for.
use Rattle.std.specs.Prelude.{ℕ, List, codes}
use Rattle.adr_read.specs.declared.name.MemberName.{MemberName}
use Rattle.adr_read.specs.declared.name.MemberName.TheVariants.{ObjectType, Id, ProgramName, VenName, ResourceName, VenId, ProgramId, EventName, Priority, Targets, IntervalPeriod, Intervals, Start, Duration, RandomizeStart, Payloads, Kind, Values, X, Y}

-- as bodies spell them
abbrev pub member_text : MemberName → List ℕ
member_text ObjectType = codes "objectType"
member_text Id = codes "id"
member_text ProgramName = codes "programName"
member_text VenName = codes "venName"
member_text ResourceName = codes "resourceName"
member_text VenId = codes "venID"
member_text ProgramId = codes "programID"
member_text EventName = codes "eventName"
member_text Priority = codes "priority"
member_text Targets = codes "targets"
member_text IntervalPeriod = codes "intervalPeriod"
member_text Intervals = codes "intervals"
member_text Start = codes "start"
member_text Duration = codes "duration"
member_text RandomizeStart = codes "randomizeStart"
member_text Payloads = codes "payloads"
member_text Kind = codes "type"
member_text Values = codes "values"
member_text X = codes "x"
member_text Y = codes "y"
