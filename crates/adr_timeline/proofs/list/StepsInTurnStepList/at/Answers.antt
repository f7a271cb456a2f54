use Rattle.std.proofs.Common.{arith}
use Rattle.adr_timeline.proofs.Listed.{down_there, entry_within, none_there, up_there}
use Rattle.adr_timeline.proofs.list.StepsInTurnStepList.at.Goals as goal

pub offset_bounds-self-place : goal.offset_bounds-self-place
offset_bounds-self-place c = let within = entry_within c.args.self.entries.now c.args.place c.args.self.in_turn c.requires in grind arith

pub bounds-self-place : goal.bounds-self-place
bounds-self-place c = entry_within c.args.self.entries.now c.args.place c.args.self.in_turn c.requires

pub returns-then-place-eq0 : goal.returns-then-place-eq0
returns-then-place-eq0 c = up_there c.args.self.entries.now c.args.place c.index-self-place.result c.args.self.in_turn c.requires c.if-place-eq0.true

pub unreachable-requires : goal.unreachable-requires
unreachable-requires c = none_there c.args.self.entries.now c.args.place c.index-self-place.result c.args.self.in_turn c.requires (omega (arith, c.if-place-eq0.false)) c.in-Endless.is

pub returns : goal.returns
returns c = down_there c.args.self.entries.now c.args.place c.index-self-place.result c.args.self.in_turn c.requires c.in-At.end (omega (arith, c.if-place-eq0.false)) c.in-At.is
