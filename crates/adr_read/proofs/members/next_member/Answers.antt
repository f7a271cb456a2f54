use Rattle.std.proofs.Common.{refl, ◌≡◌, Some, [], arith}
use Rattle.json.specs.Json.{read_key, value}
use Rattle.adr_read.proofs.SkipLemmas.{member_refused}
use Rattle.adr_read.proofs.Turns.{no_key, nothing_comes}
use Rattle.adr_read.proofs.members.next_member.Goals as goal

pub returns-in_default-clause-bad : goal.returns-in_default-clause-bad
returns-in_default-clause-bad c = (refl, λ depth n found. no_key depth n found c.args.reader.now c.in_default.ensures)

pub returns-in-None-clause-bad : goal.returns-in-None-clause-bad
returns-in-None-clause-bad c =
    let keyed : read_key c.args.reader.now ≡ Some (Some c.in-Some.name.now, []) = grind arith in
    (refl, λ depth n found. member_refused (value depth) found n c.in-Some.name.now c.args.reader.now [] keyed (nothing_comes depth))
