use Rattle.std.proofs.Common.{◌++◌, [], codes, option_map, unwrap_or}
use Rattle.serde_json.specs.Data.{null}
use Rattle.adr_refusal.specs.declared.refusal.Refusal.TheVariants.{WrongKind, IdMismatch}
use Rattle.adr_read.specs.Sets.{required, optional}
use Rattle.adr_read.specs.Values.{name_faults, id_faults, equal_faults, text_in, targets_faults, targets_in}
use Rattle.adr_read.proofs.Parts.{anywhere}
use Rattle.adr_read.proofs.object.resource_parts.Goals as goal

pub returns : goal.returns
returns c k i t n v hk hi ht hn hv =
    let line = optional (equal_faults (codes "RESOURCE") WrongKind) k ++ optional (equal_faults c.args.id.now IdMismatch) i in
    let names = required name_faults n in
    let ids = required id_faults v in
    let name = text_in (unwrap_or n null) in
    let ven = text_in (unwrap_or v null) in
    let one = c.both.ensures line names tt name (c.check_line-line.ensures k i hk hi) (c.required.ensures anywhere n hn) in
    let two = c.both-names.ensures (line ++ names) ids (tt, name) ven one (c.required-2.ensures anywhere v hv) in
    c.both-2.ensures (line ++ names ++ ids) (optional targets_faults t) ((tt, name), ven) (unwrap_or (option_map targets_in t) []) two (c.targets_of.ensures t ht)
