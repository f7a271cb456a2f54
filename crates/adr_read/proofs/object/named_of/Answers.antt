use Rattle.std.proofs.Common.{◌++◌, [], option_map, unwrap_or}
use Rattle.serde_json.specs.Data.{null}
use Rattle.adr_refusal.specs.declared.refusal.Refusal.TheVariants.{WrongKind, IdMismatch}
use Rattle.adr_read.specs.Sets.{required, optional}
use Rattle.adr_read.specs.Values.{name_faults, equal_faults, text_in, targets_faults, targets_in}
use Rattle.adr_read.proofs.Parts.{anywhere}
use Rattle.adr_read.proofs.object.named_of.Goals as goal

pub returns : goal.returns
returns c k i t n hk hi ht hn =
    let line = optional (equal_faults c.args.kind.now WrongKind) k ++ optional (equal_faults c.args.id.now IdMismatch) i in
    let names = required name_faults n in
    let name = text_in (unwrap_or n null) in
    let one = c.both.ensures line names tt name (c.check_line-line.ensures k i hk hi) (c.required.ensures anywhere n hn) in
    c.both-2.ensures (line ++ names) (optional targets_faults t) (tt, name) (unwrap_or (option_map targets_in t) []) one (c.targets_of.ensures t ht)
