use Rattle.std.proofs.Common.{◌++◌, option_map, unwrap_or}
use Rattle.serde_json.specs.Data.{null}
use Rattle.adr_read.specs.Sets.{required, optional}
use Rattle.adr_read.specs.Values.{text_faults, id_faults, text_in, priority_faults, priority_in}
use Rattle.adr_read.proofs.Parts.{anywhere}
use Rattle.adr_read.proofs.event.head_of.Goals as goal

pub returns : goal.returns
returns c line p n r given hp hn hr =
    let ids = required id_faults p in
    let names = optional text_faults n in
    let program = text_in (unwrap_or p null) in
    let name = option_map text_in n in
    let one = c.both.ensures line ids tt program given (c.required.ensures anywhere p hp) in
    let two = c.both-names.ensures (line ++ ids) names (tt, program) name one (c.optional.ensures anywhere n hn) in
    c.both-2.ensures (line ++ ids ++ names) (optional priority_faults r) ((tt, program), name) (option_map priority_in r) two (c.optional-2.ensures anywhere r hr)
