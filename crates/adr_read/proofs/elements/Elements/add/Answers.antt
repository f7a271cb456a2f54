use Rattle.std.proofs.Common.{refl}
use Rattle.std.specs.Prelude.{pos}
use Rattle.adr_read.proofs.ListLaws.{value_added, fault_added}
use Rattle.adr_read.proofs.Telling.{on_ok, on_ok_both}
use Rattle.adr_read.proofs.elements.Elements.add.Goals as goal

pub returns-in-Ok-clause-added : goal.returns-in-Ok-clause-added
returns-in-Ok-clause-added g c =
    let old = c.args.self.now in
    let one = c.count_one.new.self in
    let counted = c.in_ok-count_one.ensures in
    on_ok c.keep.result
    (λ kept moment ds d so_far gives. value_added g.row.LIMIT g.T.Read.faults (λ n. g.T.Read.stands_for (record { moment = moment; place = pos n })) c.args.items.now old.count old.faults ds so_far d one.count one.faults c.keep.new.items one.faults c.in-Ok.item counted.count counted.faults kept refl (rw c.in-Ok.is at gives))
    c.keep.ensures.items

pub returns-in-Err-clause-added : goal.returns-in-Err-clause-added
returns-in-Err-clause-added g c =
    let old = c.args.self.now in
    let one = c.count_one.new.self in
    let counted = c.in_ok-count_one.ensures in
    on_ok_both c.note.result
    (λ noted fault moment ds d so_far gives. fault_added g.row.LIMIT g.T.Read.faults (λ n. g.T.Read.stands_for (record { moment = moment; place = pos n })) c.args.items.now old.count old.faults ds so_far d one.count one.faults c.note.new.self c.in-Err.refusal counted.count counted.faults noted ((rw c.in-Err.is at gives) fault))
    c.note.ensures.noted c.note.ensures.fault
