-- What a clause sees of the parts of a line.
use Rattle.std.specs.Prelude.{ℕ, List}
use Rattle.std.specs.Borrow.{Bor}
use Rattle.adr_resolver.specs.Fields.{EditLine, WriteLine, DeleteLine, AtLine, ListLine, RollLine}
use Rattle.adr_resolver.specs.declared.fields.EditLine.{EditLine as EditWords}
use Rattle.adr_resolver.specs.declared.fields.WriteLine.{WriteLine as WriteWords}
use Rattle.adr_resolver.specs.declared.fields.DeleteLine.{DeleteLine as DeleteWords}
use Rattle.adr_resolver.specs.declared.fields.AtLine.{AtLine as AtWords}
use Rattle.adr_resolver.specs.declared.fields.ListLine.{ListLine as ListWords}
use Rattle.adr_resolver.specs.declared.fields.RollLine.{RollLine as RollWords}

abbrev pub pair_view : Bor (List ℕ) × Bor (List ℕ) → List ℕ × List ℕ
pair_view p = (p.0.now, p.1.now)

abbrev pub edit_view : EditWords → EditLine
edit_view l = record { moment = l.moment.now; verb = l.verb.now; kind = l.kind; rest = l.rest.now }

abbrev pub write_view : WriteWords → WriteLine
write_view l = record { moment = l.moment.now; verb = l.verb; kind = l.kind; id = l.id.now; body = l.body.now }

abbrev pub delete_view : DeleteWords → DeleteLine
delete_view l = record { moment = l.moment.now; kind = l.kind; id = l.id.now }

abbrev pub at_view : AtWords → AtLine
at_view l = record { resource = l.resource.now; payload_type = l.payload_type.now; moment = l.moment.now }

abbrev pub list_view : ListWords → ListLine
list_view l = record { resource = l.resource.now; payload_type = l.payload_type.now; from = l.from.now; to = l.to.now }

abbrev pub roll_view : RollWords → RollLine
roll_view l = record { payload_type = l.payload_type.now; moment = l.moment.now }
