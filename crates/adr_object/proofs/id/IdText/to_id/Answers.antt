use Rattle.adr_object.proofs.Texts.{id_is_text}
use Rattle.adr_object.proofs.id.IdText.to_id.Goals as goal

pub unreachable-requires : goal.unreachable-requires
unreachable-requires c = c.in-Err.ensures.cases.0 (id_is_text c.self.inside.bytes.now c.self.invariant)
