use Rattle.adr_lines.proofs.Types.{one_payload_more}
use Rattle.adr_lines.proofs.grouped.add_types.Goals as goal

pub loop-place-preserved : goal.loop-place-preserved
loop-place-preserved c = record {
  entries =
      one_payload_more c.args.entry.now c.args.payloads.now c.loop-place.place c.index-payloads-place.result _ _ _ c.loop-place-test.true c.index-payloads-place.is
      c.loop-place.invariant.entries c.in_ok-add_type.ensures.entries;
  types = c.in_ok-add_type.ensures.types;
}
