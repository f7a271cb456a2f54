use Rattle.std.proofs.Common.{◌∙◌}
use Rattle.std.proofs.lemmas.Result.{on_ok_weaker}
use Rattle.adr_plain.specs.Scan.{written_event}
use Rattle.adr_plain.proofs.Placing.{added_entries}
use Rattle.adr_plain.proofs.entries.add_entries.Goals as goal

pub returns-clause-ok : goal.returns-clause-ok
returns-clause-ok c =
    on_ok_weaker c.add_placed.result
    (added_entries _ _ c.args.payload_type.now (written_event c.args.event.now c.args.written) _ (c.as_slice.ensures.value ∙ c.in_ok-places.ensures.ok))
    c.add_placed.ensures.ok
