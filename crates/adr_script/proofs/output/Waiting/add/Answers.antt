use Rattle.std.proofs.Common.{sym, ◌∙◌}
use Rattle.adr_script.proofs.output.Waiting.add.Goals as goal

pub returns-clause-added : goal.returns-clause-added
returns-clause-added c = λ added. rw (sym c.is_ok.ensures.value ∙ added) at c.extend_from_slice.ensures.items

pub returns-clause-kept : goal.returns-clause-kept
returns-clause-kept c = λ kept. rw (sym c.is_ok.ensures.value ∙ kept) at c.extend_from_slice.ensures.items
