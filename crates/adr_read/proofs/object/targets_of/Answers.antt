use Rattle.std.proofs.Common.{◌∙◌, [], List, ap, unwrap_or}
use Rattle.std.specs.Prelude.{Option}
use Rattle.std.proofs.lemmas.Result.{err_from_is_err_and}
use Rattle.adr_object.specs.declared.event.Target.{Target}
use Rattle.adr_read.proofs.Parts.{anywhere}
use Rattle.adr_read.proofs.object.targets_of.Goals as goal

pub returns : goal.returns
returns c o holds =
    let read = c.in_ok-targets.ensures anywhere o holds in
    (read.0, c.unwrap_or.ensures ∙ ap (unwrap_or c.in_ok-targets.targets) c.new.ensures ∙ ap (λ (t : Option (List Target)). unwrap_or t []) read.1)

pub returns-in_err-targets : goal.returns-in_err-targets
returns-in_err-targets c o holds =
    let out = err_from_is_err_and c.from_residual.result c.from_residual.ensures.1 in
    rw (out.1, out.2) (c.in_err-targets.ensures anywhere o holds)
