use Rattle.adr_read.proofs.Unshielded.{found_as_named, refused_as_named, unequal}
use Rattle.adr_read.proofs.body.read_object.Goals as goal

pub returns-in-Ok-clause-told : goal.returns-in-Ok-clause-told
returns-in-Ok-clause-told g c = found_as_named c.args.body.now (λ m d. g.M.Members.are_of c.args.now m d) (c.has_no_nul.ensures c.if-has_no_nul.true) c.in-Ok.members c.in-Ok.ensures.told

pub returns-in-Err-clause-told : goal.returns-in-Err-clause-told
returns-in-Err-clause-told g c =
    refused_as_named c.args.body.now (λ m d. g.M.Members.are_of c.args.now m d) (c.has_no_nul.ensures c.if-has_no_nul.true) c.in-Err.refusal
    (unequal c.in-Err.refusal c.ne.result (λ same. rw same at c.ne.ensures) c.if-ne.true) c.in-Err.ensures.told
