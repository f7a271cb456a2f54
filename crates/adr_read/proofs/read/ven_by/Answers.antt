use Rattle.std.proofs.Common.{◌≡◌, ◌∙◌, [], codes, get_or, ap}
use Rattle.std.proofs.lemmas.Result.{err_from_is_err_and}
use Rattle.adr_refusal.specs.Faults.{judged}
use Rattle.adr_read.specs.Body.{object_named, ven_named}
use Rattle.adr_read.specs.Names.{member_text}
use Rattle.adr_read.specs.Objects.{ven_faults, ven_in}
use Rattle.adr_read.proofs.Reading.{object_refused, object_answers}
use Rattle.adr_read.proofs.read.ven_by.Goals as goal

pub returns : goal.returns
unfolding ven_named
returns c =
    let told = c.in_ok-read_object.ensures.told in
    let names = c.in_ok-read_object.ensures.names in
    let kind : member_text c.in_ok-read_object.field-0.0.0.0.name ≡ codes "objectType" = ap (λ ns. get_or ns 0 []) names ∙ ap member_text c.common_members.ensures.names.0 in
    let id : member_text c.in_ok-read_object.field-0.0.0.1.name ≡ codes "id" = ap (λ ns. get_or ns 1 []) names ∙ ap member_text c.common_members.ensures.names.1 in
    let targets : member_text c.in_ok-read_object.field-0.0.1.name ≡ codes "targets" = ap (λ ns. get_or ns 2 []) names ∙ ap member_text c.common_members.ensures.names.2 in
    let name : member_text c.in_ok-read_object.field-0.1.name ≡ codes "venName" = ap (λ ns. get_or ns 3 []) names ∙ ap member_text c.named.ensures.name in
    object_answers c.ven.result (object_named c.args.body.now) told.0 (ven_faults c.args.id.now) (ven_in c.args.id.now) told.1
    (c.ven.ensures told.0 (rw kind at told.2.0.0.0) (rw id at told.2.0.0.1) (rw targets at told.2.0.1) (rw name at told.2.1))

pub returns-in_err-read_object : goal.returns-in_err-read_object
unfolding ven_named
returns-in_err-read_object c =
    let out = err_from_is_err_and c.from_residual.result c.from_residual.ensures.1 in
    rw (out.1, out.2) (object_refused c.in_err-read_object.field-0.0 (object_named c.args.body.now) (λ d. judged (ven_faults c.args.id.now d) (ven_in c.args.id.now d)) c.in_err-read_object.ensures.told)
