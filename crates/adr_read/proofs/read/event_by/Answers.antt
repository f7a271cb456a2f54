use Rattle.std.proofs.Common.{◌≡◌, ◌∙◌, [], codes, get_or, ap}
use Rattle.std.proofs.lemmas.Result.{err_from_is_err_and}
use Rattle.adr_refusal.specs.Faults.{judged}
use Rattle.adr_read.specs.Body.{object_named, event_named_by}
use Rattle.adr_read.specs.Names.{member_text}
use Rattle.adr_read.specs.Objects.{event_faults, event_in}
use Rattle.adr_read.proofs.Reading.{object_refused, object_answers}
use Rattle.adr_read.proofs.read.event_by.Goals as goal

pub returns : goal.returns
unfolding event_named_by
returns c =
    let told = c.in_ok-read_object.ensures.told in
    let names = c.in_ok-read_object.ensures.names in
    let kind : member_text c.in_ok-read_object.field-0.0.0.0.name ≡ codes "objectType" = ap (λ ns. get_or ns 0 []) names ∙ ap member_text c.event_members.ensures.common.0 in
    let id : member_text c.in_ok-read_object.field-0.0.0.1.name ≡ codes "id" = ap (λ ns. get_or ns 1 []) names ∙ ap member_text c.event_members.ensures.common.1 in
    let targets : member_text c.in_ok-read_object.field-0.0.1.name ≡ codes "targets" = ap (λ ns. get_or ns 2 []) names ∙ ap member_text c.event_members.ensures.common.2 in
    let program : member_text c.in_ok-read_object.field-0.1.0.0.0.name ≡ codes "programID" = ap (λ ns. get_or ns 3 []) names ∙ ap member_text c.event_members.ensures.names.0 in
    let name : member_text c.in_ok-read_object.field-0.1.0.0.1.name ≡ codes "eventName" = ap (λ ns. get_or ns 4 []) names ∙ ap member_text c.event_members.ensures.names.1 in
    let priority : member_text c.in_ok-read_object.field-0.1.0.1.name ≡ codes "priority" = ap (λ ns. get_or ns 5 []) names ∙ ap member_text c.event_members.ensures.names.2 in
    let period : member_text c.in_ok-read_object.field-0.1.1.0.name ≡ codes "intervalPeriod" = ap (λ ns. get_or ns 6 []) names ∙ ap member_text c.event_members.ensures.names.3 in
    let intervals : member_text c.in_ok-read_object.field-0.1.1.1.name ≡ codes "intervals" = ap (λ ns. get_or ns 7 []) names ∙ ap member_text c.event_members.ensures.names.4 in
    object_answers c.event.result (object_named c.args.body.now) told.0 (event_faults c.args.id.now) (event_in c.args.now c.args.id.now) told.1
    (c.event.ensures c.args.now told.0 (rw kind at told.2.0.0.0) (rw id at told.2.0.0.1) (rw targets at told.2.0.1) (rw program at told.2.1.0.0.0) (rw name at told.2.1.0.0.1) (rw priority at told.2.1.0.1) (rw period at told.2.1.1.0) (rw intervals at told.2.1.1.1))

pub returns-in_err-read_object : goal.returns-in_err-read_object
unfolding event_named_by
returns-in_err-read_object c =
    let out = err_from_is_err_and c.from_residual.result c.from_residual.ensures.1 in
    rw (out.1, out.2) (object_refused c.in_err-read_object.field-0.0 (object_named c.args.body.now) (λ d. judged (event_faults c.args.id.now d) (event_in c.args.now c.args.id.now d)) c.in_err-read_object.ensures.told)
