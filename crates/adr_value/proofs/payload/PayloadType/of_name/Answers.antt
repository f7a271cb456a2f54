use Rattle.std.proofs.Common.{refl, ap, ◌∙◌}
use Rattle.std.specs.Option.{option_or}
use Rattle.adr_value.specs.Payload.{type_in, capacities, alerts}
use Rattle.adr_value.proofs.PayloadParts.{type_of_found}
use Rattle.adr_value.proofs.payload.PayloadType.of_name.Goals as goal

pub returns-in-Some : goal.returns-in-Some
returns-in-Some c =
    let x = c.args.text.now in
    type_of_found x _ _ _ _ c.signal_of_name.ensures refl refl
    (ap (λ o. option_or (option_or o (type_in capacities x)) (type_in alerts x)) c.in-Some.is)

pub returns-in-Some-capacity_of_name : goal.returns-in-Some-capacity_of_name
returns-in-Some-capacity_of_name c =
    let x = c.args.text.now in
    type_of_found x _ _ _ _ c.signal_of_name.ensures c.capacity_of_name.ensures refl
    (ap (λ o. option_or (option_or o c.capacity_of_name.result) (type_in alerts x)) c.in_default.is
    ∙ ap (λ o. option_or o (type_in alerts x)) c.in-Some-capacity_of_name.is)

pub returns-in-Some-alert_of_name : goal.returns-in-Some-alert_of_name
returns-in-Some-alert_of_name c =
    type_of_found c.args.text.now _ _ _ _ c.signal_of_name.ensures c.capacity_of_name.ensures c.alert_of_name.ensures
    (ap (λ o. option_or (option_or o c.capacity_of_name.result) c.alert_of_name.result) c.in_default.is
    ∙ ap (λ o. option_or o c.alert_of_name.result) c.in_default-capacity_of_name.is
    ∙ c.in-Some-alert_of_name.is)
