use Rattle.std.proofs.Common.{◌≡◌, ◌++◌, ◌∙◌, [], codes, get_or, ap}
use Rattle.std.specs.Prelude.{pos}
use Rattle.adr_read.specs.Looking.{member_at, the}
use Rattle.adr_read.specs.Names.{member_text}
use Rattle.adr_read.specs.Sets.{required, list_faults}
use Rattle.adr_read.specs.Values.{datum_faults, values_in}
use Rattle.adr_read.specs.declared.from_value.Context.{Context}
use Rattle.adr_read.proofs.Reading.{object_gives}
use Rattle.adr_read.proofs.lists.typed_values.Goals as goal

pub returns-in-Some : goal.returns-in-Some
returns-in-Some g c =
    let told = c.in_ok-kind.ensures.told in
    let d = told.0 in
    let context : Context = record { moment = c.args.context.now.moment; place = pos 0 } in
    let found = rw c.in-Some.is at told.2 in
    let names = rw c.in-Some.is at c.in_ok-kind.ensures.names in
    let kind : member_text c.in-Some.kind.name ≡ codes "type" = ap (λ ns. get_or ns 0 []) names ∙ ap member_text c.named-kind.ensures.name in
    let values : member_text c.in-Some.values.name ≡ codes "values" = ap (λ ns. get_or ns 1 []) names ∙ ap member_text c.named-values.ensures.name in
    let kinds = required g.K.Read.faults (member_at (codes "type") d) in
    let lists = required (list_faults 256 datum_faults) (member_at (codes "values") d) in (
      d,
      told.1,
      object_gives c.both.result d found.0 (kinds ++ lists) (g.K.Read.stands_for context (the (codes "type") d), values_in d) found.1
          (c.both.ensures kinds lists (g.K.Read.stands_for context (the (codes "type") d)) (values_in d)
          (c.required.ensures context (member_at (codes "type") d) (rw kind at found.2.0))
          (c.required-in-Some.ensures context (member_at (codes "values") d) (rw values at found.2.1))),
    )
