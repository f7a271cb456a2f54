use Rattle.std.proofs.Common.{[], ◌∷◌, ◌++◌, get_or, ap, sym, subst, ◌∙◌}
use Rattle.std.specs.List.{position}
use Rattle.adr_value.specs.Same.{same_type}
use Rattle.adr_lines.specs.declared.grouped.TypeEntries.{TypeEntries}
use Rattle.adr_lines.specs.Grouped.{HaveOwnTypes}
use Rattle.adr_lines.proofs.Groups.{types_put}
use Rattle.adr_group.specs.Jobs.{AreAlike}
use Rattle.adr_group.proofs.Gathered.{gathered, gathered_own}
use Rattle.adr_group.proofs.Jobs.{copied_alike}
use Rattle.adr_group.proofs.job.gather.Goals as goal

pub returns-in-Some-clause-alike : goal.returns-in-Some-clause-alike
returns-in-Some-clause-alike c =
    let group = c.args.group.now in
    let place = c.index_mut.result.now in
    gathered c.args.types.now.items c.in-Some.place place (record { payload_type = place.payload_type; entries = c.extend_from_slice.new.self }) group
    (ap (position (λ (x : TypeEntries). same_type x.payload_type group.payload_type)) (sym c.as_slice.ensures.value) ∙ sym c.place_of.ensures ∙ c.in-Some.is)
    (ap (λ (g : TypeEntries). g.payload_type) c.index_mut.ensures.value)
    (c.in_ok-extend_from_slice.ensures.items
    ∙ ap (λ (g : TypeEntries). g.entries.items ++ c.as_slice-in-Some.result.now) c.index_mut.ensures.value
    ∙ ap (λ es. (get_or c.args.types.now.items c.in-Some.place place).entries.items ++ es) c.as_slice-in-Some.ensures.value)
    c.requires.own

pub returns-in-Some-clause-own : goal.returns-in-Some-clause-own
returns-in-Some-clause-own c =
    let group = c.args.group.now in
    let place = c.index_mut.result.now in
    gathered_own c.args.types.now.items c.in-Some.place place (record { payload_type = place.payload_type; entries = c.extend_from_slice.new.self }) group.payload_type
    (ap (position (λ (x : TypeEntries). same_type x.payload_type group.payload_type)) (sym c.as_slice.ensures.value) ∙ sym c.place_of.ensures ∙ c.in-Some.is)
    (ap (λ (g : TypeEntries). g.payload_type) c.index_mut.ensures.value)
    c.requires.own

pub returns-clause-own : goal.returns-clause-own
returns-clause-own c =
    let group = c.args.group.now in
    subst HaveOwnTypes (sym c.in_ok-push.ensures.items)
    (types_put c.args.types.now.items (record { payload_type = c.in_ok-payload_type.payload_type; entries = c.in_ok-entries.entries }) group.payload_type
    (ap (position (λ (x : TypeEntries). same_type x.payload_type group.payload_type)) (sym c.as_slice.ensures.value) ∙ sym c.in_default.ensures)
    c.in_ok-payload_type.ensures c.requires.own)

pub returns-clause-alike : goal.returns-clause-alike
returns-clause-alike c =
    let group = c.args.group.now in
    subst (λ l. AreAlike l (c.args.types.now.items ++ group ∷ [])) (sym c.in_ok-push.ensures.items)
    (copied_alike c.args.types.now.items [] group (record { payload_type = c.in_ok-payload_type.payload_type; entries = c.in_ok-entries.entries })
    c.in_ok-payload_type.ensures (c.in_ok-entries.ensures.items ∙ c.as_slice-2.ensures.value))
