use Rattle.std.proofs.Common.{◌∙◌, ◌++◌, ◌∷◌, ap, sym, subst, []}
use Rattle.std.specs.List.{position}
use Rattle.adr_lines.specs.Grouped.{HaveOwnTypes}
use Rattle.adr_lines.specs.declared.grouped.TypeEntries.{TypeEntries}
use Rattle.adr_lines.proofs.Groups.{is_of, entries_there, types_there, types_put}
use Rattle.adr_lines.proofs.grouped.add_entry.Goals as goal

pub returns-in-Some-clause-entries : goal.returns-in-Some-clause-entries
returns-in-Some-clause-entries c =
    let t = c.args.payload_type.now in
    entries_there c.args.groups.now.items c.in-Some.place c.index_mut.result.now _ t c.args.entry.now
    (ap (position (is_of t)) (sym c.as_slice.ensures.value) ∙ sym c.place_of.ensures ∙ c.in-Some.is)
    (ap (λ (g : TypeEntries). g.payload_type) c.index_mut.ensures.value)
    (c.in_ok-push.ensures.ok ∙ ap (λ (g : TypeEntries). g.entries.items ++ c.args.entry.now ∷ []) c.index_mut.ensures.value)
    c.requires

pub returns-in-Some-clause-types : goal.returns-in-Some-clause-types
returns-in-Some-clause-types c =
    let t = c.args.payload_type.now in
    types_there c.args.groups.now.items c.in-Some.place c.index_mut.result.now _ t c.args.entry.now
    (ap (position (is_of t)) (sym c.as_slice.ensures.value) ∙ sym c.place_of.ensures ∙ c.in-Some.is)
    (ap (λ (g : TypeEntries). g.payload_type) c.index_mut.ensures.value)
    (c.in_ok-push.ensures.ok ∙ ap (λ (g : TypeEntries). g.entries.items ++ c.args.entry.now ∷ []) c.index_mut.ensures.value)
    c.requires

pub returns-clause-types : goal.returns-clause-types
returns-clause-types c =
    let t = c.args.payload_type.now in
    subst HaveOwnTypes (sym c.in_ok-push-2.ensures.items)
    (types_put c.args.groups.now.items c.in_ok-group.group t
    (ap (position (is_of t)) (sym c.as_slice.ensures.value) ∙ sym c.place_of.ensures ∙ c.in_default.is)
    c.in_ok-group.ensures.payload_type c.requires)
