use Rattle.std.proofs.Common.{◌∙◌, ◌++◌, ap, sym, subst}
use Rattle.std.specs.List.{position}
use Rattle.adr_lines.specs.declared.grouped.TypeEntries.{TypeEntries}
use Rattle.adr_lines.specs.Grouped.{HaveOwnTypes}
use Rattle.adr_lines.proofs.Groups.{is_of, types_put}
use Rattle.adr_desk.proofs.Gathered.{entries_pushed, entries_there, types_there}
use Rattle.std.proofs.Common.{refl}
use Rattle.adr_desk.proofs.bulk.gathering.add_group.Goals as goal

pub returns-in-Some-clause-entries : goal.returns-in-Some-clause-entries
returns-in-Some-clause-entries c =
    let g = c.args.group in
    let place = c.index_mut.result.now in
    entries_there c.args.types.now.items c.in-Some.place place (record { payload_type = place.payload_type; entries = c.append.new.self }) g
    (ap (position (is_of g.payload_type)) (sym c.as_slice.ensures.value) ∙ sym c.place_of.ensures ∙ c.in-Some.is)
    (ap (λ (x : TypeEntries). x.payload_type) c.index_mut.ensures.value)
    (c.in_ok-append.ensures.items ∙ ap (λ (x : TypeEntries). x.entries.items ++ g.entries.items) c.index_mut.ensures.value)
    c.requires

pub returns-in-Some-clause-types : goal.returns-in-Some-clause-types
returns-in-Some-clause-types c =
    let g = c.args.group in
    let place = c.index_mut.result.now in
    types_there c.args.types.now.items c.in-Some.place place (record { payload_type = place.payload_type; entries = c.append.new.self }) g
    (ap (position (is_of g.payload_type)) (sym c.as_slice.ensures.value) ∙ sym c.place_of.ensures ∙ c.in-Some.is)
    (ap (λ (x : TypeEntries). x.payload_type) c.index_mut.ensures.value)
    c.requires

pub returns-clause-entries : goal.returns-clause-entries
returns-clause-entries c k = entries_pushed c.args.types.now.items c.push.new.self.items c.args.group k c.in_ok-push.ensures.items

pub returns-clause-types : goal.returns-clause-types
returns-clause-types c =
    let g = c.args.group in
    subst HaveOwnTypes (sym c.in_ok-push.ensures.items)
    (types_put c.args.types.now.items g g.payload_type
    (ap (position (is_of g.payload_type)) (sym c.as_slice.ensures.value) ∙ sym c.place_of.ensures ∙ c.in_default.is)
    refl c.requires)
