use Rattle.std.proofs.Common.{rules, ◌≡◌, [], subst, List}
use Rattle.std.specs.Vec.Iter.{into_iter_items}
use Rattle.std.proofs.lemmas.List.{nil_from_length}
use Rattle.adr_lines.specs.declared.grouped.TypeEntries.{TypeEntries}
use Rattle.adr_lines.proofs.Filled.{all_filled, next_distinct, next_filled, none_filled, AreFilled}
use Rattle.adr_lines.proofs.indexes.Indexes.of.Goals as goal

pub loop-group-init : goal.loop-group-init
loop-group-init c =
    let all : c.args.groups.items ≡ into_iter_items c.into_iter-group-iterator.result = search rules in
    subst (λ (gs : List TypeEntries). AreFilled c.args.groups.items gs c.new-indexes.result) all
    (none_filled c.args.groups.items c.new-indexes.result c.new-indexes.ensures.entries c.requires.types c.requires.fresh)

pub fill-requires : goal.fill-requires
fill-requires c = record {
  distinct =
      next_distinct c.args.groups.items (into_iter_items c.loop-group.group-iterator) (into_iter_items c.next.new.self) c.in-Some.group c.loop-group.indexes
      c.in-Some.ensures.steps.0 c.loop-group.invariant;
}

pub loop-group-preserved : goal.loop-group-preserved
loop-group-preserved c =
    next_filled c.args.groups.items (into_iter_items c.loop-group.group-iterator) (into_iter_items c.next.new.self) c.in-Some.group c.loop-group.indexes c.fill.new.self
    c.in-Some.ensures.steps.0 c.loop-group.invariant c.in_ok-fill.ensures.own c.in_ok-fill.ensures.others

pub returns-clause-entries : goal.returns-clause-entries
returns-clause-entries c =
    let none : into_iter_items c.loop-group.group-iterator ≡ [] = nil_from_length (into_iter_items c.loop-group.group-iterator) (search rules) in
    all_filled c.args.groups.items (into_iter_items c.loop-group.group-iterator) c.loop-group.indexes none c.loop-group.invariant
