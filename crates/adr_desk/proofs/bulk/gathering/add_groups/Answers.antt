use Rattle.std.proofs.Common.{◌≡◌, ◌++◌, [], append-nil, rules, ap, sym, ◌∙◌}
use Rattle.std.specs.Vec.Iter.{into_iter_items}
use Rattle.std.proofs.lemmas.List.{nil_from_length}
use Rattle.adr_lines.specs.Grouped.{entries_under}
use Rattle.adr_desk.proofs.Gathered.{next_group}
use Rattle.adr_desk.proofs.bulk.gathering.add_groups.Goals as goal

pub loop-group-init : goal.loop-group-init
loop-group-init c =
    let all : c.args.groups.items ≡ into_iter_items c.into_iter-group-iterator.result = search rules in
    record {
      entries = λ k. ap (λ gs. entries_under c.args.types.now.items k ++ entries_under gs k) (sym all);
      types = c.requires;
    }

pub loop-group-preserved : goal.loop-group-preserved
loop-group-preserved c = record {
  entries = λ k.
      next_group c.loop-group.types.items c.add_group.new.types.items (into_iter_items c.next.new.self) (into_iter_items c.loop-group.group-iterator) c.args.groups.items
      c.in-Some.group k (entries_under c.args.types.now.items k) c.in-Some.ensures.steps.0 (c.in_ok-add_group.ensures.entries k) (c.loop-group.invariant.entries k);
  types = c.in_ok-add_group.ensures.types;
}

pub returns-clause-entries : goal.returns-clause-entries
returns-clause-entries c k =
    let none : into_iter_items c.loop-group.group-iterator ≡ [] = nil_from_length (into_iter_items c.loop-group.group-iterator) (search rules) in
    sym (append-nil (entries_under c.loop-group.types.items k))
    ∙ ap (λ gs. entries_under c.loop-group.types.items k ++ entries_under gs k) (sym none)
    ∙ c.loop-group.invariant.entries k
