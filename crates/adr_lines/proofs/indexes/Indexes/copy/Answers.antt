use Rattle.std.proofs.Common.{◌∙◌}
use Rattle.adr_lines.proofs.Copied.{one_copied, rest_apart}
use Rattle.adr_lines.proofs.indexes.Indexes.copy.Goals as goal

pub loop-name-preserved : goal.loop-name-preserved
loop-name-preserved c =
    let l = c.loop-name in
    let n = c.insert.new.self in
    let rest = c.next.new.self in
    let first = c.in-Some.ensures.steps in
    let named = c.in_ok-own.ensures.ok ∙ c.as_str.ensures.value in
    record {
      entries = λ id.
          one_copied l.by_name n l.name-iterator rest (c.in-Some.name.now, c.in-Some.index.now) first l.invariant.distinct
          c.in_ok-own.own c.in_ok-copy.field-0 c.in_ok-insert.ensures.updates named c.in_ok-copy.ensures.entries id
          ∙ l.invariant.entries id;
      distinct = rest_apart l.by_name n l.name-iterator rest (c.in-Some.name.now, c.in-Some.index.now) first l.invariant.distinct;
    }
