use Rattle.std.proofs.Common.{◌∙◌, ap, sym, arith, List}
use Rattle.adr_index.specs.Index.{others_all}
use Rattle.adr_lines.specs.declared.grouped.TypeEntries.{TypeEntries}
use Rattle.adr_lines.specs.Grouped.{entries_under}
use Rattle.adr_lines.specs.Indexes.{under}
use Rattle.adr_lines.proofs.Turns.{taken_turn}
use Rattle.adr_lines.proofs.indexes.Indexes.take_all.Goals as goal

pub rest-preserved : goal.rest-preserved
rest-preserved c = record {
  entries = λ k.
      taken_turn c.in-Some.group.now c.in-Some.more.now k (under c.rest.self k) (under c.take.new.self k) (c.take.ensures.entries k)
      ∙ ap (λ (gs : List TypeEntries). others_all (entries_under gs k) (under c.rest.self k)) (sym c.in-Some.ensures.cases.0)
      ∙ c.rest.invariant.entries k;
  spare = λ k. let had = c.rest.invariant.spare k in let kept = c.take.ensures.spare k in omega arith;
}
