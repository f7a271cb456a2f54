use Rattle.std.proofs.Common.{◌≡◌, ◌≤◌, ◌+◌, ◌∙◌, ap, sym, subst, arith, length, List}
use Rattle.adr_index.specs.Index.{inserted_all, AreNew}
use Rattle.adr_lines.specs.declared.grouped.TypeEntries.{TypeEntries}
use Rattle.adr_lines.specs.Grouped.{entries_under}
use Rattle.adr_lines.specs.Indexes.{own_entries, spare_under, under}
use Rattle.adr_lines.proofs.Turns.{fresh_here, fresh_turn, length_turn, put_turn, room_here}
use Rattle.adr_lines.proofs.indexes.Indexes.put_all.Goals as goal

pub put-requires-clause-fresh : goal.put-requires-clause-fresh
put-requires-clause-fresh c =
    let g = c.in-Some.group.now in
    fresh_here g c.in-Some.more.now (under c.rest.self g.payload_type)
    (subst (λ (gs : List TypeEntries). AreNew (entries_under gs g.payload_type) (under c.rest.self g.payload_type)) c.in-Some.ensures.cases.0
    (c.rest.invariant.fresh g.payload_type))

pub put-requires-clause-room : goal.put-requires-clause-room
put-requires-clause-room c =
    let g = c.in-Some.group.now in
    room_here g c.in-Some.more.now (spare_under c.rest.self g.payload_type)
    (subst (λ (gs : List TypeEntries). length (entries_under gs g.payload_type) ≤ spare_under c.rest.self g.payload_type) c.in-Some.ensures.cases.0
    (c.rest.invariant.room g.payload_type))

pub rest-preserved : goal.rest-preserved
rest-preserved c =
    let g = c.in-Some.group.now in
    let more = c.in-Some.more.now in
    record {
      entries = λ k.
          put_turn g more k (under c.rest.self k) (under c.put.new.self k) (c.put.ensures.entries k)
          ∙ ap (λ (gs : List TypeEntries). inserted_all (entries_under gs k) (under c.rest.self k)) (sym c.in-Some.ensures.cases.0)
          ∙ c.rest.invariant.entries k;
      fresh = λ k.
          fresh_turn g more k (under c.rest.self k) (under c.put.new.self k) (c.put.ensures.entries k)
          (subst (λ (gs : List TypeEntries). AreNew (entries_under gs k) (under c.rest.self k)) c.in-Some.ensures.cases.0 (c.rest.invariant.fresh k));
      room = λ k.
          let rest : length (entries_under c.rest.rest.now k) ≡ length (own_entries g k) + length (entries_under more k) =
          ap (λ (gs : List TypeEntries). length (entries_under gs k)) c.in-Some.ensures.cases.0 ∙ length_turn g more k in
          let had = c.rest.invariant.room k in
          let taken = c.put.ensures.spare k in
          omega arith;
      spare = λ k.
          let rest : length (entries_under c.rest.rest.now k) ≡ length (own_entries g k) + length (entries_under more k) =
          ap (λ (gs : List TypeEntries). length (entries_under gs k)) c.in-Some.ensures.cases.0 ∙ length_turn g more k in
          let had = c.rest.invariant.spare k in
          let taken = c.put.ensures.spare k in
          omega arith;
    }
