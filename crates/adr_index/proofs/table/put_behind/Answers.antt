use Rattle.std.proofs.Common.{rules, ◌≡◌, ◌<◌, List, length, take, get_or, arith, ap, sym, ◌∙◌, refl, subst}
use Rattle.std.proofs.lemmas.List.{get_or_read}
use Rattle.adr_model.specs.declared.entry.Entry.{Entry}
use Rattle.adr_index.specs.declared.chunk.EntryChunk.{EntryChunk}
use Rattle.adr_index.specs.Chunks.{listed, GoTogether}
use Rattle.adr_index.proofs.Placed.{chunk_at, chunk_ordered}
use Rattle.adr_index.proofs.Runs.{all_stand, first_together, put_run, take_fewer, together_ordered}
use Rattle.adr_index.proofs.Spent.{put_spends}
use Rattle.adr_index.proofs.table.put_behind.Goals as goal

pub put_each-requires-clause-order : goal.put_each-requires-clause-order
put_each-requires-clause-order c =
    let inside : c.home-place.result < length c.args.chunks.now.items = search rules in
    let read : c.index_mut.result.now ≡ get_or c.args.chunks.now.items c.home-place.result c.index_mut.result.now = search rules in
    chunk_ordered c.args.chunks.now.items c.home-place.result c.index_mut.result.now inside read c.requires.order

pub put_each-requires-clause-run : goal.put_each-requires-clause-run
put_each-requires-clause-run c =
    let fewer : take c.min-given.result (take c.run_into.result c.args.entries.now) ≡ take c.min-given.result c.args.entries.now = take_fewer c.min-given.result c.run_into.result c.args.entries.now (omega arith) in
    rw (c.split_at.ensures.front, ← fewer) (together_ordered c.index-2.result.now (take c.min-given.result (take c.run_into.result c.args.entries.now)) (first_together c.index-2.result.now c.min-given.result (take c.run_into.result c.args.entries.now) c.run_into.ensures.together))

pub returns-clause-entries : goal.returns-clause-entries
returns-clause-entries c =
    let inside : c.home-place.result < length c.args.chunks.now.items = search rules in
    let read : c.index_mut.result.now ≡ get_or c.args.chunks.now.items c.home-place.result c.index_mut.result.now = search rules in
    let looked : c.index-2.result.now ≡ get_or c.args.chunks.now.items c.home-place.result c.index-2.result.now = search rules in
    let one : c.index-2.result.now ≡ c.index_mut.result.now = get_or_read c.args.chunks.now.items c.home-place.result c.index-2.result.now inside looked c.index_mut.result.now ∙ sym read in
    let fewer : take c.min-given.result (take c.run_into.result c.args.entries.now) ≡ take c.min-given.result c.args.entries.now = take_fewer c.min-given.result c.run_into.result c.args.entries.now (omega arith) in
    let together = subst (λ (es : List Entry). GoTogether c.index_mut.result.now es) fewer (first_together c.index_mut.result.now c.min-given.result (take c.run_into.result c.args.entries.now) (subst (λ (d : EntryChunk). GoTogether d (take c.run_into.result c.args.entries.now)) one c.run_into.ensures.together)) in
    put_run c.args.chunks.now.items c.home-place.result c.index_mut.result.now c.put_each.new.self (take c.min-given.result c.args.entries.now) inside read (all_stand c.args.chunks.now.items c.home-place.result c.index_mut.result.now inside read (chunk_at c.args.chunks.now.items c.home-place.result c.index_mut.result.now c.requires.chunks inside read).some c.requires.order c.index-entries-0.result c.args.entries.now c.min-given.result c.index-entries-0.is (rw c.deref.ensures.value at c.home-place.ensures.before) (rw c.deref.ensures.value at c.home-place.ensures.after) together) (rw c.split_at.ensures.front at c.put_each.ensures.entries)

pub returns-clause-changed : goal.returns-clause-changed
returns-clause-changed c = record { inside = search rules; chunk = c.put_each.new.self; is = refl }

pub put_each-requires-clause-room : goal.put_each-requires-clause-room
put_each-requires-clause-room c =
    let inside : c.home-place.result < length c.args.chunks.now.items = search rules in
    let looked : c.index.result.now ≡ get_or c.args.chunks.now.items c.home-place.result c.index.result.now = search rules in
    let read : c.index_mut.result.now ≡ get_or c.args.chunks.now.items c.home-place.result c.index_mut.result.now = search rules in
    let one : c.index.result.now ≡ c.index_mut.result.now = get_or_read c.args.chunks.now.items c.home-place.result c.index.result.now inside looked c.index_mut.result.now ∙ sym read in
    let same = ap (λ (d : EntryChunk). length (listed d)) one in
    omega arith

pub returns-clause-spends : goal.returns-clause-spends
returns-clause-spends c pool =
    let inside : c.home-place.result < length c.args.chunks.now.items = search rules in
    let read : c.index_mut.result.now ≡ get_or c.args.chunks.now.items c.home-place.result c.index_mut.result.now = search rules in
    let given : length c.split_at.result.0.now ≡ c.min-given.result = search rules in
    put_spends c.min-given.result c.args.chunks.now.items c.home-place.result c.index_mut.result.now c.put_each.new.self pool inside read (omega (arith, given, c.put_each.ensures.more))
