use Rattle.std.proofs.Common.{rules, ◌≡◌, ◌<◌, length, take, get_or, slice_set, arith, sym, ◌∙◌, ap, refl, subst}
use Rattle.std.proofs.lemmas.List.{get_or_read}
use Rattle.adr_index.specs.declared.chunk.EntryChunk.{EntryChunk}
use Rattle.std.specs.List.{remove}
use Rattle.adr_index.specs.Chunks.{listed, GoTogether}
use Rattle.adr_index.proofs.Placed.{chunk_at, chunk_ordered}
use Rattle.adr_index.proofs.Runs.{all_stand, take_run, take_gone, take_count, together_ordered}
use Rattle.adr_index.proofs.Spent.{gone_spends}
use Rattle.adr_index.proofs.table.take_among.Goals as goal

pub take-requires-clause-order : goal.take-requires-clause-order
take-requires-clause-order c =
    let inside : c.home-place.result < length c.args.chunks.now.items = search rules in
    let read : c.index_mut.result.now ≡ get_or c.args.chunks.now.items c.home-place.result c.index_mut.result.now = search rules in
    chunk_ordered c.args.chunks.now.items c.home-place.result c.index_mut.result.now inside read c.requires.order

pub take-requires-clause-run : goal.take-requires-clause-run
take-requires-clause-run c = rw c.split_at.ensures.front (together_ordered c.index.result.now (take c.run_into-given.result c.args.entries.now) c.run_into-given.ensures.together)

pub returns-then-left-gt0-clause-entries : goal.returns-then-left-gt0-clause-entries
returns-then-left-gt0-clause-entries c =
    let inside : c.home-place.result < length c.args.chunks.now.items = search rules in
    let read : c.index_mut.result.now ≡ get_or c.args.chunks.now.items c.home-place.result c.index_mut.result.now = search rules in
    let looked : c.index.result.now ≡ get_or c.args.chunks.now.items c.home-place.result c.index.result.now = search rules in
    let one : c.index.result.now ≡ c.index_mut.result.now = get_or_read c.args.chunks.now.items c.home-place.result c.index.result.now inside looked c.index_mut.result.now ∙ sym read in
    let stand = all_stand c.args.chunks.now.items c.home-place.result c.index_mut.result.now inside read (chunk_at c.args.chunks.now.items c.home-place.result c.index_mut.result.now c.requires.chunks inside read).some c.requires.order c.index-entries-0.result c.args.entries.now c.run_into-given.result c.index-entries-0.is (rw c.deref.ensures.value at c.home-place.ensures.before) (rw c.deref.ensures.value at c.home-place.ensures.after) (subst (λ (d : EntryChunk). GoTogether d (take c.run_into-given.result c.args.entries.now)) one c.run_into-given.ensures.together) in
    take_run c.args.chunks.now.items c.home-place.result c.index_mut.result.now c.take.new.self (take c.run_into-given.result c.args.entries.now) inside read stand (rw c.split_at.ensures.front at c.take.ensures.entries)

pub returns-then-left-gt0-clause-count : goal.returns-then-left-gt0-clause-count
returns-then-left-gt0-clause-count c =
    let inside : c.home-place.result < length c.args.chunks.now.items = search rules in
    let read : c.index_mut.result.now ≡ get_or c.args.chunks.now.items c.home-place.result c.index_mut.result.now = search rules in
    let looked : c.index.result.now ≡ get_or c.args.chunks.now.items c.home-place.result c.index.result.now = search rules in
    let one : c.index.result.now ≡ c.index_mut.result.now = get_or_read c.args.chunks.now.items c.home-place.result c.index.result.now inside looked c.index_mut.result.now ∙ sym read in
    let stand = all_stand c.args.chunks.now.items c.home-place.result c.index_mut.result.now inside read (chunk_at c.args.chunks.now.items c.home-place.result c.index_mut.result.now c.requires.chunks inside read).some c.requires.order c.index-entries-0.result c.args.entries.now c.run_into-given.result c.index-entries-0.is (rw c.deref.ensures.value at c.home-place.ensures.before) (rw c.deref.ensures.value at c.home-place.ensures.after) (subst (λ (d : EntryChunk). GoTogether d (take c.run_into-given.result c.args.entries.now)) one c.run_into-given.ensures.together) in
    let entries = take_run c.args.chunks.now.items c.home-place.result c.index_mut.result.now c.take.new.self (take c.run_into-given.result c.args.entries.now) inside read stand (rw c.split_at.ensures.front at c.take.ensures.entries) in
    let total = take_count c.args.chunks.now.items c.home-place.result c.index_mut.result.now c.take.new.self (take c.run_into-given.result c.args.entries.now) inside read stand (rw c.split_at.ensures.front at c.take.ensures.entries) in
    let first : c.index-2.result.now ≡ get_or c.args.chunks.now.items c.home-place.result c.index-2.result.now = search rules in
    let same : c.index-2.result.now ≡ c.index_mut.result.now = get_or_read c.args.chunks.now.items c.home-place.result c.index-2.result.now inside first c.index_mut.result.now ∙ sym read in
    let counted : c.len-count.result ≡ length (listed c.index-2.result.now) = search rules in
    let count : c.len-count.result ≡ length (listed c.index_mut.result.now) = counted ∙ ap (λ (d : EntryChunk). length (listed d)) same in
    let left : c.len-left.result ≡ length (listed c.take.new.self) = search rules in
    rw (entries, count, left) (omega (arith, total, c.take.ensures.fewer))

pub returns-then-left-gt0-clause-changed : goal.returns-then-left-gt0-clause-changed
returns-then-left-gt0-clause-changed c = record { inside = search rules; chunk = c.take.new.self; is = refl }

pub returns-clause-entries : goal.returns-clause-entries
returns-clause-entries c =
    let inside : c.home-place.result < length c.args.chunks.now.items = search rules in
    let read : c.index_mut.result.now ≡ get_or c.args.chunks.now.items c.home-place.result c.index_mut.result.now = search rules in
    let looked : c.index.result.now ≡ get_or c.args.chunks.now.items c.home-place.result c.index.result.now = search rules in
    let one : c.index.result.now ≡ c.index_mut.result.now = get_or_read c.args.chunks.now.items c.home-place.result c.index.result.now inside looked c.index_mut.result.now ∙ sym read in
    let stand = all_stand c.args.chunks.now.items c.home-place.result c.index_mut.result.now inside read (chunk_at c.args.chunks.now.items c.home-place.result c.index_mut.result.now c.requires.chunks inside read).some c.requires.order c.index-entries-0.result c.args.entries.now c.run_into-given.result c.index-entries-0.is (rw c.deref.ensures.value at c.home-place.ensures.before) (rw c.deref.ensures.value at c.home-place.ensures.after) (subst (λ (d : EntryChunk). GoTogether d (take c.run_into-given.result c.args.entries.now)) one c.run_into-given.ensures.together) in
    let left : c.len-left.result ≡ length (listed c.take.new.self) = search rules in
    let none : length (listed c.take.new.self) ≡ 0 = search rules in
    let new : c.remove-chunk.new.self.items ≡ remove (slice_set c.args.chunks.now.items c.home-place.result c.take.new.self) c.home-place.result = search rules in
    rw new (take_gone c.args.chunks.now.items c.home-place.result c.index_mut.result.now c.take.new.self (take c.run_into-given.result c.args.entries.now) inside read stand (rw c.split_at.ensures.front at c.take.ensures.entries) none)

pub returns-clause-count : goal.returns-clause-count
returns-clause-count c =
    let inside : c.home-place.result < length c.args.chunks.now.items = search rules in
    let read : c.index_mut.result.now ≡ get_or c.args.chunks.now.items c.home-place.result c.index_mut.result.now = search rules in
    let looked : c.index.result.now ≡ get_or c.args.chunks.now.items c.home-place.result c.index.result.now = search rules in
    let one : c.index.result.now ≡ c.index_mut.result.now = get_or_read c.args.chunks.now.items c.home-place.result c.index.result.now inside looked c.index_mut.result.now ∙ sym read in
    let stand = all_stand c.args.chunks.now.items c.home-place.result c.index_mut.result.now inside read (chunk_at c.args.chunks.now.items c.home-place.result c.index_mut.result.now c.requires.chunks inside read).some c.requires.order c.index-entries-0.result c.args.entries.now c.run_into-given.result c.index-entries-0.is (rw c.deref.ensures.value at c.home-place.ensures.before) (rw c.deref.ensures.value at c.home-place.ensures.after) (subst (λ (d : EntryChunk). GoTogether d (take c.run_into-given.result c.args.entries.now)) one c.run_into-given.ensures.together) in
    let first : c.index-2.result.now ≡ get_or c.args.chunks.now.items c.home-place.result c.index-2.result.now = search rules in
    let same : c.index-2.result.now ≡ c.index_mut.result.now = get_or_read c.args.chunks.now.items c.home-place.result c.index-2.result.now inside first c.index_mut.result.now ∙ sym read in
    let counted : c.len-count.result ≡ length (listed c.index-2.result.now) = search rules in
    let count : c.len-count.result ≡ length (listed c.index_mut.result.now) = counted ∙ ap (λ (d : EntryChunk). length (listed d)) same in
    let left : c.len-left.result ≡ length (listed c.take.new.self) = search rules in
    let none : length (listed c.take.new.self) ≡ 0 = search rules in
    let new : c.remove-chunk.new.self.items ≡ remove (slice_set c.args.chunks.now.items c.home-place.result c.take.new.self) c.home-place.result = search rules in
    let entries = take_gone c.args.chunks.now.items c.home-place.result c.index_mut.result.now c.take.new.self (take c.run_into-given.result c.args.entries.now) inside read stand (rw c.split_at.ensures.front at c.take.ensures.entries) none in
    let total = take_count c.args.chunks.now.items c.home-place.result c.index_mut.result.now c.take.new.self (take c.run_into-given.result c.args.entries.now) inside read stand (rw c.split_at.ensures.front at c.take.ensures.entries) in
    rw (new, entries, count) (omega (arith, total, none))

pub returns-clause-spends : goal.returns-clause-spends
returns-clause-spends c =
    let inside : c.home-place.result < length c.args.chunks.now.items = search rules in
    let new : c.remove-chunk.new.self.items ≡ remove (slice_set c.args.chunks.now.items c.home-place.result c.take.new.self) c.home-place.result = search rules in
    rw new (gone_spends c.args.chunks.now.items c.home-place.result c.take.new.self c.args.pool.now.items c.lay_by.new.pool.items inside c.lay_by.ensures.more)
