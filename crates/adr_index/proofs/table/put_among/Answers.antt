use Rattle.std.proofs.Common.{rules, ◌≡◌, ◌+◌, ◌<◌, length, get_or, slice_set, refl}
use Rattle.std.specs.List.{insert}
use Rattle.adr_index.proofs.Placed.{chunk_ordered, put_one, put_two}
use Rattle.adr_index.proofs.table.put_among.Goals as goal

pub put-later-requires-clause-order : goal.put-later-requires-clause-order
put-later-requires-clause-order c =
    let inside : c.home-place.result < length c.args.chunks.now.items = search rules in
    let read : c.index_mut.result.now ≡ get_or c.args.chunks.now.items c.home-place.result c.index_mut.result.now = search rules in
    chunk_ordered c.args.chunks.now.items c.home-place.result c.index_mut.result.now inside read c.requires.order

pub returns-in-Some-clause-entries : goal.returns-in-Some-clause-entries
returns-in-Some-clause-entries c =
    let inside : c.home-place.result < length c.args.chunks.now.items = search rules in
    let read : c.index_mut.result.now ≡ get_or c.args.chunks.now.items c.home-place.result c.index_mut.result.now = search rules in
    let new : c.insert.new.self.items ≡ insert (slice_set c.args.chunks.now.items c.home-place.result c.put-later.new.self) (c.home-place.result + 1) c.in-Some.later = search rules in
    rw new (put_two c.args.chunks.now.items c.home-place.result c.index_mut.result.now c.put-later.new.self c.args.entry inside read (rw c.deref.ensures.value at c.home-place.ensures.before) (rw c.deref.ensures.value at c.home-place.ensures.after) c.in-Some.later c.in-Some.ensures.entries)

pub returns-clause-entries : goal.returns-clause-entries
returns-clause-entries c =
    let inside : c.home-place.result < length c.args.chunks.now.items = search rules in
    let read : c.index_mut.result.now ≡ get_or c.args.chunks.now.items c.home-place.result c.index_mut.result.now = search rules in
    put_one c.args.chunks.now.items c.home-place.result c.index_mut.result.now c.put-later.new.self c.args.entry inside read (rw c.deref.ensures.value at c.home-place.ensures.before) (rw c.deref.ensures.value at c.home-place.ensures.after) c.in_default.ensures.entries

pub returns-clause-changed : goal.returns-clause-changed
returns-clause-changed c = record { inside = search rules; chunk = c.put-later.new.self; is = refl }
