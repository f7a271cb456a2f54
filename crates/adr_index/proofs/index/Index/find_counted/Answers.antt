use Rattle.std.proofs.Common.{◌≡◌, ◌≤◌, ◌^◌, length, arith, ◌∙◌, ap}
use Rattle.adr_index.specs.Chunks.{all_listed, listed}
use Rattle.adr_index.specs.Index.{digits}
use Rattle.adr_index.proofs.Depth.{chunks_few, chunks_short, looks_few}
use Rattle.adr_index.proofs.Grown.{tree_levels}
use Rattle.adr_index.proofs.Ordered.{ordered_starts}
use Rattle.adr_index.proofs.index.Index.find_counted.Goals as goal

pub search_chunks-requires-clause-depth : goal.search_chunks-requires-clause-depth
search_chunks-requires-clause-depth g c =
    let below : length (all_listed c.self.inside.table.chunks.items) ≤ 2 ^ c.digits-depth.result = omega (arith, c.digits-depth.ensures.below, c.self.invariant.table.count) in
    rw c.deref.ensures.value (chunks_short c.digits-depth.result c.self.inside.table.chunks.items below)

pub search_chunks-requires-clause-levels : goal.search_chunks-requires-clause-levels
search_chunks-requires-clause-levels g c =
    let below : length (all_listed c.self.inside.table.chunks.items) ≤ 2 ^ c.digits-depth.result = omega (arith, c.digits-depth.ensures.below, c.self.invariant.table.count) in
    rw c.deref.ensures.value (omega (arith, below, chunks_few c.self.inside.table.chunks.items c.self.invariant.table.chunks))

pub search_chunks-requires-clause-tree : goal.search_chunks-requires-clause-tree
search_chunks-requires-clause-tree g c = rw (c.deref.ensures.value, c.deref-2.ensures.value) (tree_levels listed 6 c.self.invariant.tops.levels c.digits-depth.result c.self.inside.table.chunks.items c.self.inside.tops.items c.self.invariant.tops.enough c.self.invariant.tops.tree)

pub search_chunks-requires-clause-order : goal.search_chunks-requires-clause-order
search_chunks-requires-clause-order g c = rw c.deref.ensures.value (ordered_starts (all_listed c.self.inside.table.chunks.items) c.self.invariant.table.order)

pub returns-in_err-search_chunks-clause-probes : goal.returns-in_err-search_chunks-clause-probes
returns-in_err-search_chunks-clause-probes g c =
    let depth : c.digits-depth.result ≡ digits (length (all_listed c.self.inside.table.chunks.items)) = c.digits-depth.ensures.digits ∙ ap digits c.self.invariant.table.count in
    rw (← c.self.view_is) (omega (arith, looks_few (all_listed c.self.inside.table.chunks.items) c.args.asked.now.query, rw (c.deref.ensures.value, depth) at c.search_chunks.ensures.looks))

pub returns-clause-probes : goal.returns-clause-probes
returns-clause-probes g c =
    let depth : c.digits-depth.result ≡ digits (length (all_listed c.self.inside.table.chunks.items)) = c.digits-depth.ensures.digits ∙ ap digits c.self.invariant.table.count in
    rw (← c.self.view_is) (omega (arith, looks_few (all_listed c.self.inside.table.chunks.items) c.args.asked.now.query, rw (c.deref.ensures.value, depth) at c.search_chunks.ensures.looks))
