use Rattle.std.proofs.Common.{rules, ◌≡◌, ◌+◌, ◌-◌, ◌/◌, ◌<◌, length, true, false, arith, subst, Bool}
use Rattle.adr_index.specs.Chunks.{EndsBefore}
use Rattle.adr_index.proofs.Placed.{chunk_at, goes_left, goes_right}
use Rattle.adr_index.proofs.table.home.Goals as goal

pub loop-low-preserved-then-ends_before : goal.loop-low-preserved-then-ends_before
loop-low-preserved-then-ends_before c =
    let inside : c.loop-low.low + (c.loop-low.high - c.loop-low.low) / 2 < length c.args.chunks.now = omega (arith, c.loop-low-test.true, c.loop-low.invariant.inside) in
    let some = (chunk_at c.args.chunks.now _ c.index-chunks-middle.result c.requires.chunks inside c.index-chunks-middle.is).some in
    let yes_is : c.ends_before.result ≡ true = search rules in
    let ends = subst (λ (b : Bool). EndsBefore c.index-chunks-middle.result c.args.entry.now b) yes_is c.ends_before.ensures in
    record {
      between = omega (arith, c.loop-low-test.true);
      inside = c.loop-low.invariant.inside;
      before = goes_right c.args.chunks.now _ c.index-chunks-middle.result inside c.index-chunks-middle.is c.args.entry.now some c.requires.order ends;
      after = c.loop-low.invariant.after;
    }

pub loop-low-preserved : goal.loop-low-preserved
loop-low-preserved c =
    let inside : c.loop-low.low + (c.loop-low.high - c.loop-low.low) / 2 < length c.args.chunks.now = omega (arith, c.loop-low-test.true, c.loop-low.invariant.inside) in
    let some = (chunk_at c.args.chunks.now _ c.index-chunks-middle.result c.requires.chunks inside c.index-chunks-middle.is).some in
    let no_is : c.ends_before.result ≡ false = search rules in
    let ends = subst (λ (b : Bool). EndsBefore c.index-chunks-middle.result c.args.entry.now b) no_is c.ends_before.ensures in
    record {
      between = omega (arith, c.loop-low-test.true);
      inside = inside;
      before = c.loop-low.invariant.before;
      after = goes_left c.args.chunks.now _ c.index-chunks-middle.result inside c.index-chunks-middle.is c.args.entry.now some c.requires.order ends;
    }
