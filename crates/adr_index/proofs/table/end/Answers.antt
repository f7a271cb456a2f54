use Rattle.std.proofs.Common.{rules, ◌≡◌, ◌+◌, ◌<◌, length, false, subst, Bool, arith}
use Rattle.adr_index.specs.Chunks.{EndsBefore}
use Rattle.adr_index.proofs.Placed.{chunk_at, goes_left}
use Rattle.adr_index.proofs.table.end.Goals as goal

pub returns-then-not-ends_before-clause-after : goal.returns-then-not-ends_before-clause-after
returns-then-not-ends_before-clause-after c =
    let some = (chunk_at c.args.chunks.now c.args.low c.index-chunks-low.result c.requires.chunks c.requires.low c.index-chunks-low.is).some in
    let no_is : c.ends_before.result ≡ false = search rules in
    let ends = subst (λ (b : Bool). EndsBefore c.index-chunks-low.result c.args.entry.now b) no_is c.ends_before.ensures in
    goes_left c.args.chunks.now c.args.low c.index-chunks-low.result c.requires.low c.index-chunks-low.is c.args.entry.now some c.requires.order ends

pub returns-then-not-ends_before-2-clause-after : goal.returns-then-not-ends_before-2-clause-after
returns-then-not-ends_before-2-clause-after c =
    let inside : c.args.low + 16 < length c.args.chunks.now = omega (arith, c.if-chunks-low-gt-NEXT.true) in
    let x = c.index-chunks-low-then-chunks-low-gt-NEXT.result in
    let some = (chunk_at c.args.chunks.now (c.args.low + 16) x c.requires.chunks inside c.index-chunks-low-then-chunks-low-gt-NEXT.is).some in
    let no_is : c.ends_before-then-chunks-low-gt-NEXT.result ≡ false = search rules in
    let ends = subst (λ (b : Bool). EndsBefore x c.args.entry.now b) no_is c.ends_before-then-chunks-low-gt-NEXT.ensures in
    goes_left c.args.chunks.now (c.args.low + 16) x inside c.index-chunks-low-then-chunks-low-gt-NEXT.is c.args.entry.now some c.requires.order ends
