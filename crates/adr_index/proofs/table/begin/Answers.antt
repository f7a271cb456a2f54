use Rattle.std.proofs.Common.{rules, ◌≡◌, ◌<◌, length, true, subst, Bool}
use Rattle.adr_index.specs.Chunks.{EndsBefore}
use Rattle.adr_index.proofs.Placed.{chunk_at, goes_right}
use Rattle.adr_index.proofs.table.begin.Goals as goal

pub returns-then-ends_before-clause-before : goal.returns-then-ends_before-clause-before
returns-then-ends_before-clause-before c =
    let inside : c.args.near < length c.args.chunks.now = search rules in
    let some = (chunk_at c.args.chunks.now c.args.near c.index-chunks-near.result c.requires.chunks inside c.index-chunks-near.is).some in
    let yes_is : c.ends_before.result ≡ true = search rules in
    let ends = subst (λ (b : Bool). EndsBefore c.index-chunks-near.result c.args.entry.now b) yes_is c.ends_before.ensures in
    goes_right c.args.chunks.now c.args.near c.index-chunks-near.result inside c.index-chunks-near.is c.args.entry.now some c.requires.order ends
