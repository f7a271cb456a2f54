use Rattle.std.proofs.Common.{◌<◌, ◌+◌, ◌&&◌, ◌||◌, false, eqb, ltb, leb, length, ap, sym, ◌∙◌, arith}
use Rattle.std.proofs.lemmas.List.{get_or_read}
use Rattle.adr_keys.specs.Blocks.{covers, is_set, includes, has_block}
use Rattle.adr_keys.proofs.Covered.{includes-read, has_block-read, any-put}
use Rattle.adr_keys.proofs.blocks.Blocks.put.Goals as goal

pub returns-clause-places : goal.returns-clause-places
returns-clause-places c = λ p.
    let bs = c.self.inside.blocks.items in
    let i = c.in-Some.index in
    let x = c.index.result.now in
    let within : i < length bs = omega (arith, c.in-Some.ensures.0, ap length c.self.view_is) in
    includes-read _ p ∙ any-put (is_set p) (eqb p c.args.place) bs i x c.with.result within (get_or_read bs i x within c.index.ensures x) (c.with.ensures.places p)
    ∙ ap (λ v. eqb p c.args.place || v) (sym (includes-read bs p) ∙ ap (λ xs. includes xs p) c.self.view_is)

pub returns-clause-room : goal.returns-clause-room
returns-clause-room c = λ p.
    let bs = c.self.inside.blocks.items in
    let i = c.in-Some.index in
    let x = c.index.result.now in
    let within : i < length bs = omega (arith, c.in-Some.ensures.0, ap length c.self.view_is) in
    has_block-read _ p ∙ any-put (covers p) false bs i x c.with.result within (get_or_read bs i x within c.index.ensures x) (ap (λ s. leb s p && ltb p (s + 64)) c.with.ensures.start)
    ∙ sym (has_block-read bs p) ∙ ap (λ xs. has_block xs p) c.self.view_is
