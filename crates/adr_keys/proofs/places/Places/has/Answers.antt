use Rattle.std.proofs.Common.{◌≤◌, ◌<◌, ◌/◌, length, ap, sym, refl, ◌∙◌, arith}
use Rattle.std.proofs.lemmas.List.{get_or_read}
use Rattle.adr_keys.proofs.Words.{bit-read, has-past}
use Rattle.adr_keys.specs.Places.{has}
use Rattle.adr_keys.proofs.places.Places.has.Goals as goal

pub returns-then-index-len : goal.returns-then-index-len
returns-then-index-len c =
    let ws = c.self.inside.words.items in
    let h : c.args.place / 64 < length ws = omega (arith, c.len.ensures, c.if-index-len.true) in
    c.has_bit.ensures ∙ bit-read ws (c.args.place / 64) c.index.result.now c.args.place (get_or_read ws (c.args.place / 64) c.index.result.now h c.index.ensures 0) refl ∙ ap (λ us. has us c.args.place) c.self.view_is

pub returns-else-index-len : goal.returns-else-index-len
returns-else-index-len c =
    let ws = c.self.inside.words.items in
    let h : length ws ≤ c.args.place / 64 = omega (arith, c.len.ensures, c.if-index-len.false) in
    sym (has-past ws c.args.place h) ∙ ap (λ us. has us c.args.place) c.self.view_is
