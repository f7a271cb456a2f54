use Rattle.std.proofs.Common.{◌%◌, ◌<◌, ◌||◌, length, ap, ◌∙◌, arith}
use Rattle.std.proofs.lemmas.List.{get_or_read}
use Rattle.adr_keys.specs.Places.{has, bit}
use Rattle.adr_keys.proofs.Words.{has-written, has-others, bit-read}
use Rattle.adr_keys.proofs.places.Places.add_word.Goals as goal

pub returns-then-index-len-clause-same : goal.returns-then-index-len-clause-same
returns-then-index-len-clause-same c = λ p h. has-others c.self.inside.words.items c.args.index c.either.result p h ∙ ap (λ ws. has ws p) c.self.view_is

pub returns-then-index-len-clause-added : goal.returns-then-index-len-clause-added
returns-then-index-len-clause-added c = λ p h q.
    let ws = c.self.inside.words.items in
    let within : c.args.index < length ws = omega (arith, c.len.ensures, c.if-index-len.true) in
    has-written ws c.args.index c.either.result p within q ∙ c.either.ensures (p % 64)
    ∙ ap (λ b. b || bit c.args.word (p % 64)) (bit-read ws c.args.index c.index.result.now p (get_or_read ws c.args.index c.index.result.now within c.index.ensures 0) q ∙ ap (λ xs. has xs p) c.self.view_is)
