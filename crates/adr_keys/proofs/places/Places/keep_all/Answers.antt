use Rattle.std.proofs.Common.{◌≡◌, ◌<◌, ◌%◌, ◌&&◌, length, get_or, ap, sym, ◌∙◌, arith}
use Rattle.std.proofs.lemmas.List.{get_or_read, get_or_past, length-set}
use Rattle.adr_keys.specs.Places.{has, bit}
use Rattle.adr_keys.proofs.Words.{so_far-next, so_far-all, so_far-old, bit-read, has-past}
use Rattle.adr_keys.proofs.places.Places.keep_all.Goals.{then-index-len, else-index-len}
use Rattle.adr_keys.proofs.places.Places.keep_all.Goals as goal

pub loop-index-preserved : goal.loop-index-preserved
loop-index-preserved c =
    let us = c.args.self.now in
    let ws = c.loop-index.self-inside.words.items in
    let os = c.other.inside.words.items in
    let i = c.loop-index.index in
    let w = c.index-in-loop-index.result.now in
    let v : length c.self.inside.words.items ≡ length us = ap length c.self.view_is in
    let within : i < length ws = omega (arith, c.loop-index.invariant.len, c.len-index-end.ensures, v) in
    let n : c.if-index-len.word ≡ get_or os i 0 = elim c.if-index-len.branch [
      | then-index-len b ↦ b.word-is ∙ get_or_read os i b.index.result.now (omega (arith, b.if-index-len.true, c.len.ensures)) b.index.ensures 0
      | else-index-len b ↦ b.word-is ∙ sym (get_or_past os i 0 (omega (arith, b.if-index-len.false, c.len.ensures)))
    ] in
    record {
      len = length-set ws i c.both.result ∙ c.loop-index.invariant.len;
      places = so_far-next ws i c.both.result (λ q. has us q && has c.args.other.now q) (has us) within c.loop-index.invariant.places
          (λ p q. c.both.ensures (p % 64)
          ∙ ap (λ b. b && bit c.if-index-len.word (p % 64)) (so_far-old ws i w (λ q. has us q && has c.args.other.now q) (has us) c.loop-index.invariant.places (get_or_read ws i w within c.index-in-loop-index.ensures 0) p q)
          ∙ ap (λ b. has us p && b) (bit-read os i c.if-index-len.word p n q ∙ ap (λ xs. has xs p) c.other.view_is));
    }

pub returns-clause-places : goal.returns-clause-places
returns-clause-places c = λ p.
    so_far-all c.loop-index.self-inside.words.items c.loop-index.index (λ q. has c.args.self.now q && has c.args.other.now q) (has c.args.self.now) c.loop-index.invariant.places
    (λ q h. let v : length c.self.inside.words.items ≡ length c.args.self.now = ap length c.self.view_is in
    let e = has-past c.args.self.now q (omega (arith, c.len-index-end.ensures, v)) in
    e ∙ sym (ap (λ b. b && has c.args.other.now q) e)) p
