use Rattle.std.proofs.Common.{◌≡◌, refl, rules}
use mir.Syntax.{w16}
use mir.Val.{to_z, of_z}
use Rattle.adr_value.specs.Packed.{word_of, high_of, low_of, word_again}
use Rattle.adr_timeline.specs.Packed.{end_of}
use Rattle.adr_timeline.proofs.packed.PackedSegment.of.Goals as goal

pub returns : goal.returns
returns c =
    let high : to_z w16 (of_z w16 c.high_of.result) ≡ high_of c.args.segment.now.start = search rules in
    let low : c.low_of.result ≡ low_of c.args.segment.now.start = search rules in
    let end_high : to_z w16 (of_z w16 c.high_of-2.result) ≡ high_of c.number_of-end.result = search rules in
    let end_low : c.low_of-2.result ≡ low_of c.number_of-end.result = search rules in
    let end : end_of (word_of (to_z w16 (of_z w16 c.high_of-2.result)) c.low_of-2.result) ≡ c.args.segment.now.end = rw (end_high, end_low, word_again c.number_of-end.result) c.number_of-end.ensures.end in
    rw (high, low, word_again c.args.segment.now.start, end) refl
