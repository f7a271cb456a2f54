use Rattle.std.proofs.Common.{map, [], ◌∷◌, refl}
use Rattle.adr_timeline.specs.Overlay.{shown_entry}
use Rattle.adr_timeline.proofs.Each.{all_made, one_made}
use Rattle.adr_timeline.proofs.overlay.add_shown.Goals as goal

pub loop-segment-preserved : goal.loop-segment-preserved
loop-segment-preserved g c =
    let rank = g.R.Ranks.rank c.args.ranks.now in
    one_made (map (shown_entry rank)) c.args.segments.now c.loop-segment.segment-index c.loop-segment.entries.items _ c.loop-segment.invariant
    c.segment-item.result (shown_entry rank c.segment-item.result ∷ []) c.push.new.self.items c.loop-segment-test.true c.segment-item.is refl
    (rw (c.rank.ensures, c.winner.ensures, c.start.ensures, c.end.ensures) at c.in_ok-push.ensures.items)

pub returns : goal.returns
returns g c = all_made (map (shown_entry (g.R.Ranks.rank c.args.ranks.now))) c.args.segments.now c.loop-segment.segment-index c.loop-segment.entries.items _ c.loop-segment.invariant c.loop-segment-test.false refl
