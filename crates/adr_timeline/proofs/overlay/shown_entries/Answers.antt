use Rattle.adr_timeline.specs.Chunks.{listed}
use Rattle.adr_timeline.proofs.Laid.{shown_ranked}
use Rattle.adr_timeline.proofs.overlay.shown_entries.Goals as goal

pub returns-clause-in_turn : goal.returns-clause-in_turn
returns-clause-in_turn g c = (shown_ranked (g.R.Ranks.rank c.args.ranks.now) (listed c.args.chunks.now) c.new-entries.result.items c.add_chunks.new.entries.items c.requires c.new-entries.ensures.items c.in_ok-add_chunks.ensures).in_turn

pub returns-clause-count : goal.returns-clause-count
returns-clause-count g c = (shown_ranked (g.R.Ranks.rank c.args.ranks.now) (listed c.args.chunks.now) c.new-entries.result.items c.add_chunks.new.entries.items c.requires c.new-entries.ensures.items c.in_ok-add_chunks.ensures).count

pub returns-clause-ranks : goal.returns-clause-ranks
returns-clause-ranks g c = (shown_ranked (g.R.Ranks.rank c.args.ranks.now) (listed c.args.chunks.now) c.new-entries.result.items c.add_chunks.new.entries.items c.requires c.new-entries.ensures.items c.in_ok-add_chunks.ensures).ranks
