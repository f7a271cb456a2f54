-- The ranks of the winners that timelines show.
use Rattle.std.specs.Prelude.{ℕ, ◌^◌, pos, List, Option, Some, None}
use Rattle.std.specs.Option.{option_map_or}
use Rattle.adr_model.specs.declared.entry.Rank.{Rank}
use Rattle.adr_model.specs.declared.entry.Tie.{Tie}
use Rattle.adr_model.specs.declared.entry.Tie.TheVariants.{Newest, LatestStart}
use Rattle.adr_model.specs.declared.timeline.Winner.{Winner}
use Rattle.adr_model.specs.declared.written.Written.{Written}
use Rattle.adr_model.specs.Rank.{priority_of}
use Rattle.adr_store.specs.Numbers.{by_number}

-- the priority of the event of that number
abbrev pub priority_in : List Written → ℕ → ℕ
priority_in events written = option_map_or (λ w. priority_of w.event.priority) (by_number events written) (2 ^ 32)

-- under the rule of the newest write, the rank of the interval that is named
abbrev pub newest_rank : List Written → Winner → Rank
newest_rank events winner = record { priority = priority_in events winner.written; late = pos 0; written = winner.written; place = winner.place }

-- under the rule of the newest write alone
abbrev pub if_newest : {X : Type 0} → Tie → X → Option X
if_newest Newest x = Some x
if_newest LatestStart x = None
