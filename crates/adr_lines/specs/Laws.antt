-- Why it is enough to repair timelines where their entries differ, and to look at the entries of all events.
use Rattle.std.specs.Prelude.{◌≡◌, ◌↔◌, ℕ, ℤ, true, List, map}
use Rattle.adr_value.specs.declared.payload.PayloadType.{PayloadType}
use Rattle.adr_model.specs.declared.entry.Entry.{Entry}
use Rattle.adr_model.specs.declared.entry.Tie.{Tie}
use Rattle.adr_model.specs.declared.written.Written.{Written}
use Rattle.adr_model.specs.Governor.{entries_of, winner_at}
use Rattle.adr_model.specs.Lists.{In}
use Rattle.adr_model.specs.Rank.{ranked}
use Rattle.adr_lines.specs.Grouped.{any_covers_at}
use Rattle.adr_lines.specs.Right.{all_of, among, has_number, winner_under, written_in, HaveSame}

-- the writes agree on each event with an entry of the type that covers the instant: it is one of the first list and
-- writes just where it is one of the second
abbrev pub AgreeAt : List Written → List Written → List ℕ → List ℕ → PayloadType → ℤ → Type 0
AgreeAt old new writes others payload_type t =
    (w : Written) → any_covers_at (entries_of payload_type w) t ≡ true
    → (In w old × (has_number writes w.written ≡ true)) ↔ (In w new × (has_number others w.written ≡ true))

-- then the same wins among them
abbrev pub SameWins : Tie → Type 0
SameWins tie =
    (old new : List Written) (writes others : List ℕ) (payload_type : PayloadType) (t : ℤ)
    → AgreeAt old new writes others payload_type t
    → winner_under tie (among old writes payload_type) t ≡ winner_under tie (among new others payload_type) t

-- whoever holds the ranked entries of the events, in any order and however often, finds the winner by taking those
-- of the writes
abbrev pub HeldWins : Tie → Type 0
HeldWins tie =
    (events : List Written) (payload_type : PayloadType) (entries : List Entry) (writes : List ℕ) (t : ℤ)
    → HaveSame entries (map (ranked tie) (all_of events payload_type))
    → winner_at (written_in writes entries) t ≡ winner_under tie (among events writes payload_type) t
