-- Events that go and come, and the entries that are indexed before and after.
use Rattle.std.specs.Prelude.{◌≡◌, ◌↔◌, ◌⊎◌, ◌==◌, List, [], map}
use Rattle.std.specs.List.{IsDistinct}
use Rattle.adr_value.specs.declared.payload.PayloadType.{PayloadType}
use Rattle.adr_model.specs.declared.entry.Tie.{Tie}
use Rattle.adr_model.specs.declared.written.Written.{Written}
use Rattle.adr_model.specs.Lists.{In}
use Rattle.adr_model.specs.Rank.{ranked}
use Rattle.adr_index.specs.Index.{inserted_all, others_all, AreNew}
use Rattle.adr_lines.specs.declared.grouped.TypeEntries.{TypeEntries}
use Rattle.adr_lines.specs.Grouped.{entries_under}
use Rattle.adr_lines.specs.Right.{all_of, HaveSame}
use Rattle.adr_lines.specs.declared.indexes.Indexes.{Indexes}
use Rattle.adr_lines.specs.Indexes.{under}

-- under each type there are just the entries of the events, as they are ranked
unfoldable pub IsIndexOf : Tie → List Written → Indexes → Type 0
IsIndexOf tie events indexes = (payload_type : PayloadType) → HaveSame (under indexes payload_type) (map (ranked tie) (all_of events payload_type))

-- the groups have the entries of the events, as they are ranked
abbrev pub AreEntriesOf : Tie → List Written → List TypeEntries → Type 0
AreEntriesOf tie events groups = (payload_type : PayloadType) → entries_under groups payload_type ≡ map (ranked tie) (all_of events payload_type)

-- no two have one number
abbrev pub HaveOwnNumbers : List Written → Type 0
HaveOwnNumbers events = IsDistinct (λ n m. n == m) (map (λ w. w.written) events)

-- of the old events some go, and others come, by which the new ones are made
pub record IsExchange (old new gone come : List Written) : Type 0 where
  pub made : (w : Written) → In w new ↔ ((In w old × (In w gone → ⊥)) ⊎ In w come)
  pub were : (w : Written) → In w gone → In w old
  pub unlike : (w v : Written) → In w come → In v old → w.written ≡ v.written → ⊥
  pub one : (w v : Written) → In w old → In v old → w.written ≡ v.written → w ≡ v
  pub gone_apart : HaveOwnNumbers gone
  pub come_apart : HaveOwnNumbers come

-- the entries that come can be put in where those that go are taken out
abbrev pub FitsTheIndex : Tie → Type 0
FitsTheIndex tie =
    (old new gone come : List Written) (indexes : Indexes) (leaving entering : List TypeEntries)
    → IsExchange old new gone come → IsIndexOf tie old indexes
    → AreEntriesOf tie gone leaving → AreEntriesOf tie come entering
    → (payload_type : PayloadType) → AreNew (entries_under entering payload_type) (others_all (entries_under leaving payload_type) (under indexes payload_type))

-- and then the new events are indexed
abbrev pub MakesTheIndex : Tie → Type 0
MakesTheIndex tie =
    (old new gone come : List Written) (before after : Indexes) (leaving entering : List TypeEntries)
    → IsExchange old new gone come → IsIndexOf tie old before
    → AreEntriesOf tie gone leaving → AreEntriesOf tie come entering
    → ((payload_type : PayloadType) →
    under after payload_type ≡ inserted_all (entries_under entering payload_type) (others_all (entries_under leaving payload_type) (under before payload_type)))
    → IsIndexOf tie new after

-- with the same entries the same events are indexed
abbrev pub KeepsTheIndex : Tie → Type 0
KeepsTheIndex tie =
    (events : List Written) (before after : Indexes)
    → IsIndexOf tie events before → ((payload_type : PayloadType) → under after payload_type ≡ under before payload_type) → IsIndexOf tie events after

-- what came can go again, for what went
abbrev pub IsUndone : Type 0
IsUndone = (old new gone come : List Written) → IsExchange old new gone come → IsExchange new old come gone

-- no entry of events of different numbers stands twice
abbrev pub AreApart : Tie → Type 0
AreApart tie =
    (events : List Written) (groups : List TypeEntries) → HaveOwnNumbers events → AreEntriesOf tie events groups
    → (payload_type : PayloadType) → AreNew (entries_under groups payload_type) []

-- with the entries of the groups, the events whose entries those are are indexed, in whatever order they come
abbrev pub FillsTheIndex : Tie → Type 0
FillsTheIndex tie =
    (events given : List Written) (indexes : Indexes) (groups : List TypeEntries)
    → ((w : Written) → In w given ↔ In w events) → AreEntriesOf tie given groups
    → ((payload_type : PayloadType) → HaveSame (under indexes payload_type) (entries_under groups payload_type))
    → IsIndexOf tie events indexes
