-- The chunks of an index with their pool.
use Rattle.std.specs.Prelude.{◌≡◌, ◌⊎◌, ℕ, ◌+◌, ◌-◌, ◌*◌, ◌^◌, ◌<◌, ◌≤◌, true, List, [], ◌∷◌, Option, length, vec_capacity, slice_set}
use Rattle.std.specs.List.{list_any}
use Rattle.adr_model.specs.declared.entry.Entry.{Entry}
use Rattle.adr_index.specs.declared.table.EntryTable.{EntryTable}
use Rattle.adr_time.specs.declared.span.End.{End}
use Rattle.adr_index.specs.declared.chunk.EntryChunk.{EntryChunk}
use Rattle.adr_index.specs.Chunks.{all_listed, crowd, listed, AreChunks, ArePooled}
use Rattle.adr_index.specs.Tree.{IsTree, IsTreeBut}
use Rattle.adr_index.specs.Index.{is_entry, others, IsOrdered}

-- how many chunks of the pool are there to part others, where the first entry has one of its own
abbrev pub ready : List EntryChunk → List EntryChunk → ℕ
ready [] pool = length pool - 1
ready (c ∷ cs) pool = length pool

-- so many entries are sure of their room: each has a chunk that is ready, or those that are ready are parted off by no fewer
abbrev pub IsSure : ℕ → List EntryChunk → List EntryChunk → Type 0
IsSure n cs pool = (n ≤ ready cs pool) ⊎ (n + crowd cs ≤ 32 * ready cs pool)

-- so many entries were added: no chunk is lost, and each took one that was ready at most, and one of the 32 entries that it takes to part off another
pub record Spends (n : ℕ) (cs pool ds rest : List EntryChunk) : Type 0 where
  pub sum : length ds + length rest ≤ length cs + length pool
  pub one : ready cs pool ≤ ready ds rest + n
  pub many : 32 * ready cs pool + crowd ds ≤ 32 * ready ds rest + crowd cs + n

-- chunks in order, and their pool
pub record IsTable (t : EntryTable) : Type 0 where
  pub chunks : AreChunks t.chunks.items
  pub order : IsOrdered (all_listed t.chunks.items)
  pub pool : ArePooled t.pool.items
  pub count : t.count ≡ length (all_listed t.chunks.items)
  pub sure : IsSure t.spare t.chunks.items t.pool.items
  pub bound : t.count + t.spare < 2 ^ 64
  pub room : length t.chunks.items + length t.pool.items ≤ vec_capacity t.chunks
  pub kept : length t.chunks.items + length t.pool.items ≤ vec_capacity t.pool

-- an entry of that written number and place, which is one of the entries, so that there are fewer without it
pub record IsFound (written place : ℕ) (e : Entry) (es : List Entry) : Type 0 where
  pub named : is_entry written place e ≡ true
  pub any : list_any (is_entry written place) es ≡ true
  pub fewer : length (others e es) < length es

-- the tree of greatest ends over the chunks
pub record HasTops (cs : List EntryChunk) (gs : List (Option End)) : Type 0 where
  pub levels : ℕ
  pub enough : length cs ≤ 2 ^ levels
  pub tree : IsTree listed 6 levels cs gs

-- one chunk stands in the place of another
pub record IsChangedAt (place : ℕ) (old new : List EntryChunk) : Type 0 where
  pub inside : place < length old
  pub chunk : EntryChunk
  pub is : new ≡ slice_set old place chunk

-- the tree over the chunks but for what it has of those from a place up to another
abbrev pub HasTopsBut : ℕ → ℕ → List EntryChunk → List (Option End) → Type 0
HasTopsBut from to cs gs = (levels : ℕ) → IsTreeBut listed 6 levels from to cs gs

-- chunks in order, with the tree of their ends
pub record IsIndex (t : EntryTable) (gs : List (Option End)) : Type 0 where
  pub table : IsTable t
  pub enough : length t.chunks.items + length t.pool.items ≤ length gs
  pub tops : HasTops t.chunks.items gs
