-- The chunks of an index.
use Rattle.std.specs.Prelude.{◌≡◌, ℕ, ℤ, ◌-◌, ◌<◌, ◌≤◌, Bool, false, ⊤, List, [], ◌∷◌, length, slice_index_or, sum_by, Option, Some, None, vec_capacity}
use Rattle.std.specs.List.{AllByRecursion, flat_map}
use Rattle.adr_model.specs.declared.entry.Entry.{Entry}
use Rattle.adr_model.specs.Entries.{is_listed_before}
use Rattle.adr_index.specs.declared.chunk.EntryChunk.{EntryChunk}
use Rattle.adr_index.specs.Index.{IsOrdered}
use Rattle.adr_index.specs.Tree.{HasEnds, IsGreatest}

-- the entries of a chunk
abbrev pub listed : EntryChunk → List Entry
listed c = c.entries.items

-- and of one that may be there
abbrev pub listed_too : Option EntryChunk → List Entry
listed_too None = []
listed_too (Some c) = listed c

-- the entries of all of them
abbrev pub all_listed : List EntryChunk → List Entry
all_listed cs = flat_map listed cs

-- how many entries they have beyond 32 each
abbrev pub crowd : List EntryChunk → ℕ
crowd cs = sum_by (λ c. length (listed c) - 32) cs

-- its room is taken at once, for one more than it keeps
pub record IsRoomy (c : EntryChunk) : Type 0 where
  pub room : 64 < vec_capacity c.entries
  pub nodes : 64 ≤ length c.greatest.items

-- the last of the entries starts then
abbrev pub StartsLast : ℤ → List Entry → Type 0
StartsLast t es = (d : Entry) → (slice_index_or es (length es - 1) d).span.start ≡ t

-- some entries, at most 64, in order of their ends or with the tree of these
pub record IsChunk (c : EntryChunk) : Type 0 where
  pub roomy : IsRoomy c
  pub some : 0 < length (listed c)
  pub few : length (listed c) ≤ 64
  pub ends : HasEnds c.is_by_end (listed c) c.greatest.items
  pub end : IsGreatest c.end (listed c)
  pub last : StartsLast c.last (listed c)

-- the entries stay, and the chunk's ends and last start are theirs
pub record IsSettled (old new : EntryChunk) : Type 0 where
  pub entries : new.entries ≡ old.entries
  pub nodes : length new.greatest.items ≡ length old.greatest.items
  pub ends : HasEnds new.is_by_end (listed new) new.greatest.items
  pub end : IsGreatest new.end (listed new)
  pub last : 0 < length (listed new) → StartsLast new.last (listed new)

-- room for a chunk
abbrev pub IsPooled : EntryChunk → Type 0
IsPooled c = IsRoomy c × (listed c ≡ [])

abbrev pub AreChunks : List EntryChunk → Type 0
AreChunks cs = AllByRecursion IsChunk cs

abbrev pub ArePooled : List EntryChunk → Type 0
ArePooled cs = AllByRecursion IsPooled cs

-- whether the last entry of the chunk comes before the entry
abbrev pub EndsBefore : EntryChunk → Entry → Bool → Type 0
EndsBefore c e answer = (d : Entry) → is_listed_before (slice_index_or (listed c) (length (listed c) - 1) d) e ≡ answer

-- the entries are in order, and those behind the first do not come behind the chunk's last entry, and so belong to the chunk too, if the first does
abbrev pub GoTogether : EntryChunk → List Entry → Type 0
GoTogether c [] = ⊤
GoTogether c (e ∷ es) = IsOrdered (e ∷ es) × AllByRecursion (λ f. EndsBefore c f false) es
