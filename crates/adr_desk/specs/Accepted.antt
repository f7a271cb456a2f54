-- An accepted edit that is made to a desk.
use Rattle.std.specs.Prelude.{◌≡◌, Ok}
use Rattle.adr_model.specs.Edits.{step}
use Rattle.adr_model.specs.Whole.{IsWhole}
use Rattle.adr_audience.specs.Keys.{Keys}
use Rattle.adr_book.specs.Judged.{placed_by}
use Rattle.adr_lines.specs.declared.indexes.Indexes.{Indexes}
use Rattle.adr_schedule.specs.declared.change.Change.{Change}
use Rattle.adr_desk.specs.declared.accepted.Accepted.{Accepted}
use Rattle.adr_desk.specs.Desk.{IsDesk, IsSideOf}
use Rattle.adr_desk.specs.Edited.{come_of, gone_of, HaveOneId, IsExchanged}

-- the edit makes the new book of the old one, whose keys, indexes and groups these are
pub record IsAccepted (a : Accepted) (keys : Keys) (indexes : Indexes) : Type 0 where
  pub made : step a.old.now.objects a.edit.now ≡ Ok a.new.now.objects
  pub layout : a.layout.now ≡ placed_by a.edit.now
  pub desk : IsDesk a.tie a.old.now.objects keys indexes a.schedule.now

-- the edit makes the new book of the old one: the event that goes and the one that comes are the change's, and a meter has
-- room for the repairs
pub record IsChangeBy (a : Accepted) (change : Change) : Type 0 where
  pub whole : IsWhole a.old.now.objects
  pub whole_after : IsWhole a.new.now.objects
  pub made : step a.old.now.objects a.edit.now ≡ Ok a.new.now.objects
  pub exchange : IsExchanged a.old.now.objects a.new.now.objects (gone_of a.old.now.objects a.edit.now) (come_of a.old.now.objects a.edit.now)
  pub one_id : HaveOneId a.old.now.objects a.new.now.objects (gone_of a.old.now.objects a.edit.now) (come_of a.old.now.objects a.edit.now)
  pub gone : IsSideOf a.tie (gone_of a.old.now.objects a.edit.now) change.gone
  pub come : IsSideOf a.tie (come_of a.old.now.objects a.edit.now) change.come
