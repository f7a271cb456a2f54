-- An accepted edit that is made to a desk, and what tells the writes of places.
use Rattle.std.specs.Prelude.{◌≡◌, Ok}
use Rattle.adr_model.specs.Edits.{step}
use Rattle.adr_audience.specs.Keys.{AreKeysOf}
use Rattle.adr_lines.specs.Exchange.{IsIndexOf}
use Rattle.adr_schedule.specs.Seating.{AreSeatedFor}
use Rattle.adr_regroup.specs.declared.basis.Basis.{Basis}
use Rattle.adr_regroup.specs.declared.edited.Edited.{Edited}
use Rattle.adr_regroup.specs.Party.{KeepsEvents}

-- the edit makes the new book of the old one, whose keys, indexes and groups these are
pub record IsEdited (e : Edited) : Type 0 where
  pub accepted : step e.old.now.objects e.edit.now ≡ Ok e.new.now.objects
  pub keys : AreKeysOf e.old.now.objects e.keys.now
  pub indexed : IsIndexOf e.tie e.old.now.objects.events e.indexes.now
  pub seated : AreSeatedFor e.tie e.old.now.objects e.schedule.now

-- the keys are those of the old book, which has the events and programs of the new one, and the indexes those of the events
pub record IsBasis (b : Basis) : Type 0 where
  pub keys : AreKeysOf b.old.now.objects b.keys.now
  pub kept : KeepsEvents b.old.now.objects b.new.now.objects
  pub indexed : IsIndexOf b.tie b.new.now.objects.events b.indexes.now
