-- The indexes while an edit of an event is made, and the groups after it.
use Rattle.std.proofs.Common.{◌≡◌, ℕ, inl, inr, List, [], slice_get, Option, Some, None, refl, ap, sym, subst, ◌∙◌}
use Rattle.std.specs.Prelude.{option_to_list}
use Rattle.adr_value.specs.declared.payload.PayloadType.{PayloadType}
use Rattle.adr_object.specs.declared.party.Resource.{Resource}
use Rattle.adr_model.specs.declared.entry.Tie.{Tie}
use Rattle.adr_model.specs.declared.written.Written.{Written}
use Rattle.adr_model.specs.Book.{Book}
use Rattle.adr_model.specs.Governor.{applies_to}
use Rattle.adr_index.specs.Index.{inserted_all, others_all, AreNew}
use Rattle.adr_lines.specs.Grouped.{entries_under}
use Rattle.adr_lines.specs.declared.indexes.Indexes.{Indexes}
use Rattle.adr_lines.specs.Exchange.{AreEntriesOf, FitsTheIndex, IsIndexOf, IsUndone, MakesTheIndex}
use Rattle.adr_lines.specs.Indexes.{under}
use Rattle.adr_group.specs.Group.{RightMoves}
use Rattle.adr_schedule.specs.declared.change.Change.{Change}
use Rattle.adr_schedule.specs.declared.change.Side.{Side}
use Rattle.adr_schedule.specs.Moves.{is_among}
use Rattle.adr_schedule.specs.Seating.{Seating, AreRight, AreSeatedFor, IsShifted}
use Rattle.adr_schedule.specs.Shift.{entries_in, number_in, AreSidesOf}
use Rattle.adr_audience.specs.Keys.{AreKeysOf, Keys}
use Rattle.adr_desk.specs.Desk.{IsDesk, IsSideOf}
use Rattle.adr_desk.specs.Edited.{number_of, with_come, IsExchanged}
use Rattle.adr_desk.proofs.Shifted.{right_with, seated_then}
use Rattle.adr_desk.proofs.Sides.{entries_of_side, first_exchange, second_exchange, side_number, sides_of_events}

-- ---- the indexes

module _ (tie : Tie) (old new : Book) (gone come : Option Written) (x : IsExchanged old new gone come) where
  no_entries : AreEntriesOf tie [] []
  no_entries k = refl

  pub come_fits : FitsTheIndex tie → (indexes : Indexes) (side : Option Side) → IsIndexOf tie old.events indexes → IsSideOf tie come side
      → (k : PayloadType) → AreNew (entries_under (entries_in side) k) (under indexes k)
  come_fits fits indexes side i c =
      fits old.events (with_come old come) [] (option_to_list come) indexes [] (entries_in side) (first_exchange old new gone come x) i no_entries (entries_of_side tie come side c)

  pub come_indexed : MakesTheIndex tie → (before after : Indexes) (side : Option Side) → IsIndexOf tie old.events before → IsSideOf tie come side
      → ((k : PayloadType) → under after k ≡ inserted_all (entries_under (entries_in side) k) (under before k)) → IsIndexOf tie (with_come old come) after
  come_indexed makes before after side i c e =
      makes old.events (with_come old come) [] (option_to_list come) before after [] (entries_in side) (first_exchange old new gone come x) i no_entries (entries_of_side tie come side c) e

  pub gone_out : MakesTheIndex tie → (before after : Indexes) (side : Option Side) → IsIndexOf tie (with_come old come) before → IsSideOf tie gone side
      → ((k : PayloadType) → under after k ≡ others_all (entries_under (entries_in side) k) (under before k)) → IsIndexOf tie new.events after
  gone_out makes before after side i g e =
      makes (with_come old come) new.events (option_to_list gone) [] before after (entries_in side) [] (second_exchange old new gone come x) i (entries_of_side tie gone side g) no_entries e

  pub come_out : IsUndone → MakesTheIndex tie → (before after : Indexes) (side : Option Side) → IsIndexOf tie (with_come old come) before → IsSideOf tie come side
      → ((k : PayloadType) → under after k ≡ others_all (entries_under (entries_in side) k) (under before k)) → IsIndexOf tie old.events after
  come_out undone makes before after side i c e =
      makes (with_come old come) old.events (option_to_list come) [] before after (entries_in side) []
      (undone old.events (with_come old come) [] (option_to_list come) (first_exchange old new gone come x)) i (entries_of_side tie come side c) no_entries e

-- ---- the groups

module _ (law : (tie : Tie) → RightMoves tie) (tie : Tie) (old : Book) (gone come : Option Written) (indexes : Indexes) (change alone : Change)
    (g : IsSideOf tie gone change.gone) (c : IsSideOf tie come change.come) (a : IsSideOf tie gone alone.gone) (lone : alone.come ≡ None)
    (indexed : IsIndexOf tie (with_come old come) indexes)
    (s mid after : Seating) (joining leaving : List ℕ)
    (joins : (p : ℕ) (r : Resource) (v : Written) → slice_get old.resources p ≡ Some r → come ≡ Some v → is_among joining p ≡ applies_to old r v)
    (leaves : (p : ℕ) (r : Resource) (u : Written) → slice_get old.resources p ≡ Some r → gone ≡ Some u → is_among leaving p ≡ applies_to old r u)
    (first : IsShifted (number_in change.gone) (number_in change.come) joining s mid)
    (first_right : (tie : Tie) (events : List Written) → IsIndexOf tie events indexes → AreSidesOf tie events change → AreRight tie events s → AreRight tie events mid)
    (second : IsShifted (number_in alone.gone) (number_in alone.come) leaving mid after)
    (second_right : (tie : Tie) (events : List Written) → IsIndexOf tie events indexes → AreSidesOf tie events alone → AreRight tie events mid → AreRight tie events after) where
  pub seated_after : (new : Book) → IsExchanged old new gone come → AreSeatedFor tie old s → AreSeatedFor tie new after
  seated_after new x seated =
      seated_then tie (law tie) old new gone come x s mid after seated joining leaving
      (λ p r v at e. joins p r v at e ∙ sym (x.applies r v)) leaves
      (subst (λ n. IsShifted n (number_of come) joining s mid) (side_number tie gone change.gone g)
      (subst (λ n. IsShifted (number_in change.gone) n joining s mid) (side_number tie come change.come c) first))
      (subst (λ n. IsShifted n None leaving mid after) (side_number tie gone alone.gone a)
      (subst (λ n. IsShifted (number_in alone.gone) n leaving mid after) (ap number_in lone) second))
      (second_right tie (with_come old come) indexed alone_sides
      (first_right tie (with_come old come) indexed (sides_of_events tie old new gone come x change g c)
      (right_with tie (law tie) old new gone come x s seated)))
    where
      alone_sides : AreSidesOf tie (with_come old come) alone
      alone_sides side (inl e) w m same = sides_of_events tie old new gone come x (record { gone = alone.gone; come = change.come }) a c side (inl e) w m same
      alone_sides side (inr e) w m same = absurd (none_some side (sym lone ∙ e))
        where
          none_some : (z : Side) → None ≡ Some z → ⊥
          none_some z h = absurd (cc)

-- ---- the desk

module _ (tie : Tie) (old new : Book) (gone come : Option Written) (x : IsExchanged old new gone come) (keys : Keys) (before with after : Indexes) (s t : Seating) (desk : IsDesk tie old keys before s)
    (makes : MakesTheIndex tie) where
  -- once the entries are exchanged, and the keys follow
  pub desk_after : (change : Change) (later : Keys) → IsSideOf tie gone change.gone → IsSideOf tie come change.come
      → ((k : PayloadType) → under with k ≡ inserted_all (entries_under (entries_in change.come) k) (under before k))
      → ((k : PayloadType) → under after k ≡ others_all (entries_under (entries_in change.gone) k) (under with k))
      → AreKeysOf new later → AreSeatedFor tie new t → IsDesk tie new later after t
  desk_after change later g c put taken k seated = record {
    keys_are = k;
    indexed = gone_out tie old new gone come x makes with after change.gone (come_indexed tie old new gone come x makes before with change.come desk.indexed c put) g taken;
    seated = seated;
  }

  -- where the edit is refused they are exchanged back
  pub desk_back : IsUndone → (change : Change) → IsSideOf tie come change.come
      → ((k : PayloadType) → under with k ≡ inserted_all (entries_under (entries_in change.come) k) (under before k))
      → ((k : PayloadType) → under after k ≡ others_all (entries_under (entries_in change.come) k) (under with k))
      → IsDesk tie old keys after s
  desk_back undone change c put taken = record {
    keys_are = desk.keys_are;
    indexed = come_out tie old new gone come x undone makes with after change.come (come_indexed tie old new gone come x makes before with change.come desk.indexed c put) c taken;
    seated = desk.seated;
  }
