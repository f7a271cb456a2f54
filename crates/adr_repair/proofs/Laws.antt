-- The laws of local repair, from what a step keeps.
use Rattle.std.proofs.Common.{◌≡◌, ℕ, ℤ, true, false, List, map, ap, sym, subst, inl, inr, ◌⊎◌, Contains}
use Rattle.std.specs.Option.{option_map}
use Rattle.std.proofs.lemmas.Bool.{cases_Bool}
use Rattle.adr_value.specs.declared.payload.PayloadType.{PayloadType}
use Rattle.adr_model.specs.declared.entry.Entry.{Entry}
use Rattle.adr_model.specs.declared.entry.Tie.{Tie}
use Rattle.adr_model.specs.Rank.{ranked}
use Rattle.adr_model.specs.Book.{Book}
use Rattle.adr_model.specs.Governor.{candidates, governs, first_of, winner_of, Disturbed}
use Rattle.adr_repair.specs.Laws.{AtEachEdit, CandidatesStay, GovernorStays, WindowsAreDisturbed}
use Rattle.adr_repair.specs.Windows.{is_touched}
use Rattle.adr_repair.proofs.Outside.{same_candidates}
use Rattle.adr_repair.proofs.Inside.{disturbed}
use Rattle.adr_model.proofs.Steps.{step_sound, step_succeeds}

pub candidates_stay : AtEachEdit CandidatesStay
candidates_stay l full old new edit w e id kind t h =
    same_candidates old new id kind t w.sound.ids (step_sound l full old new edit w.sound e).ids (step_succeeds l full old new edit w.sound e) h

-- the same candidates, the same governor
same_governor : (tie : Tie) (old new : Book) (id : List ℕ) (kind : PayloadType) (t : ℤ) → candidates old id kind t ≡ candidates new id kind t → governs tie old id kind t ≡ governs tie new id kind t
unfolding governs
same_governor tie old new id kind t e = ap (λ (l : List Entry). option_map winner_of (first_of (map (ranked tie) l))) e

pub governor_stays : (tie : Tie) → AtEachEdit (GovernorStays tie)
governor_stays tie l full old new edit w e id kind t h = same_governor tie old new id kind t (candidates_stay l full old new edit w e id kind t h)

-- the same candidates are the same set
undisturbed : (old new : Book) (id : List ℕ) (kind : PayloadType) (t : ℤ) → candidates old id kind t ≡ candidates new id kind t → Disturbed old new id kind t → ⊥
undisturbed old new id kind t e d =
    d (λ rank. let same = λ (l : List Entry). Contains (map (λ x. x.rank) l) rank in (λ c. subst same e c, λ c. subst same (sym e) c))

pub windows_are_disturbed : AtEachEdit WindowsAreDisturbed
windows_are_disturbed l full old new edit w e id kind t = (
  disturbed old new id kind t w.sound.ids (step_sound l full old new edit w.sound e).ids (step_succeeds l full old new edit w.sound e),
  λ d. by d (cases_Bool (is_touched old new id kind t)),
)
  where
    by : Disturbed old new id kind t → (is_touched old new id kind t ≡ true) ⊎ (is_touched old new id kind t ≡ false) → is_touched old new id kind t ≡ true
    by d (inl h) = h
    by d (inr h) = absurd (undisturbed old new id kind t (candidates_stay l full old new edit w e id kind t h) d)
