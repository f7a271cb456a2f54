-- What is said of the resource at a place, where a look-up by its id answered the place.
use Rattle.std.proofs.Common.{◌≡◌, ℕ, ℤ, true, cond, List, [], ◌++◌, Option, Some, None, inl, slice_get, refl, sym, ap, subst, ◌∙◌}
use Rattle.std.specs.Prelude.{codes, flat_map, int_lt, is_some, Result, Ok, Err, IfOk, MatchOption}
use Rattle.std.specs.Option.{option_map_or}
use Rattle.adr_refusal.specs.Answer.{Answers, OnlyNoMemory, result_map}
use Rattle.adr_refusal.specs.declared.refusal.Refusal.{Refusal}
use Rattle.adr_refusal.specs.declared.refusal.Refusal.TheVariants.{BadWindow, UnknownResource}
use Rattle.adr_value.specs.Payload.{name_of}
use Rattle.adr_value.specs.declared.payload.PayloadType.{PayloadType}
use Rattle.adr_object.specs.declared.party.Resource.{Resource}
use Rattle.adr_model.specs.declared.entry.Tie.{Tie}
use Rattle.adr_model.specs.declared.timeline.Segment.{Segment}
use Rattle.adr_model.specs.Answer.{until}
use Rattle.adr_model.specs.Book.{Book, resource_by}
use Rattle.adr_model.specs.Governor.{governs}
use Rattle.adr_model.specs.Queries.{governing_types, in_lines, list, list_text, type_text, types, types_text}
use Rattle.adr_model.specs.Timeline.{CanonicalIsUnique}
use Rattle.adr_model.proofs.Keyed.{found}
use Rattle.adr_calendar.specs.declared.calendar.State.{State}
use Rattle.adr_calendar.specs.Governed.{state_at}
use Rattle.adr_calendar.specs.Segments.{line_of_segment, nothing, types_of, IsCalendar, IsCalendarOf, IsStateAt, IsStateOf}
use Rattle.adr_calendar.proofs.Segments.{timeline_told}
use Rattle.adr_calendar.proofs.States.{state_told_whole}

-- bytes that are those of the definition, or no memory
pub bytes_answered : {T : Type 0} (bytes : T → List ℕ) (r : Result T Refusal) (definition : Result (List ℕ) Refusal)
    → IfOk r (λ v. definition ≡ Ok (bytes v)) → OnlyNoMemory r → Answers (result_map bytes r) definition
bytes_answered bytes (Ok v) definition ok memory = ok
bytes_answered bytes (Err refusal) definition ok memory = inl memory

module _ (book : Book) (id : List ℕ) (place : ℕ) (there : is_some (resource_by book id) ≡ true) (at : slice_get book.resources place ≡ resource_by book id) where
  -- the resource there is the one with the id
  of_its_id : (none : Type 0) (P : List ℕ → Type 0) → MatchOption (slice_get book.resources place) none (λ (r : Resource). P r.id) → P id
  of_its_id none P said = by (resource_by book id) refl there at
    where
      by : (o : Option Resource) → resource_by book id ≡ o → is_some o ≡ true → slice_get book.resources place ≡ o → P id
      by None f some here = absurd (cc)
      by (Some r) f some here =
          subst P (found (λ (x : Resource). x.id) id book.resources r f).1 (subst (λ (o : Option Resource). MatchOption o none (λ (x : Resource). P x.id)) here said)

  types_of_its_id : (tie : Tie) → types_of tie book place ≡ governing_types tie book id
  types_of_its_id tie = by (resource_by book id) refl there at
    where
      by : (o : Option Resource) → resource_by book id ≡ o → is_some o ≡ true → slice_get book.resources place ≡ o → types_of tie book place ≡ governing_types tie book id
      by None f some here = absurd (cc)
      by (Some r) f some here =
          ap (λ (o : Option Resource). option_map_or (λ (x : Resource). governing_types tie book x.id) o []) here
          ∙ ap (λ i. governing_types tie book i) (found (λ (x : Resource). x.id) id book.resources r f).1

  -- so its state is that of the id
  pub state_answered : (tie : Tie) (kind : PayloadType) (t : ℤ) (result : Result State Refusal)
      → IfOk result (λ s. IsStateOf tie book place kind t s) → OnlyNoMemory result
      → Answers result (state_at tie book id kind t)
  state_answered tie kind t (Ok s) is memory =
      ap (λ b. cond b (Ok (record { governor = governs tie book id kind t; until = until tie book id kind t })) (Err UnknownResource)) there
      ∙ ap Ok (sym (state_told_whole tie book id kind t s (of_its_id (s ≡ nothing) (λ i. IsStateAt tie book i kind t s) is)))
  state_answered tie kind t (Err refusal) is memory = inl memory

  -- and its lines are
  pub list_answered : (tie : Tie) (kind : PayloadType) (from to : ℤ) (segments : List Segment) (bytes : List ℕ)
      → IsCalendarOf tie book place kind from to segments → CanonicalIsUnique → int_lt from to ≡ true
      → bytes ≡ in_lines book (flat_map (line_of_segment book kind to) segments) → list tie book id kind from to ≡ Ok bytes
  unfolding list
  list_answered tie kind from to segments bytes is unique less told =
      ap (λ b. cond b (cond (is_some (resource_by book id)) (Ok (list_text tie book id kind from to)) (Err UnknownResource)) (Err BadWindow)) less
      ∙ ap (λ b. cond b (Ok (list_text tie book id kind from to)) (Err UnknownResource)) there
      ∙ ap Ok (ap (in_lines book) (sym (timeline_told tie book id kind from to unique segments (of_its_id (segments ≡ []) (λ i. IsCalendar tie book i kind from to segments) is))) ∙ sym told)

  pub types_answered : (tie : Tie) (kinds : List PayloadType) (bytes : List ℕ)
      → kinds ≡ types_of tie book place → bytes ≡ in_lines book (flat_map (λ kind. type_text (name_of kind) ++ codes "\n") kinds) → types tie book id ≡ Ok bytes
  unfolding types
  types_answered tie kinds bytes is told =
      ap (λ b. cond b (Ok (types_text tie book id)) (Err UnknownResource)) there
      ∙ ap Ok (ap (λ (ks : List PayloadType). in_lines book (flat_map (λ kind. type_text (name_of kind) ++ codes "\n") ks)) (sym (is ∙ types_of_its_id tie)) ∙ sym told)
