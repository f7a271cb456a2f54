-- What a snapshot's timelines say, in the words of a calendar.
use Rattle.std.proofs.Common.{◌≡◌, ◌≢◌, ℕ, ℤ, Bool, true, false, cond, List, [], ◌∷◌, ◌++◌, ◌-◌, ◌<◌, zero, suc, length, Bor, Option, Some, None, is_some, inl, inr, slice_get, refl, sym, ap, ◌∙◌, arith}
use Rattle.std.specs.Prelude.{flat_map, IfSome, MatchOption, unwrap_or}
use Rattle.std.specs.Option.{option_and_then, option_copied, option_map_or}
use Rattle.std.proofs.lemmas.Bool.{false≢true}
use Rattle.adr_value.specs.Payload.{Row, table}
use Rattle.adr_value.specs.declared.payload.PayloadType.{PayloadType}
use Rattle.adr_time.specs.Spans.{covers}
use Rattle.adr_time.specs.declared.span.End.{End}
use Rattle.adr_time.specs.declared.span.End.TheVariants.{At, Endless}
use Rattle.adr_object.specs.declared.object.Edit.{Edit}
use Rattle.adr_object.specs.declared.party.Resource.{Resource}
use Rattle.adr_shared.specs.Map.{IsAscending}
use Rattle.adr_model.specs.declared.entry.Tie.{Tie}
use Rattle.adr_model.specs.declared.timeline.Segment.{Segment}
use Rattle.adr_model.specs.declared.timeline.Winner.{Winner}
use Rattle.adr_model.specs.Answer.{IsUntil}
use Rattle.adr_model.specs.Book.{Book, resource_by}
use Rattle.adr_model.specs.Governor.{governs}
use Rattle.adr_model.specs.Lists.{In}
use Rattle.adr_model.specs.Queries.{governing_types, is_governed}
use Rattle.adr_model.specs.Timeline.{shows, IsCanonical}
use Rattle.adr_model.specs.Whole.{IsWhole}
use Rattle.adr_model.proofs.Keyed.{own_key}
use Rattle.adr_calendar.specs.declared.calendar.State.{State}
use Rattle.adr_calendar.specs.Segments.{nothing, IsCalendar, IsStateAt}
use Rattle.adr_group.specs.Group.{shown_in, Lines}
use Rattle.adr_schedule.specs.Seating.{group_at, AreSeatedFor, Seating}
use Rattle.adr_schedule.specs.Slots.{in_slot}
use Rattle.adr_schedule.proofs.Governed.{no_group, place_shown}
use Rattle.adr_board.specs.Published.{last_batch}
use Rattle.adr_board.specs.Types.{private_if, type_if, HasPrivateNames, IsTypeTest}
use Rattle.adr_board.proofs.AllTypes.{all_types, governs_test, line_passes, no_line_fails, no_types, some_shown}
use Rattle.adr_board.proofs.Untils.{one_until, until_shown}

module _ (tie : Tie) (book : Book) (id : List ℕ) (kind : PayloadType) (f : ℤ → Option Winner) (alike : (u : ℤ) → f u ≡ governs tie book id kind u) where
  pub state_is : (t : ℤ) (state : State) → state.governor ≡ f t → IsUntil f t state.until → IsStateAt tie book id kind t state
  state_is t state wins changes = record {
    governed = wins ∙ alike t;
    changed = until_shown tie book id kind f t state.until alike changes;
  }

-- a type has a line just where the test holds
pub line_tells : (lines : List (List ℕ × List Segment)) (test : PayloadType → Bool) → IsTypeTest lines test → (kind : PayloadType) (o : Option (Bor (List Segment)))
    → ((t : ℤ) → option_map_or (λ l. shows l t) (option_copied o) None ≡ shown_in lines kind t)
    → IfSome o (λ l. IsCanonical l.now) → IfSome o (λ l. l.now ≢ []) → is_some o ≡ test kind
line_tells lines test is kind None shown canonical lasts = no_line_fails lines test is kind shown
line_tells lines test is kind (Some l) shown canonical lasts = line_passes lines test is kind l.now canonical lasts shown

-- ---- batches

pub batch_last : (bs : List (List Edit)) → last_batch bs ≡ unwrap_or (slice_get bs (length bs - 1)) []
batch_last [] = refl
batch_last (b ∷ []) = refl
batch_last (b ∷ (c ∷ bs)) =
    let here : length (b ∷ (c ∷ bs)) - 1 ≡ suc (length bs) = omega arith in
    let there : length (c ∷ bs) - 1 ≡ length bs = omega arith in
    batch_last (c ∷ bs)
    ∙ ap (λ n. unwrap_or (slice_get (c ∷ bs) n) []) there
    ∙ ap (λ n. unwrap_or (slice_get (b ∷ (c ∷ bs)) n) []) (sym here)

-- ---- groups

module _ (tie : Tie) (book : Book) (s : Seating) (seated : AreSeatedFor tie book s) (id : List ℕ) (place : ℕ) where
  -- the group of the resource's place shows what governs it
  group_tells : (o : Option Lines) → is_some (resource_by book id) ≡ true → slice_get book.resources place ≡ resource_by book id
      → (place < length s.seats → (g : Lines) × (group_at s place ≡ Some g)) → o ≡ group_at s place
      → (k : PayloadType) (t : ℤ) → option_map_or (λ g. shown_in g.lines k t) o None ≡ governs tie book id k t
  group_tells None there at held none k t = absurd (no_group tie book s seated id place there at held (sym none))
  group_tells (Some g) there at held some k t = place_shown tie book s seated id k t place g there at (sym some)

in_list : {X : Type 0} (xs : List X) (place : ℕ) (x : X) → slice_get xs place ≡ Some x → In x xs
in_list [] place x h = absurd (cc)
in_list (y ∷ ys) zero x h = let same : y ≡ x = cc in inl same
in_list (y ∷ ys) (suc place) x h = inr (in_list ys place x h)

-- lists of one length end at one place
none_alike : {X Y : Type 0} (xs : List X) (ys : List Y) (place : ℕ) → length ys ≡ length xs → slice_get xs place ≡ None → slice_get ys place ≡ None
none_alike [] [] zero same none = refl
none_alike [] [] (suc place) same none = refl
none_alike [] (y ∷ ys) place same none = absurd (omega (arith, same))
none_alike (x ∷ xs) [] place same none = absurd (omega (arith, same))
none_alike (x ∷ xs) (y ∷ ys) zero same none = absurd (cc)
none_alike (x ∷ xs) (y ∷ ys) (suc place) same none = none_alike xs ys place (omega (arith, same)) none

module _ (tie : Tie) (book : Book) (s : Seating) (seated : AreSeatedFor tie book s) (place : ℕ) (o : Option Lines) where
  -- so does the group of any place at which a resource stands, and elsewhere there is none
  pub group_placed : IsWhole book → o ≡ group_at s place → (place < length s.seats → (g : Lines) × (group_at s place ≡ Some g))
      → MatchOption (slice_get book.resources place) (o ≡ None) (λ (r : Resource). (k : PayloadType) (t : ℤ) → option_map_or (λ g. shown_in g.lines k t) o None ≡ governs tie book r.id k t)
  group_placed whole at held = by (slice_get book.resources place) refl
    where
      by : (q : Option Resource) → slice_get book.resources place ≡ q
          → MatchOption q (o ≡ None) (λ (r : Resource). (k : PayloadType) (t : ℤ) → option_map_or (λ g. shown_in g.lines k t) o None ≡ governs tie book r.id k t)
      by None here = at ∙ ap (λ (slot : Option ℕ). option_and_then (λ n. in_slot s.groups n) slot) (none_alike book.resources s.seats place seated.count here)
      by (Some r) here =
          let own = own_key (λ (x : Resource). x.id) book.resources whole.resource_ids r (in_list book.resources place r here) in
          group_tells tie book s seated r.id place o (ap is_some own) (here ∙ sym own) held at

-- ---- places

-- what is said of the group of a place goes on to its lines, and to what is told by them
module _ (tie : Tie) (book : Book) (kind : PayloadType) where
  abbrev IsLineOf : Option Resource → Option (List Segment) → Type 0
  IsLineOf resource line = MatchOption resource (line ≡ None) (λ (r : Resource). (t : ℤ) → option_map_or (λ l. shows l t) line None ≡ governs tie book r.id kind t)

  pub line_without_group : (none : Type 0) (resource : Option Resource)
      → MatchOption resource none (λ (r : Resource). (k : PayloadType) (t : ℤ) → None ≡ governs tie book r.id k t) → IsLineOf resource None
  line_without_group none None is = refl
  line_without_group none (Some r) is = is kind

  pub line_of_group : (g : Lines) (line : Option (List Segment)) → ((t : ℤ) → option_map_or (λ l. shows l t) line None ≡ shown_in g.lines kind t)
      → (resource : Option Resource)
      → MatchOption resource (Some g ≡ None) (λ (r : Resource). (k : PayloadType) (t : ℤ) → shown_in g.lines k t ≡ governs tie book r.id k t) → IsLineOf resource line
  line_of_group g line shown None is = absurd (cc)
  line_of_group g line shown (Some r) is = λ t. shown t ∙ is kind t

  pub state_placed : (line : Option (List Segment)) (t : ℤ) (state : State) → state.governor ≡ option_map_or (λ l. shows l t) line None
      → IsUntil (λ u. option_map_or (λ l. shows l u) line None) t state.until → (resource : Option Resource) → IsLineOf resource line
      → MatchOption resource (state ≡ nothing) (λ (r : Resource). IsStateAt tie book r.id kind t state)
  state_placed line t state wins changes None none =
      let never : (u : ℤ) → option_map_or (λ l. shows l u) line None ≡ None = λ u. ap (λ o. option_map_or (λ l. shows l u) o None) none in
      ap (λ (w : Option Winner). record { governor = w; until = state.until }) (wins ∙ never t)
      ∙ ap (λ (e : End). record { governor = None; until = e })
      (one_until (λ u. option_map_or (λ l. shows l u) line None) (λ u. None) t never state.until Endless changes (λ v le. refl))
  state_placed line t state wins changes (Some r) shown = state_is tie book r.id kind (λ u. option_map_or (λ l. shows l u) line None) shown t state wins changes

  pub segments_placed : (line : Option (List Segment)) (from to : ℤ) (timeline : List Segment) → IsCanonical timeline
      → ((t : ℤ) → shows timeline t ≡ cond (covers (record { start = from; end = At to }) t) (option_map_or (λ l. shows l t) line None) None)
      → (resource : Option Resource) → IsLineOf resource line
      → MatchOption resource (timeline ≡ []) (λ (r : Resource). IsCalendar tie book r.id kind from to timeline)
  segments_placed line from to [] canonical shown None none = refl
  segments_placed line from to (s ∷ ss) canonical shown None none =
      let (t, some) = some_shown (s ∷ ss) canonical (λ h. absurd (cc)) in
      absurd (false≢true (sym (nothing_covered (covers (record { start = from; end = At to }) t) t) ∙ ap is_some (sym (shown t)) ∙ some))
    where
      nothing_covered : (b : Bool) (t : ℤ) → is_some (cond b (option_map_or (λ l. shows l t) line None) None) ≡ false
      nothing_covered true t = ap (λ o. is_some (option_map_or (λ l. shows l t) o None)) none
      nothing_covered false t = refl
  segments_placed line from to timeline canonical shown (Some r) is = record {
    canonical = canonical;
    governed = λ t. shown t ∙ ap (λ w. cond (covers (record { start = from; end = At to }) t) w None) (is t);
  }

module _ (tie : Tie) (book : Book) where
  pub types_placed : (g : Lines) (kinds : List PayloadType)
      → ((test : PayloadType → Bool) → IsTypeTest g.lines test
      → kinds ≡ flat_map (λ (r : Row). type_if test r.case) table ++ flat_map (λ (l : List ℕ × List Segment). private_if test l.0) g.lines)
      → IsAscending g.lines → HasPrivateNames book → (resource : Option Resource)
      → MatchOption resource (Some g ≡ None) (λ (r : Resource). (k : PayloadType) (t : ℤ) → shown_in g.lines k t ≡ governs tie book r.id k t)
      → kinds ≡ option_map_or (λ (r : Resource). governing_types tie book r.id) resource []
  types_placed g kinds told ascending own None is = absurd (cc)
  types_placed g kinds told ascending own (Some r) is =
      told (is_governed tie book r.id) (governs_test tie book r.id g.lines is) ∙ all_types tie book r.id g.lines is ascending own

  pub no_types_placed : (none : Type 0) (resource : Option Resource)
      → MatchOption resource none (λ (r : Resource). (k : PayloadType) (t : ℤ) → None ≡ governs tie book r.id k t)
      → [] ≡ option_map_or (λ (r : Resource). governing_types tie book r.id) resource []
  no_types_placed none None is = refl
  no_types_placed none (Some r) is = no_types tie book r.id is
