-- What the groups of a seating show is what governs.
use Rattle.std.proofs.Common.{◌≡◌, ℕ, ℤ, ◌<◌, Bool, true, false, cond, List, [], ◌∷◌, map, length, Option, Some, None, is_some, slice_get, filter, flat_map, refl, ap, sym, subst, ◌∙◌}
use Rattle.std.specs.Option.{option_map, option_map_or}
use Rattle.std.proofs.lemmas.Option.{slice_get_within}
use Rattle.adr_value.specs.declared.payload.PayloadType.{PayloadType}
use Rattle.adr_time.specs.Spans.{covers}
use Rattle.adr_object.specs.declared.party.Resource.{Resource}
use Rattle.adr_model.specs.declared.entry.Entry.{Entry}
use Rattle.adr_model.specs.declared.entry.Tie.{Tie}
use Rattle.adr_model.specs.declared.written.Written.{Written}
use Rattle.adr_model.specs.Book.{Book, resource_by}
use Rattle.adr_model.specs.Governor.{applies_to, candidates, entries_for, entries_of, first_of, governs, winner_at, winner_of}
use Rattle.adr_model.specs.Rank.{ranked}
use Rattle.adr_model.proofs.Lists.{filter-same}
use Rattle.adr_lines.specs.Right.{has_number}
use Rattle.adr_group.specs.Group.{Lines, shown_in}
use Rattle.adr_schedule.specs.Seating.{group_at, Seating, AreSeatedFor}

-- an entry covers what it does however late it counts
ranked_covers : (tie : Tie) (t : ℤ) (es : List Entry) → filter (λ e. covers e.span t) (map (ranked tie) es) ≡ map (ranked tie) (filter (λ e. covers e.span t) es)
ranked_covers tie t [] = refl
ranked_covers tie t (e ∷ es) = by (covers e.span t) (ranked_covers tie t es)
  where
    by : (b : Bool) → filter (λ x. covers x.span t) (map (ranked tie) es) ≡ map (ranked tie) (filter (λ x. covers x.span t) es)
        → cond b (ranked tie e ∷ filter (λ x. covers x.span t) (map (ranked tie) es)) (filter (λ x. covers x.span t) (map (ranked tie) es))
        ≡ map (ranked tie) (cond b (e ∷ filter (λ x. covers x.span t) es) (filter (λ x. covers x.span t) es))
    by true rest = ap (λ l. ranked tie e ∷ l) rest
    by false rest = rest

governs_for : (tie : Tie) (book : Book) (id : List ℕ) (k : PayloadType) (t : ℤ) → governs tie book id k t ≡ winner_at (map (ranked tie) (entries_for book id k)) t
unfolding governs candidates
governs_for tie book id k t = ap (λ (es : List Entry). option_map winner_of (first_of es)) (sym (ranked_covers tie t (entries_for book id k)))

module _ (tie : Tie) (book : Book) (s : Seating) (seated : AreSeatedFor tie book s) (id : List ℕ) (k : PayloadType) (t : ℤ) where
  pub shown_governs : (p : ℕ) (r : Resource) (g : Lines) → resource_by book id ≡ Some r → slice_get book.resources p ≡ Some r → group_at s p ≡ Some g
      → shown_in g.lines k t ≡ governs tie book id k t
  shown_governs p r g found at here =
      seated.right p g here k t
      ∙ ap (λ (ws : List Written). winner_at (map (ranked tie) (flat_map (entries_of k) ws)) t)
      (filter-same (λ (w : Written). has_number g.writes w.written) (applies_to book r) book.events (λ w m. sym (ap (λ o. option_map_or (λ x. has_number x.writes w.written) o false) here) ∙ seated.writes p r w at m))
      ∙ ap (λ (o : Option Resource). winner_at (map (ranked tie) (option_map_or (λ x. flat_map (entries_of k) (filter (applies_to book x) book.events)) o [])) t) (sym found)
      ∙ sym (governs_for tie book id k t)

  pub none_governs : resource_by book id ≡ None → None ≡ governs tie book id k t
  none_governs none =
      ap (λ (o : Option Resource). winner_at (map (ranked tie) (option_map_or (λ x. flat_map (entries_of k) (filter (applies_to book x) book.events)) o [])) t) (sym none)
      ∙ sym (governs_for tie book id k t)

-- ---- by the place that a look-up answers

some_there : (o : Option Resource) → is_some o ≡ true → (r : Resource) × (o ≡ Some r)
some_there None h = absurd (cc)
some_there (Some r) h = (r, refl)

none_there : (o : Option Resource) → is_some o ≡ false → o ≡ None
none_there None h = refl
none_there (Some r) h = absurd (cc)

module _ (tie : Tie) (book : Book) (s : Seating) (seated : AreSeatedFor tie book s) (id : List ℕ) where
  pub no_resource : (k : PayloadType) (t : ℤ) → is_some (resource_by book id) ≡ false → None ≡ governs tie book id k t
  no_resource k t h = none_governs tie book s seated id k t (none_there (resource_by book id) h)

  pub no_group : (p : ℕ) → is_some (resource_by book id) ≡ true → slice_get book.resources p ≡ resource_by book id
      → (p < length s.seats → (g : Lines) × (group_at s p ≡ Some g)) → group_at s p ≡ None → ⊥
  no_group p there at held none =
      let r = some_there (resource_by book id) there in
      let inside : p < length s.seats = subst (λ n. p < n) (sym seated.count) (slice_get_within book.resources p r.0 (at ∙ r.1)) in
      let g = held inside in
      apart g.0 (sym none ∙ g.1)
    where
      apart : (g : Lines) → None ≡ Some g → ⊥
      apart g h = absurd (cc)

  pub place_shown : (k : PayloadType) (t : ℤ) (p : ℕ) (g : Lines) → is_some (resource_by book id) ≡ true → slice_get book.resources p ≡ resource_by book id → group_at s p ≡ Some g
      → shown_in g.lines k t ≡ governs tie book id k t
  place_shown k t p g there at here = let r = some_there (resource_by book id) there in shown_governs tie book s seated id k t p r.0 g r.1 (at ∙ r.1) here
