-- The payload types of which something governs, put together from those of the table and the private lines.
use Rattle.std.proofs.Common.{◌≡◌, ℕ, ℤ, Bool, true, false, not, cond, List, [], ◌∷◌, ◌++◌, Some, None, IsTrue, is_some, map, filter, refl, sym, ap, ◌∙◌, arith, ◌&&◌, find}
use Rattle.std.specs.Prelude.{int_le, ◌≢◌, flat_map}
use Rattle.std.specs.Map.{keys_of}
use Rattle.std.specs.Option.{option_map}
use Rattle.std.proofs.lemmas.Bool.{false≢true}
use Rattle.std.proofs.lemmas.Int.{ints}
use Rattle.adr_value.specs.Names.{is_table_name}
use Rattle.adr_value.specs.Payload.{Row, table}
use Rattle.adr_value.specs.declared.payload.PayloadType.{PayloadType}
use Rattle.adr_value.specs.declared.payload.PayloadType.TheVariants.{Private}
use Rattle.adr_shared.specs.Map.{code_cmp, IsAscending}
use Rattle.adr_model.specs.declared.entry.Tie.{Tie}
use Rattle.adr_model.specs.declared.timeline.Segment.{Segment}
use Rattle.adr_model.specs.Book.{Book}
use Rattle.adr_model.specs.Governor.{governs}
use Rattle.adr_model.specs.Queries.{governing_types, in_order, is_governed, private_names, types_in_order}
use Rattle.adr_model.specs.Timeline.{shows, span_of, IsCanonical}
use Rattle.adr_model.proofs.Lists.{filter_drops_all}
use Rattle.adr_model.proofs.QueryLaws.{types_govern_sometime}
use Rattle.adr_time.specs.Spans.{covers, is_before}
use Rattle.adr_time.specs.declared.span.End.{End}
use Rattle.adr_group.specs.Group.{shown_in}
use Rattle.adr_board.specs.Types.{private_if, type_if, HasPrivateNames, IsTypeTest}
use Rattle.adr_board.proofs.Listed.{private_lines}

-- ---- what a line shows at some instant

starts_covered : (a : ℤ) (e : End) → is_before a e ≡ true → (int_le a a && is_before a e) ≡ true
starts_covered a e h = let here : int_le a a ≡ true = grind (arith, ints) in ap (λ b. b && is_before a e) here ∙ h

-- a canonical timeline that is not empty shows something where it starts
pub some_shown : (line : List Segment) → IsCanonical line → line ≢ [] → (t : ℤ) × IsTrue (is_some (shows line t))
some_shown [] c lasts = absurd (lasts refl)
some_shown (s ∷ rest) c lasts =
    let lasts_from : is_before s.start s.end ≡ true = c.0 0 s (omega arith) in
    let covered : covers (span_of s) s.start ≡ true = starts_covered s.start s.end lasts_from in
    (s.start, ap (λ b. is_some (option_map (λ (x : Segment). x.winner) (cond b (Some s) (find (λ (x : Segment). covers (span_of x) s.start) rest)))) covered)

-- ---- the types

module _ (lines : List (List ℕ × List Segment)) (test : PayloadType → Bool) (is : IsTypeTest lines test) (kind : PayloadType) where
  -- a line that is there passes
  pub line_passes : (line : List Segment) → IsCanonical line → line ≢ [] → ((t : ℤ) → shows line t ≡ shown_in lines kind t) → true ≡ test kind
  line_passes line canonical lasts alike =
      let (t, some) = some_shown line canonical lasts in
      sym ((is kind).1 (t, ap is_some (sym (alike t)) ∙ some))

  -- and one that isn't does not
  pub no_line_fails : ((t : ℤ) → None ≡ shown_in lines kind t) → false ≡ test kind
  no_line_fails alike = by (test kind) refl
    where
      by : (b : Bool) → test kind ≡ b → false ≡ b
      by false e = refl
      by true e = let (t, some) = (is kind).0 e in absurd (false≢true (ap is_some (alike t) ∙ some))

module _ (tie : Tie) (book : Book) (id : List ℕ) where
  pub governs_test : (lines : List (List ℕ × List Segment)) → ((k : PayloadType) (t : ℤ) → shown_in lines k t ≡ governs tie book id k t) → IsTypeTest lines (is_governed tie book id)
  governs_test lines right kind =
      let sometime = types_govern_sometime tie book id kind in
      (λ h. let (t, some) = sometime.0 h in (t, ap is_some (right kind t) ∙ some), λ h. let (t, some) = h in sometime.1 (t, ap is_some (sym (right kind t)) ∙ some))

  -- where nothing governs no type is listed
  pub no_types : ((k : PayloadType) (t : ℤ) → None ≡ governs tie book id k t) → [] ≡ governing_types tie book id
  unfolding governing_types
  no_types none = sym (filter_drops_all (is_governed tie book id) (types_in_order book) (λ k m. fails k (is_governed tie book id k) refl))
    where
      fails : (k : PayloadType) (b : Bool) → is_governed tie book id k ≡ b → is_governed tie book id k ≡ false
      fails k false e = e
      fails k true e = let (t, some) = (types_govern_sometime tie book id k).0 e in absurd (false≢true (ap is_some (none k t) ∙ some))

-- ---- the list

filter_cases : (test : PayloadType → Bool) (rows : List Row) (rest : List PayloadType)
    → filter test (map (λ (r : Row). r.case) rows ++ rest) ≡ flat_map (λ (r : Row). type_if test r.case) rows ++ filter test rest
filter_cases test [] rest = refl
filter_cases test (r ∷ rows) rest = by (test r.case) (filter_cases test rows rest)
  where
    by : (b : Bool) → filter test (map (λ (s : Row). s.case) rows ++ rest) ≡ flat_map (λ (s : Row). type_if test s.case) rows ++ filter test rest
        → cond b (r.case ∷ filter test (map (λ (s : Row). s.case) rows ++ rest)) (filter test (map (λ (s : Row). s.case) rows ++ rest))
        ≡ cond b (r.case ∷ []) [] ++ flat_map (λ (s : Row). type_if test s.case) rows ++ filter test rest
    by true h = ap (λ ks. r.case ∷ ks) h
    by false h = h

filter_names : (test : PayloadType → Bool) (names : List (List ℕ)) → filter test (map Private names) ≡ map Private (filter (λ name. test (Private name)) names)
filter_names test [] = refl
filter_names test (n ∷ names) = by (test (Private n)) (filter_names test names)
  where
    by : (b : Bool) → filter test (map Private names) ≡ map Private (filter (λ name. test (Private name)) names)
        → cond b (Private n ∷ filter test (map Private names)) (filter test (map Private names))
        ≡ map Private (cond b (n ∷ filter (λ name. test (Private name)) names) (filter (λ name. test (Private name)) names))
    by true h = ap (λ ks. Private n ∷ ks) h
    by false h = h

line_names : (test : PayloadType → Bool) (lines : List (List ℕ × List Segment))
    → flat_map (λ (l : List ℕ × List Segment). private_if test l.0) lines
    ≡ map Private (filter (λ name. test (Private name)) (filter (λ name. not (is_table_name name)) (keys_of lines)))
line_names test [] = refl
line_names test (l ∷ lines) = by (is_table_name l.0) (line_names test lines)
  where
    others : List (List ℕ)
    others = filter (λ name. not (is_table_name name)) (keys_of lines)

    found : List PayloadType
    found = flat_map (λ (k : List ℕ × List Segment). private_if test k.0) lines

    kept : (d : Bool) → found ≡ map Private (filter (λ name. test (Private name)) others)
        → cond d (Private l.0 ∷ []) [] ++ found
        ≡ map Private (cond d (l.0 ∷ filter (λ name. test (Private name)) others) (filter (λ name. test (Private name)) others))
    kept true h = ap (λ ks. Private l.0 ∷ ks) h
    kept false h = h

    by : (b : Bool) → found ≡ map Private (filter (λ name. test (Private name)) others)
        → cond b [] (type_if test (Private l.0)) ++ found ≡ map Private (filter (λ name. test (Private name)) (cond (not b) (l.0 ∷ others) others))
    by true h = h
    by false h = kept (test (Private l.0)) h

-- those of the table and those of the lines are the types that govern
pub all_types : (tie : Tie) (book : Book) (id : List ℕ) (lines : List (List ℕ × List Segment))
    → ((k : PayloadType) (t : ℤ) → shown_in lines k t ≡ governs tie book id k t) → IsAscending lines → HasPrivateNames book
    → flat_map (λ (r : Row). type_if (is_governed tie book id) r.case) table
    ++ flat_map (λ (l : List ℕ × List Segment). private_if (is_governed tie book id) l.0) lines
    ≡ governing_types tie book id
unfolding governing_types
all_types tie book id lines right ascending own =
    let test : PayloadType → Bool = is_governed tie book id in
    let names : List (List ℕ) = in_order code_cmp (private_names book) in
    ap (λ ks. flat_map (λ (r : Row). type_if test r.case) table ++ ks)
    (line_names test lines ∙ ap (map Private) (private_lines tie book id lines right ascending own) ∙ sym (filter_names test names))
    ∙ sym (filter_cases test table (map Private names))
