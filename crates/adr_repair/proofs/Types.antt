-- The types that govern are those that are listed.
use Rattle.std.proofs.Common.{◌≡◌, ℕ, zero, suc, Bool, true, false, ◌||◌, cond, List, [], ◌∷◌, map, filter, flat_map, filter_map, Some, is_some, refl, ap, sym, subst, ◌∙◌, inl, inr, ◌⊎◌}
use Rattle.std.specs.Prelude.{slice_get}
use Rattle.std.specs.List.{list_any, enumerate_from, zip}
use Rattle.std.specs.Bool.{then_some}
use Rattle.std.specs.Option.{option_map, option_map_or}
use Rattle.std.specs.Result.{result_unwrap_or}
use Rattle.std.specs.Str.{bytes_eq}
use Rattle.std.specs.Ordering.{is_eq, is_lt, nat_cmp}
use Rattle.std.specs.declared.cmp.Ordering.{Ordering}
use Rattle.std.specs.Cmp.Lexicographic.{slice_cmp}
use Rattle.std.proofs.lemmas.Slice.Eq.{bytes_eq-Decides}
use Rattle.std.proofs.lemmas.Map.Text.{is_eq-slice_cmp}
use Rattle.adr_value.specs.Payload.{name_of, table}
use Rattle.adr_value.specs.Same.{same_type}
use Rattle.adr_value.specs.declared.payload.PayloadType.{PayloadType}
use Rattle.adr_value.specs.declared.payload.PayloadType.TheVariants.{Private}
use Rattle.adr_time.specs.Spans.{covers}
use Rattle.adr_object.specs.declared.event.Interval.{Interval}
use Rattle.adr_object.specs.declared.event.Payload.{Payload}
use Rattle.adr_model.specs.declared.entry.Entry.{Entry}
use Rattle.adr_model.specs.declared.entry.Tie.{Tie}
use Rattle.adr_model.specs.declared.written.Written.{Written}
use Rattle.adr_model.specs.Layout.{layout}
use Rattle.adr_model.specs.Rank.{ranked}
use Rattle.adr_model.specs.Book.{Book, resource_by}
use Rattle.adr_model.specs.Governor.{applies_to, candidates, entries_for, entry_at, first_of, governs, winner_of}
use Rattle.adr_model.specs.Queries.{governing_types, in_order, is_governed, private_name, private_names, put_in_order, types_in_order}
use Rattle.adr_model.proofs.QueryLaws.{types_govern_sometime}
use Rattle.adr_repair.specs.Answers.{TypesThatGovernAreListed}
use Rattle.adr_model.specs.Lists.{In}
use Rattle.adr_model.proofs.Lists.{In-append_left, In-append_right, In-filter, In-flat_map, In-from_filter, In-map, passing_in, same_bytes}
use Rattle.adr_repair.proofs.Shown.{event_of_entry, placed}

-- ---- a type is no more than its name

-- the entries of the types of a name
abbrev entries_named : Book → List ℕ → List ℕ → List Entry
entries_named book id name =
    option_map_or
    (λ resource. flat_map
    (λ w. filter_map
    (λ p. then_some (list_any (λ q. bytes_eq (name_of q.kind) name) p.1.0.payloads) (entry_at w p.0 p.1.1))
    (enumerate_from 0 (zip w.event.intervals (result_unwrap_or (layout w.event) []))))
    (filter (applies_to book resource) book.events))
    (resource_by book id) []

-- and whether one of them governs at the start of some entry
abbrev name_governs : Tie → Book → List ℕ → List ℕ → Bool
name_governs tie book id name =
    list_any
    (λ e. is_some (option_map winner_of (first_of (map (ranked tie) (filter (λ f. covers f.span e.span.start) (entries_named book id name))))))
    (entries_named book id name)

by_name : (tie : Tie) (book : Book) (id : List ℕ) (kind : PayloadType) → is_governed tie book id kind ≡ name_governs tie book id (name_of kind)
unfolding governs candidates
by_name tie book id kind = refl

same_governed : (tie : Tie) (book : Book) (id : List ℕ) (a b : PayloadType) → name_of a ≡ name_of b → is_governed tie book id a ≡ is_governed tie book id b
same_governed tie book id a b e = by_name tie book id a ∙ ap (name_governs tie book id) e ∙ sym (by_name tie book id b)

-- ---- every type that an event carries is among the types in order

module _ {X : Type 0} where
  any_from_In : (p : X → Bool) (xs : List X) (x : X) → In x xs → p x ≡ true → list_any p xs ≡ true
  any_from_In p [] x m h = absurd m
  any_from_In p (y ∷ ys) x (inl e) h = let t : p y ≡ true = ap p e ∙ h in rw t refl
  any_from_In p (y ∷ ys) x (inr m) h = by (p y) (any_from_In p ys x m h)
    where
      by : (b : Bool) → list_any p ys ≡ true → (b || list_any p ys) ≡ true
      by true rest = refl
      by false rest = rest

  In-slice_get : (xs : List X) (i : ℕ) (x : X) → slice_get xs i ≡ Some x → In x xs
  In-slice_get [] i x h = absurd (cc)
  In-slice_get (y ∷ ys) zero x h = let e : y ≡ x = cc in inl e
  In-slice_get (y ∷ ys) (suc i) x h = inr (In-slice_get ys i x h)

  -- of an order in which the equal are the same, what is put in order is all there
  module _ (cmp : X → X → Ordering) (same : (x y : X) → is_eq (cmp x y) ≡ true → x ≡ y) where
    In-put : (x : X) (ys : List X) (z : X) → In z (x ∷ ys) → In z (put_in_order cmp x ys)
    In-put x [] z m = m
    In-put x (y ∷ ys) z m = by (is_lt (cmp x y)) (is_eq (cmp x y)) refl (In-put x ys z)
      where
        swapped : In z (x ∷ y ∷ ys) → (y ≡ z) ⊎ In z (x ∷ ys)
        swapped (inl e) = inr (inl e)
        swapped (inr (inl e)) = inl e
        swapped (inr (inr n)) = inr (inr n)

        met : x ≡ y → In z (x ∷ y ∷ ys) → In z (y ∷ ys)
        met s (inl e) = inl (sym s ∙ e)
        met s (inr n) = n

        further : (In z (x ∷ ys) → In z (put_in_order cmp x ys)) → (y ≡ z) ⊎ In z (x ∷ ys) → In z (y ∷ put_in_order cmp x ys)
        further rest (inl e) = inl e
        further rest (inr n) = inr (rest n)

        by : (c d : Bool) → is_eq (cmp x y) ≡ d → (In z (x ∷ ys) → In z (put_in_order cmp x ys))
            → In z (cond c (x ∷ y ∷ ys) (cond d (y ∷ ys) (y ∷ put_in_order cmp x ys)))
        by true d e rest = m
        by false true e rest = met (same x y e) m
        by false false e rest = further rest (swapped m)

    In-in_order : (xs : List X) (z : X) → In z xs → In z (in_order cmp xs)
    In-in_order [] z m = absurd m
    In-in_order (x ∷ xs) z (inl e) = In-put x (in_order cmp xs) z (inl e)
    In-in_order (x ∷ xs) z (inr m) = In-put x (in_order cmp xs) z (inr (In-in_order xs z m))

abbrev table_types : List PayloadType
table_types = map (λ r. r.case) table

in_table_or_private : (kind : PayloadType) → (list_any (λ k. same_type k kind) table_types ≡ true) ⊎ ((name : List ℕ) × (Private name ≡ kind))
in_table_or_private (Private name) = inr (name, refl)
in_table_or_private _ = inl refl

-- a type that an interval of an event of the book carries, under its name
abbrev IsAmong : List PayloadType → PayloadType → Type 0
IsAmong kinds kind = (k : PayloadType) × In k kinds × (name_of k ≡ name_of kind)

carried_among : (book : Book) (w : Written) (i : Interval) (p : Payload) → In w book.events → In i w.event.intervals → In p i.payloads → IsAmong (types_in_order book) p.kind
carried_among book w i p there placed paid = by (in_table_or_private p.kind)
  where
    private_ones : List PayloadType
    private_ones = map Private (in_order (slice_cmp nat_cmp) (private_names book))

    by : (list_any (λ k. same_type k p.kind) table_types ≡ true) ⊎ ((name : List ℕ) × (Private name ≡ p.kind)) → IsAmong (types_in_order book) p.kind
    by (inl listed) =
        let (k, m, same) = passing_in (λ k. same_type k p.kind) table_types listed in
        (k, In-append_left k table_types private_ones m, same_bytes (name_of k) (name_of p.kind) same)
    by (inr (name, is)) =
        let named : In name (private_name p.kind) = subst (λ k. In name (private_name k)) is (inl refl) in
        let paid_for = In-flat_map (λ (q : Payload). private_name q.kind) i.payloads p name paid named in
        let held = In-flat_map (λ (j : Interval). flat_map (λ (q : Payload). private_name q.kind) j.payloads) w.event.intervals i name placed paid_for in
        let among = In-flat_map (λ (v : Written). flat_map (λ (j : Interval). flat_map (λ (q : Payload). private_name q.kind) j.payloads) v.event.intervals) book.events w name there held in
        let ordered = In-in_order (slice_cmp nat_cmp) (λ x y e. same_bytes x y (sym (is_eq-slice_cmp x y) ∙ e)) (private_names book) name among in
        (Private name, In-append_right (Private name) table_types private_ones (In-map Private (in_order (slice_cmp nat_cmp) (private_names book)) name ordered), ap name_of is)

-- a type that has an entry is among them
entry_among : (book : Book) (id : List ℕ) (kind : PayloadType) (x : Entry) → In x (entries_for book id kind) → IsAmong (types_in_order book) kind
entry_among book id kind x m =
    let (w, there, here) = event_of_entry book id kind x m in
    let (i, at, carried) = placed kind w x here in
    let (p, paid, same) = passing_in (λ (q : Payload). same_type q.kind kind) i.payloads carried in
    let (k, among, named) = carried_among book w i p there (In-slice_get w.event.intervals x.rank.place i at) paid in
    (k, among, named ∙ same_bytes (name_of p.kind) (name_of kind) same)

-- ---- the law

listed_governs : (tie : Tie) (book : Book) (id : List ℕ) (kind : PayloadType) → list_any (λ k. same_type k kind) (governing_types tie book id) ≡ true → is_governed tie book id kind ≡ true
unfolding governing_types
listed_governs tie book id kind h =
    let (k, m, same) = passing_in (λ k. same_type k kind) (governing_types tie book id) h in
    let governed = (In-from_filter (is_governed tie book id) (types_in_order book) k m).1 in
    same_governed tie book id kind k (sym (same_bytes (name_of k) (name_of kind) same)) ∙ governed

governs_listed : (tie : Tie) (book : Book) (id : List ℕ) (kind : PayloadType) → is_governed tie book id kind ≡ true → list_any (λ k. same_type k kind) (governing_types tie book id) ≡ true
unfolding governing_types
governs_listed tie book id kind h =
    let (x, m, starts) = passing_in (λ (e : Entry). is_some (governs tie book id kind e.span.start)) (entries_for book id kind) h in
    let (k, among, named) = entry_among book id kind x m in
    any_from_In (λ j. same_type j kind) (governing_types tie book id) k
    (In-filter (is_governed tie book id) (types_in_order book) k among (same_governed tie book id k kind named ∙ h))
    (let same : bytes_eq (name_of k) (name_of kind) ≡ true = (bytes_eq-Decides (name_of k) (name_of kind)).1 named in same)

pub types_that_govern_are_listed : TypesThatGovernAreListed
types_that_govern_are_listed tie book id kind =
    let sometime = types_govern_sometime tie book id kind in
    (λ h. sometime.0 (listed_governs tie book id kind h), λ h. governs_listed tie book id kind (sometime.1 h))
