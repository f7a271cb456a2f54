-- The types that govern, from the ranked entries; the table by its codes.
use Rattle.std.proofs.Common.{append_assoc, ◌≡◌, ℕ, Bool, true, false, ◌||◌, cond, List, [], ◌∷◌, ◌++◌, take, map, filter, slice_get, refl, sym, ap, ◌∙◌, arith}
use Rattle.std.specs.Prelude.{⊤, Option, Some, None, find, is_some}
use Rattle.std.specs.Cmp.Lexicographic.{slice_cmp}
use Rattle.std.specs.List.{flat_map, list_any}
use Rattle.std.specs.Option.{option_map, option_map_or}
use Rattle.std.specs.Ordering.{nat_cmp}
use Rattle.adr_value.specs.Payload.{Row, table}
use Rattle.adr_value.specs.declared.payload.PayloadType.{PayloadType}
use Rattle.adr_value.specs.declared.payload.PayloadType.TheVariants.{Private}
use Rattle.adr_model.specs.declared.entry.Entry.{Entry}
use Rattle.adr_model.specs.declared.entry.Tie.{Tie}
use Rattle.adr_model.specs.declared.timeline.Winner.{Winner}
use Rattle.std.specs.Prelude.{ℤ}
use Rattle.adr_model.specs.Book.{Book}
use Rattle.adr_model.specs.Governor.{entries_for, ranked_entries, winner_at}
use Rattle.adr_model.specs.Queries.{governing_types, in_order, is_governed, private_names, types_in_order}
use Rattle.adr_model.specs.Rank.{ranked}
use Rattle.adr_model.proofs.Ranked.{governs_winners}
use Rattle.adr_plain.specs.Scan.{type_if_governed}

any-ranked : (tie : Tie) (p : ℤ → Bool) (es : List Entry) → list_any (λ e. p e.span.start) (map (ranked tie) es) ≡ list_any (λ e. p e.span.start) es
any-ranked tie p [] = refl
any-ranked tie p (e ∷ es) = ap (λ b. p e.span.start || b) (any-ranked tie p es)

-- a type governs where something wins at the start of one of its ranked entries
pub won_is_governed : (tie : Tie) (book : Book) (id : List ℕ) (kind : PayloadType)
    → list_any (λ e. is_some (winner_at (ranked_entries tie book id kind) e.span.start)) (ranked_entries tie book id kind) ≡ is_governed tie book id kind
won_is_governed tie book id kind =
    any-ranked tie (λ t. is_some (winner_at (ranked_entries tie book id kind) t)) (entries_for book id kind)
    ∙ ap (λ (g : ℤ → Option Winner). list_any (λ (e : Entry). is_some (g e.span.start)) (entries_for book id kind)) (sym (governs_winners tie book id kind))

types_of_cases : {X : Type 0} (f : PayloadType → List X) (rows : List Row) (rest : List PayloadType)
    → flat_map f (map (λ (r : Row). r.case) rows ++ rest) ≡ flat_map (λ (r : Row). f r.case) rows ++ flat_map f rest
types_of_cases f [] rest = refl
types_of_cases f (r ∷ rows) rest =
    ap (λ found. f r.case ++ found) (types_of_cases f rows rest)
    ∙ sym (append_assoc (f r.case) (flat_map (λ (s : Row). f s.case) rows) (flat_map f rest))

types_of_names : {X : Type 0} (f : PayloadType → List X) (names : List (List ℕ)) → flat_map f (map Private names) ≡ flat_map (λ name. f (Private name)) names
types_of_names f [] = refl
types_of_names f (name ∷ names) = ap (λ found. f (Private name) ++ found) (types_of_names f names)

-- what passes a test, one by one
filter_by_one : {X : Type 0} (p : X → Bool) (xs : List X) → flat_map (λ x. cond (p x) (x ∷ []) []) xs ≡ filter p xs
filter_by_one p [] = refl
filter_by_one p (x ∷ xs) = by (p x) (filter_by_one p xs)
  where
    by : (b : Bool) → flat_map (λ y. cond (p y) (y ∷ []) []) xs ≡ filter p xs
        → cond b (x ∷ []) [] ++ flat_map (λ y. cond (p y) (y ∷ []) []) xs ≡ cond b (x ∷ filter p xs) (filter p xs)
    by true rest = ap (λ ys. x ∷ ys) rest
    by false rest = rest

-- the table's types and then the private ones are all types that govern
all_types : (tie : Tie) (book : Book) (id : List ℕ)
    → flat_map (λ (r : Row). type_if_governed tie book id r.case) table
    ++ flat_map (λ name. type_if_governed tie book id (Private name)) (in_order (slice_cmp nat_cmp) (private_names book))
    ≡ governing_types tie book id
unfolding governing_types
all_types tie book id =
    let names = in_order (slice_cmp nat_cmp) (private_names book) in
    ap (λ found. flat_map (λ (r : Row). type_if_governed tie book id r.case) table ++ found) (sym (types_of_names (type_if_governed tie book id) names))
    ∙ sym (types_of_cases (type_if_governed tie book id) table (map Private names))
    ∙ filter_by_one (is_governed tie book id) (types_in_order book)

pub types_added : (tie : Tie) (book : Book) (id : List ℕ) (names : List (List ℕ)) (start middle end : List PayloadType)
    → names ≡ in_order (slice_cmp nat_cmp) (private_names book)
    → middle ≡ start ++ flat_map (λ (r : Row). type_if_governed tie book id r.case) table
    → end ≡ middle ++ flat_map (λ name. type_if_governed tie book id (Private name)) names
    → end ≡ start ++ governing_types tie book id
types_added tie book id names start middle end ordered first then =
    then
    ∙ ap (λ (ns : List (List ℕ)). middle ++ flat_map (λ name. type_if_governed tie book id (Private name)) ns) ordered
    ∙ ap (λ found. found ++ flat_map (λ name. type_if_governed tie book id (Private name)) (in_order (slice_cmp nat_cmp) (private_names book))) first
    ∙ append_assoc start (flat_map (λ (r : Row). type_if_governed tie book id r.case) table) (flat_map (λ name. type_if_governed tie book id (Private name)) (in_order (slice_cmp nat_cmp) (private_names book)))
    ∙ ap (λ found. start ++ found) (all_types tie book id)
