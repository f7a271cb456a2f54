-- The private types of a resource, by the names of its lines.
use Rattle.std.proofs.Common.{◌≡◌, ℕ, ℤ, Bool, true, false, not, cond, List, [], ◌∷◌, ◌⊎◌, inl, inr, Option, Some, None, is_some, map, filter, refl, sym, ap, subst, ◌∙◌}
use Rattle.std.specs.Map.{keys_of}
use Rattle.std.specs.List.{AllByRecursion}
use Rattle.std.specs.Option.{option_map_or}
use Rattle.std.specs.Ordering.{is_eq}
use Rattle.std.proofs.lemmas.Bool.{false≢true}
use Rattle.std.proofs.lemmas.Cmp.{nat_list_cmp_total}
use Rattle.std.proofs.lemmas.List.Kept.{IsStrictlySortedBy-filter}
use Rattle.adr_value.specs.Names.{is_table_name}
use Rattle.adr_value.specs.Payload.{Row, name_of, table}
use Rattle.adr_value.specs.Same.{same_type}
use Rattle.adr_value.specs.declared.payload.PayloadType.{PayloadType}
use Rattle.adr_value.specs.declared.payload.PayloadType.TheVariants.{Private}
use Rattle.adr_shared.specs.Map.{code_cmp, lookup, IsAscending}
use Rattle.adr_shared.proofs.LookUps.{is_code, same_code}
use Rattle.adr_model.specs.declared.entry.Tie.{Tie}
use Rattle.adr_model.specs.declared.timeline.Segment.{Segment}
use Rattle.adr_model.specs.Book.{Book}
use Rattle.adr_model.specs.Governor.{governs}
use Rattle.adr_model.specs.Lists.{In}
use Rattle.adr_model.specs.Queries.{governing_types, in_order, is_governed, private_names, types_in_order}
use Rattle.adr_model.specs.Timeline.{shows}
use Rattle.adr_model.proofs.Lists.{In-append_cases, In-filter, In-from_filter, In-from_map, In_from_each, passing_in, same_bytes}
use Rattle.adr_model.proofs.QueryLaws.{types_govern_sometime}
use Rattle.adr_repair.proofs.Types.{types_that_govern_are_listed}
use Rattle.adr_board.specs.Types.{HasPrivateNames}
use Rattle.adr_board.proofs.Ordered.{In-from_in_order, in_order_sorted, sorted_same}

In-looked_up : (code : List ℕ) (lines : List (List ℕ × List Segment)) → is_some (lookup code lines) ≡ true → In code (keys_of lines)
In-looked_up code [] h = absurd (cc)
In-looked_up code (l ∷ lines) h = by (is_eq (code_cmp code l.0)) refl h (In-looked_up code lines)
  where
    by : (b : Bool) → is_eq (code_cmp code l.0) ≡ b → is_some (cond b (Some l.1) (lookup code lines)) ≡ true
        → (is_some (lookup code lines) ≡ true → In code (keys_of lines)) → (l.0 ≡ code) ⊎ In code (keys_of lines)
    by true e k rest = inl (sym (same_bytes code l.0 (sym (is_code code l.0) ∙ e)))
    by false e k rest = inr (rest k)

shown_looked_up : (o : Option (List Segment)) (t : ℤ) → is_some (option_map_or (λ line. shows line t) o None) ≡ true → is_some o ≡ true
shown_looked_up None t h = absurd (cc)
shown_looked_up (Some l) t h = refl

table_names : AllByRecursion (λ (r : Row). is_table_name (name_of r.case) ≡ true) table
table_names = (refl, (refl, (refl, (refl, (refl, (refl, (refl, (refl, (refl, (refl, (refl, (refl, (refl, (refl, (refl, (refl, (refl, (refl, (refl, (refl, (refl, (refl, (refl, (refl, (refl, (refl, (refl, (refl, (refl, (refl, (refl, (refl, (refl, (refl, tt))))))))))))))))))))))))))))))))))

table_name : (kind : PayloadType) → In kind (map (λ (r : Row). r.case) table) → is_table_name (name_of kind) ≡ true
table_name kind m =
    let (r, there, is) = In-from_map (λ (r : Row). r.case) table kind m in
    ap (λ k. is_table_name (name_of k)) (sym is) ∙ In_from_each (λ (s : Row). is_table_name (name_of s.case) ≡ true) table table_names r there

module _ (tie : Tie) (book : Book) (id : List ℕ) where
  abbrev names : List (List ℕ)
  names = in_order code_cmp (private_names book)

  abbrev governed : List ℕ → Bool
  governed name = is_governed tie book id (Private name)

  -- a private type that governs is one that an event carries
  listed_name : (name : List ℕ) → is_table_name name ≡ false → (kind : PayloadType) → In kind (types_in_order book) → name_of kind ≡ name → In name names
  listed_name name private kind m is = by (In-append_cases kind (map (λ (r : Row). r.case) table) (map Private names) m)
    where
      by : In kind (map (λ (r : Row). r.case) table) ⊎ In kind (map Private names) → In name names
      by (inl n) = absurd (false≢true (sym private ∙ ap is_table_name (sym is) ∙ table_name kind n))
      by (inr n) =
          let (other, there, same) = In-from_map Private names kind n in
          subst (λ x. In x names) (ap name_of same ∙ is) there

  carried : (name : List ℕ) → is_table_name name ≡ false → governed name ≡ true → In name names
  unfolding governing_types
  carried name private governs_some =
      let some = (types_govern_sometime tie book id (Private name)).0 governs_some in
      let among = (types_that_govern_are_listed tie book id (Private name)).1 some in
      let (kind, m, same) = passing_in (λ k. same_type k (Private name)) (governing_types tie book id) among in
      listed_name name private kind (In-from_filter (is_governed tie book id) (types_in_order book) kind m).0 (same_bytes (name_of kind) name same)

  module _ (lines : List (List ℕ × List Segment)) (shown : (k : PayloadType) (t : ℤ) → option_map_or (λ line. shows line t) (lookup (name_of k) lines) None ≡ governs tie book id k t) where
    has_line : (name : List ℕ) → governed name ≡ true → In name (keys_of lines)
    has_line name governs_some =
        let (t, some) = (types_govern_sometime tie book id (Private name)).0 governs_some in
        In-looked_up name lines (shown_looked_up (lookup name lines) t (ap is_some (shown (Private name) t) ∙ some))

    abbrev private_keys : List (List ℕ)
    private_keys = filter (λ name. not (is_table_name name)) (keys_of lines)

    -- those of them that govern are the lines that do
    pub private_lines : IsAscending lines → HasPrivateNames book → filter governed private_keys ≡ filter governed names
    private_lines ascending own =
        sorted_same code_cmp nat_list_cmp_total same_code (filter governed private_keys) (filter governed names)
        (IsStrictlySortedBy-filter code_cmp governed private_keys (IsStrictlySortedBy-filter code_cmp (λ name. not (is_table_name name)) (keys_of lines) ascending))
        (IsStrictlySortedBy-filter code_cmp governed names (in_order_sorted code_cmp nat_list_cmp_total same_code (private_names book)))
        to fro
      where
        passed : (b : Bool) → not b ≡ true → b ≡ false
        passed true h = sym h
        passed false h = refl

        to : (z : List ℕ) → In z (filter governed private_keys) → In z (filter governed names)
        to z m =
            let (n, governs_some) = In-from_filter governed private_keys z m in
            let (there, private) = In-from_filter (λ name. not (is_table_name name)) (keys_of lines) z n in
            In-filter governed names z (carried z (passed (is_table_name z) private) governs_some) governs_some

        fro : (z : List ℕ) → In z (filter governed names) → In z (filter governed private_keys)
        fro z m =
            let (n, governs_some) = In-from_filter governed names z m in
            let private = own z (In-from_in_order code_cmp nat_list_cmp_total same_code (private_names book) z n) in
            In-filter governed private_keys z (In-filter (λ name. not (is_table_name name)) (keys_of lines) z (has_line z governs_some) (ap not private)) governs_some
