-- The table of payload types, walked by its codes.
use Rattle.std.proofs.Common.{append_assoc, ◌≡◌, ℕ, zero, suc, ◌+◌, ◌==◌, true, false, cond, List, [], ◌∷◌, ◌++◌, take, slice_get, refl, sym, ap, ◌∙◌, arith}
use Rattle.std.specs.Prelude.{⊤, Option, Some, None, find}
use Rattle.std.specs.List.{flat_map}
use Rattle.std.specs.Option.{option_map, option_map_or}
use Rattle.adr_value.specs.Payload.{Row, of_code, table}
use Rattle.adr_value.specs.declared.payload.PayloadType.{PayloadType}
use Rattle.adr_calendar.proofs.Walked.{one_more}

-- rows that are numbered from a number on
abbrev IsNumbered : ℕ → List Row → Type 0
IsNumbered k [] = ⊤
IsNumbered k (r ∷ rows) = (k ≡ r.code) × IsNumbered (k + 1) rows

table_is_numbered : IsNumbered 0 table
table_is_numbered = (refl, (refl, (refl, (refl, (refl, (refl, (refl, (refl, (refl, (refl, (refl, (refl, (refl, (refl, (refl, (refl, (refl, (refl, (refl, (refl, (refl, (refl, (refl, (refl, (refl, (refl, (refl, (refl, (refl, (refl, (refl, (refl, (refl, (refl, tt))))))))))))))))))))))))))))))))))

row_by_code : (rows : List Row) (k n : ℕ) → IsNumbered k rows → find (λ (r : Row). (k + n) == r.code) rows ≡ slice_get rows n
row_by_code [] k n h = refl
row_by_code (r ∷ rows) k zero h =
    let here : ((k + 0) == r.code) ≡ true = let same = h.0 in grind (arith) in
    ap (λ b. cond b (Some r) (find (λ (s : Row). (k + 0) == s.code) rows)) here
row_by_code (r ∷ rows) k (suc n) h =
    let other : ((k + suc n) == r.code) ≡ false = let same = h.0 in grind (arith) in
    let next : k + suc n ≡ k + 1 + n = omega (arith) in
    ap (λ b. cond b (Some r) (find (λ (s : Row). (k + suc n) == s.code) rows)) other
    ∙ ap (λ m. find (λ (s : Row). m == s.code) rows) next
    ∙ row_by_code rows (k + 1) n h.1

row_of_code : (n : ℕ) → find (λ (r : Row). n == r.code) table ≡ slice_get table n
row_of_code n =
    let same : n ≡ 0 + n = omega (arith) in
    ap (λ m. find (λ (r : Row). m == r.code) table) same ∙ row_by_code table 0 n table_is_numbered

type_by_code : {X : Type 0} (f : PayloadType → List X) (o : Option Row) → option_map_or f (option_map (λ (r : Row). r.case) o) [] ≡ option_map_or (λ (r : Row). f r.case) o []
type_by_code f (Some r) = refl
type_by_code f None = refl

-- one code more of the table
pub one_more_of_table : {X : Type 0} (f : PayloadType → List X) (n : ℕ)
    → flat_map (λ (r : Row). f r.case) (take (n + 1) table)
    ≡ flat_map (λ (r : Row). f r.case) (take n table) ++ option_map_or f (of_code n) []
one_more_of_table f n =
    one_more (λ (r : Row). f r.case) table n
    ∙ ap (λ found. flat_map (λ (r : Row). f r.case) (take n table) ++ found)
    (sym (type_by_code f (slice_get table n)) ∙ ap (λ (o : Option Row). option_map_or f (option_map (λ (r : Row). r.case) o) []) (sym (row_of_code n)))

pub table_walked_on : {X : Type 0} (f : PayloadType → List X) (start before later : List X) (n : ℕ)
    → before ≡ start ++ flat_map (λ (r : Row). f r.case) (take n table) → later ≡ before ++ option_map_or f (of_code n) []
    → later ≡ start ++ flat_map (λ (r : Row). f r.case) (take (n + 1) table)
table_walked_on f start before later n so_far grown =
    grown
    ∙ ap (λ found. found ++ option_map_or f (of_code n) []) so_far
    ∙ append_assoc start (flat_map (λ (r : Row). f r.case) (take n table)) (option_map_or f (of_code n) [])
    ∙ ap (λ found. start ++ found) (sym (one_more_of_table f n))
