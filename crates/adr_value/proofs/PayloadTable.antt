-- The laws of the payload table: one test that the checker computes over all rows, and inductions over any rows.
use Rattle.std.proofs.Common.{◌≡◌, ℕ, zero, suc, ◌<◌, Bool, true, false, ◌&&◌, ltb, List, [], ◌∷◌, length, get_or, option_map, unwrap_or, bytes_eq, refl, sym, ◌∙◌, subst, arith}
use Rattle.std.specs.Prelude.{find, All}
use Rattle.std.specs.List.{list_all}
use Rattle.std.proofs.lemmas.Slice.Eq.{bytes_eq-Decides}
use Rattle.adr_value.specs.declared.payload.PayloadType.{PayloadType}
use Rattle.adr_value.specs.declared.payload.PayloadType.TheVariants.{Private}
use Rattle.adr_value.specs.Payload.{Row, table, code_of, name_of, RowsAgree, NamesReturn, CodesReturn, PrivateNamesDiffer}

pub rows_agree : RowsAgree
rows_agree = refl

pub codes_return : CodesReturn
codes_return (Private t) lt = absurd (omega arith)
codes_return _ lt = refl

abbrev typed : List ℕ → List Row → PayloadType
typed x rows = unwrap_or (option_map (λ (r : Row). r.case) (find (λ (r : Row). bytes_eq x r.name) rows)) (Private x)

-- the tests that the checker computes over the table
abbrev named : List Row → Bool
named rows = list_all (λ r. bytes_eq (name_of r.case) r.name) rows

abbrev public : List Row → Bool
public rows = list_all (λ r. ltb (code_of r.case) 34) rows

and_parts : (a b : Bool) → (a && b) ≡ true → (a ≡ true) × (b ≡ true)
and_parts true b e = (refl, e)
and_parts false b e = absurd cc

typed_name_at : (b : Bool) (x : List ℕ) (r : Row) (rows : List Row) → bytes_eq x r.name ≡ b → bytes_eq (name_of r.case) r.name ≡ true → name_of (typed x rows) ≡ x → name_of (typed x (r ∷ rows)) ≡ x
typed_name_at true x r rows is same later = rw is ((bytes_eq-Decides (name_of r.case) r.name).0 same ∙ sym ((bytes_eq-Decides x r.name).0 is))
typed_name_at false x r rows is same later = rw is later

typed_name : (x : List ℕ) (rows : List Row) → named rows ≡ true → name_of (typed x rows) ≡ x
typed_name x [] h = refl
typed_name x (r ∷ rows) h =
    let p = and_parts (bytes_eq (name_of r.case) r.name) (named rows) h in
    typed_name_at _ x r rows refl p.0 (typed_name x rows p.1)

pub names_return : NamesReturn
names_return x = typed_name x table refl

not_private : (p : PayloadType) (t : List ℕ) → ltb (code_of p) 34 ≡ true → p ≡ Private t → ⊥
not_private p t lt e = let h : ltb 34 34 ≡ true = subst (λ q. ltb (code_of q) 34 ≡ true) e lt in absurd cc

all_more : (x : List ℕ) (r : Row) (rows : List Row) → bytes_eq x r.name ≡ false → All (λ r. bytes_eq x r.name ≡ false) rows → (k : ℕ) (d : Row) → k < length (r ∷ rows) → bytes_eq x (get_or (r ∷ rows) k d).name ≡ false
all_more x r rows here later zero d h = here
all_more x r rows here later (suc k) d h = later k d (omega arith)

private_at : (b : Bool) (x t : List ℕ) (r : Row) (rows : List Row) → bytes_eq x r.name ≡ b → ltb (code_of r.case) 34 ≡ true → typed x (r ∷ rows) ≡ Private t → (typed x rows ≡ Private t → All (λ r. bytes_eq x r.name ≡ false) rows) → All (λ r. bytes_eq x r.name ≡ false) (r ∷ rows)
private_at true x t r rows is lt e later = absurd (not_private r.case t lt (rw is at e))
private_at false x t r rows is lt e later = all_more x r rows is (later (rw is at e))

private_name : (x t : List ℕ) (rows : List Row) → public rows ≡ true → typed x rows ≡ Private t → All (λ r. bytes_eq x r.name ≡ false) rows
private_name x t [] h e = λ k d lt. absurd (omega arith)
private_name x t (r ∷ rows) h e =
    let p = and_parts (ltb (code_of r.case) 34) (public rows) h in
    private_at _ x t r rows refl p.0 e (private_name x t rows p.1)

pub private_names_differ : PrivateNamesDiffer
private_names_differ x t e = private_name x t table refl e
