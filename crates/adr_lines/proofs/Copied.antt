-- A map of indexes that is copied name by name.
use Rattle.std.proofs.Common.{◌≡◌, ℕ, Bool, true, false, cond, List, ◌∷◌, Option, Some, None, refl, ap, sym, subst, ◌∙◌}
use Rattle.std.proofs.lemmas.Cmp.{nat_list_eq_equiv}
use Rattle.std.proofs.lemmas.Map.{lookup-none}
use Rattle.std.proofs.lemmas.Map.Entries.{none_past_head}
use Rattle.std.proofs.lemmas.Map.Keys.{IsDistinct-tail}
use Rattle.std.proofs.lemmas.Map.Text.{is_text}
use Rattle.std.proofs.lemmas.Slice.Eq.{bytes_eq-Decides}
use Rattle.std.specs.HashMap.{HashMap, UpdatesBy}
use Rattle.std.specs.List.{IsDistinct}
use Rattle.std.specs.Map.{keys_of, lookup}
use Rattle.std.specs.Option.{option_map_or}
use Rattle.std.specs.Prelude.{String}
use Rattle.std.specs.Str.{bytes_eq}
use Rattle.std.specs.String.{string_bytes, string_eq, string_eq_equiv}
use Rattle.adr_model.specs.declared.entry.Entry.{Entry}
use Rattle.adr_model.proofs.Lists.{bytes_eq_self}
use Rattle.adr_index.specs.Index.{Indexed}
use Rattle.adr_lines.proofs.Put.{entries_at, entries_put}

-- the entries under a name, where those that are left to copy come before those that are copied
abbrev pub entries_left : {Y S : Type 0} → List (String Y × Indexed) → HashMap (String Y) Indexed S → List ℕ → List Entry
entries_left rest m id = option_map_or (λ i. i.entries) (lookup (is_text id) rest) (entries_at m id)

-- one name more is copied
module _ {Y S : Type 0} (m n : HashMap (String Y) Indexed S) (left rest : List (String Y × Indexed)) (e : String Y × Indexed) (first : left ≡ e ∷ rest)
    (apart : IsDistinct string_eq (keys_of left)) where
  parted : IsDistinct string_eq (keys_of (e ∷ rest))
  parted = subst (λ (l : List (String Y × Indexed)). IsDistinct string_eq (keys_of l)) first apart

  pub rest_apart : IsDistinct string_eq (keys_of rest)
  rest_apart = IsDistinct-tail string_eq e.0 (keys_of rest) parted

  none_again : lookup (is_text (string_bytes e.0)) rest ≡ None
  none_again = lookup-none (string_eq e.0) rest (none_past_head string_eq_equiv e.0 e rest parted (bytes_eq_self (string_bytes e.0)))

  module _ (key : String Y) (v : Indexed) (u : UpdatesBy string_eq (λ k. bytes_eq (string_bytes key) (string_bytes k)) m n (Some v))
      (named : string_bytes key ≡ string_bytes e.0) (same : v.entries ≡ e.1.entries) where
    put_here : (id : List ℕ) → entries_at n id ≡ cond (bytes_eq id (string_bytes e.0)) e.1.entries (entries_at m id)
    put_here id =
        entries_put m n (string_bytes key) v u id
        ∙ ap (λ (l : List ℕ). cond (bytes_eq l id) v.entries (entries_at m id)) named
        ∙ ap (λ (b : Bool). cond b v.entries (entries_at m id)) (nat_list_eq_equiv.symm (string_bytes e.0) id)
        ∙ ap (λ (es : List Entry). cond (bytes_eq id (string_bytes e.0)) es (entries_at m id)) same

    pub one_copied : (id : List ℕ) → entries_left rest n id ≡ entries_left left m id
    one_copied id =
        by (bytes_eq id (string_bytes e.0)) refl (put_here id)
        ∙ ap (λ (l : List (String Y × Indexed)). entries_left l m id) (sym first)
      where
        by : (b : Bool) → bytes_eq id (string_bytes e.0) ≡ b → entries_at n id ≡ cond b e.1.entries (entries_at m id)
            → entries_left rest n id ≡ option_map_or (λ i. i.entries) (cond b (Some e.1) (lookup (is_text id) rest)) (entries_at m id)
        by true t is =
            let none : lookup (is_text id) rest ≡ None = ap (λ (l : List ℕ). lookup (is_text l) rest) ((bytes_eq-Decides id (string_bytes e.0)).0 t) ∙ none_again in
            ap (λ (o : Option Indexed). option_map_or (λ i. i.entries) o (entries_at n id)) none ∙ is
        by false t is = ap (λ (es : List Entry). option_map_or (λ i. i.entries) (lookup (is_text id) rest) es) is
