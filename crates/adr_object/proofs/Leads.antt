-- The order of ids, from their leads.
use Rattle.std.proofs.Common.{◌≡◌, ℕ, ◌<◌, ◌&&◌, nat_le, length, IsTrue, Bool, true, false, List, [], ◌∷◌, refl, ap, ◌∙◌, subst, arith}
use Rattle.std.specs.declared.cmp.Ordering.TheVariants.{Less, Greater}
use Rattle.std.specs.Ordering.{nat_cmp, ordering_reverse}
use Rattle.std.specs.Cmp.Lexicographic.{slice_cmp, nat_list_cmp_total}
use Rattle.std.specs.List.{list_all}
use Rattle.adr_shared.specs.Lead.{lead_of_text, AreBytes, LeadsFollowTexts}
use Rattle.adr_object.specs.Id.{is_id_byte, is_id}

first : (p q : Bool) → (p && q) ≡ true → p ≡ true
first true q h = refl
first false q h = absurd (cc)

second : (p q : Bool) → (p && q) ≡ true → q ≡ true
second true q h = h
second false q h = absurd (cc)

is_byte : (b : ℕ) → is_id_byte b ≡ true → b < 256
is_byte b h = grind (arith, h)

are_bytes : (text : List ℕ) → list_all is_id_byte text ≡ true → AreBytes text
are_bytes [] h = tt
are_bytes (b ∷ text) h = (is_byte b (first (is_id_byte b) (list_all is_id_byte text) h), are_bytes text (second (is_id_byte b) (list_all is_id_byte text) h))

-- what an id is spelled with are bytes
id_bytes : (text : List ℕ) → IsTrue (is_id text) → AreBytes text
id_bytes text h = are_bytes text (second (nat_le 1 (length text) && nat_le (length text) 128) (list_all is_id_byte text) h)

module _ (laws : LeadsFollowTexts) (id other : List ℕ) (form : IsTrue (is_id id)) (other_form : IsTrue (is_id other)) (m n : ℕ) (lead : m ≡ lead_of_text id) (other_lead : n ≡ lead_of_text other) where
  -- the smaller lead is of the smaller id
  pub smaller_lead : m < n → slice_cmp nat_cmp id other ≡ Less
  smaller_lead less =
      laws id other (id_bytes id form) (id_bytes other other_form) (subst (λ k. lead_of_text id < k) other_lead (subst (λ k. k < n) lead less))

  -- and the greater of the greater
  pub greater_lead : n < m → slice_cmp nat_cmp id other ≡ Greater
  greater_lead less =
      nat_list_cmp_total.antisymm id other
      ∙ ap ordering_reverse (laws other id (id_bytes other other_form) (id_bytes id form) (subst (λ k. lead_of_text other < k) lead (subst (λ k. k < m) other_lead less)))
