-- Where a value comes of all tokens, none of them is bad.
use Rattle.std.proofs.Common.{◌≡◌, ℕ, zero, suc, List, [], ◌∷◌, true, length, Option, Some, None, option_and_then, refl, sym, ap, ◌∙◌, subst}
use Rattle.std.specs.Prelude.{⊤}
use Rattle.std.proofs.lemmas.Option.{none-some}
use Rattle.json.specs.Token.{Token, begin_object, end_object, begin_array, end_array, key, string, number, boolean, null, bad}
use Rattle.json.specs.Json.{Json, Items, Members, array, object, item, member, Parse, parse_map, after_end_array, read_key, items_step, members_step, items, members, value_with, value}
use Rattle.json.specs.Align.{is_good}
use Rattle.json.proofs.Grammar.{left, left-parse_map, closed_array, read_key_is, key_token}

abbrev pub AreGood : List Token → Type 0
AreGood [] = ⊤
AreGood (t ∷ ts) = (is_good t ≡ true) × AreGood ts

-- what goes on with good tokens begins with good ones
abbrev Goes : {A : Type 0} → Parse A → Type 0
Goes {A} p = (ts r : List Token) → left (p ts) ≡ Some r → AreGood r → AreGood ts

not_found : {P : Type 0} (r : List Token) → None ≡ Some r → P
not_found r e = absurd (none-some r e)

abbrev unwrapped : Option (List Token) → List Token
unwrapped None = []
unwrapped (Some r) = r

same_rest : (x r : List Token) → Some x ≡ Some r → AreGood r → AreGood x
same_rest x r e h = subst AreGood (sym (ap unwrapped e)) h

then_more : {B : Type 0} (f : Json → B → B) (more : Parse B) (o : Option (Json × List Token)) (ts r : List Token) → Goes more → ((x : List Token) → left o ≡ Some x → AreGood x → AreGood ts)
    → left (option_and_then (λ q. parse_map (f q.0) (more q.1)) o) ≡ Some r → AreGood r → AreGood ts
then_more f more None ts r goes first e h = not_found r e
then_more f more (Some q) ts r goes first e h = first q.1 refl (goes q.1 r (sym (left-parse_map (f q.0) (more q.1)) ∙ e) h)

good_key : (k : Option (List ℕ)) → is_good (key_token k) ≡ true
good_key None = refl
good_key (Some s) = refl

after_key : (ts : List Token) (k : Option (List ℕ)) (s : List Token) → read_key ts ≡ Some (k, s) → AreGood s → AreGood ts
after_key ts k s e h = subst AreGood (sym (read_key_is ts k s e)) (good_key k, h)

module _ (p : Parse Json) (goes : Goes p) where
  item_turn : (more : Parse Items) (ts r : List Token) (o : Option (List Token)) → Goes more → after_end_array ts ≡ o → left (items_step p more ts o) ≡ Some r → AreGood r → AreGood ts
  item_turn more ts r (Some x) again e f h = subst AreGood (sym (closed_array ts x e)) (refl, same_rest x r f h)
  item_turn more ts r None again e f h = then_more item more (p ts) ts r again (goes ts) f h

  Goes-items : (n : ℕ) → Goes (items p n)
  unfolding items
  Goes-items zero ts r e h = not_found r e
  Goes-items (suc n) ts r e h = item_turn (items p n) ts r (after_end_array ts) (Goes-items n) refl e h

  member_turn : (more : Parse Members) (ts r : List Token) (o : Option (Option (List ℕ) × List Token)) → Goes more → read_key ts ≡ o
      → left (option_and_then (λ q. members_step p more q.0 q.1) o) ≡ Some r → AreGood r → AreGood ts
  member_turn more ts r None again e f h = not_found r f
  member_turn more ts r (Some (None, s)) again e f h = after_key ts None s e (same_rest s r f h)
  member_turn more ts r (Some (Some k, s)) again e f h = after_key ts (Some k) s e (then_more (member k) more (p s) s r again (goes s) f h)

  Goes-members : (n : ℕ) → Goes (members p n)
  unfolding members
  Goes-members zero ts r e h = not_found r e
  Goes-members (suc n) ts r e h = member_turn (members p n) ts r (read_key ts) (Goes-members n) refl e h

Goes-value_with : (a : Parse Items) (o : Parse Members) → Goes a → Goes o → Goes (value_with a o)
Goes-value_with a o p q [] r e h = not_found r e
Goes-value_with a o p q (begin_object ∷ ts) r e h = (refl, q ts r (sym (left-parse_map object (o ts)) ∙ e) h)
Goes-value_with a o p q (end_object ∷ ts) r e h = not_found r e
Goes-value_with a o p q (begin_array ∷ ts) r e h = (refl, p ts r (sym (left-parse_map array (a ts)) ∙ e) h)
Goes-value_with a o p q (end_array ∷ ts) r e h = not_found r e
Goes-value_with a o p q (key s ∷ ts) r e h = not_found r e
Goes-value_with a o p q (string s ∷ ts) r e h = (refl, same_rest ts r e h)
Goes-value_with a o p q (number s ∷ ts) r e h = (refl, same_rest ts r e h)
Goes-value_with a o p q (boolean b ∷ ts) r e h = (refl, same_rest ts r e h)
Goes-value_with a o p q (null ∷ ts) r e h = (refl, same_rest ts r e h)
Goes-value_with a o p q (bad ∷ ts) r e h = not_found r e

Goes-value : (depth : ℕ) → Goes (value depth)
unfolding value
Goes-value zero = Goes-value_with (λ ts. None) (λ ts. None) (λ ts r e h. not_found r e) (λ ts r e h. not_found r e)
Goes-value (suc d) =
    Goes-value_with (λ ts. items (value d) (length ts) ts) (λ ts. members (value d) (length ts) ts) (λ ts. Goes-items (value d) (Goes-value d) (length ts) ts) (λ ts. Goes-members (value d) (Goes-value d) (length ts) ts)

pub value_of_good : (depth : ℕ) (ts : List Token) (j : Json) → value depth ts ≡ Some (j, []) → AreGood ts
value_of_good depth ts j e = Goes-value depth ts [] (ap left e) tt
