-- The sets of places, key by key, after one of them is written.
use Rattle.std.proofs.Common.{◌≡◌, ℕ, Bool, true, false, not, ◌&&◌, ◌||◌, cond, eqb, ltb, List, [], ◌∷◌, ◌<◌, ◌≤◌, ◌+◌, zero, suc, arith, take, drop, get_or, set, length, Option, Some, ◌⊎◌, inl, inr, subst, lt-ltb, le-ltb, ltb-false, refl, ap, sym, ◌∙◌}
use Rattle.std.proofs.lemmas.Bool.{or_cases, or_right}
use Rattle.std.proofs.lemmas.List.{take_more, get_or-set_same, get_or-set_other, get_or_past}
use Rattle.std.proofs.lemmas.List.Folds.{list_any-append}
use Rattle.std.specs.Map.{lookup, keys_of, values_of}
use Rattle.std.specs.Option.{option_map_or}
use Rattle.indexmap.specs.IndexMap.{IndexMap, get}
use Rattle.adr_keys.specs.declared.key.Key.{Key}
use Rattle.adr_keys.specs.Key.{same_key, same_key_true, same_key_self, same_key_flip}
use Rattle.adr_keys.specs.Places.{before_closing}
use Rattle.adr_keys.specs.Blocks.{includes}
use Rattle.adr_keys.specs.declared.blocks.Block.{Block}
use Rattle.adr_keys.proofs.Words.{three}
use Rattle.adr_keys.proofs.Covered.{includes-nil}
use Rattle.indexmap.specs.Layout.{set_value_at}
use Rattle.adr_keys.specs.Rows.{offers_key}
use Rattle.adr_keys.specs.Sets.{holds}

-- what a key's set says of a place
abbrev pub tells : (List Block → ℕ → Bool) → Option (List Block) → ℕ → Bool
tells f set p = option_map_or (λ ws. f ws p) set false

module _ {S : Type 0} (m n : IndexMap Key (List Block) S) (key : Key) where
  -- a key that is the same includes the same set
  pub own : (k : Key) → same_key key k ≡ true → get same_key m k ≡ get same_key m key
  own k e = ap (get same_key m) (sym (same_key_true key k e))

  module _ (f : List Block → ℕ → Bool) (new : Option (List Block)) (u : (k : Key) → get same_key n k ≡ cond (same_key key k) new (get same_key m k)) where
    pub told : (k : Key) (p : ℕ) → tells f (get same_key n k) p ≡ cond (same_key key k) (tells f new p) (tells f (get same_key m k) p)
    told k p = ap (λ o. tells f o p) (u k) ∙ by (same_key key k)
      where
        by : (b : Bool) → tells f (cond b new (get same_key m k)) p ≡ cond b (tells f new p) (tells f (get same_key m k) p)
        by true = refl
        by false = refl

    -- where the key's set says the same as before, each does
    pub told_same : (p : ℕ) → tells f new p ≡ tells f (get same_key m key) p → (k : Key) → tells f (get same_key n k) p ≡ tells f (get same_key m k) p
    told_same p h k = told k p ∙ by (same_key key k) refl
      where
        by : (b : Bool) → same_key key k ≡ b → cond b (tells f new p) (tells f (get same_key m k) p) ≡ tells f (get same_key m k) p
        by true e = h ∙ ap (λ o. tells f o p) (sym (own k e))
        by false e = refl

    -- where the key's set keeps what it says, each does
    pub told_kept : (p : ℕ) → (tells f (get same_key m key) p ≡ true → tells f new p ≡ true) → (k : Key) → tells f (get same_key m k) p ≡ true → tells f (get same_key n k) p ≡ true
    told_kept p h k q = told k p ∙ by (same_key key k) refl
      where
        by : (b : Bool) → same_key key k ≡ b → cond b (tells f new p) (tells f (get same_key m k) p) ≡ true
        by true e = h (ap (λ o. tells f o p) (sym (own k e)) ∙ q)
        by false e = q

    -- where a place is put into the key's set
    pub told_put : (place p : ℕ) → tells f new p ≡ (eqb p place || tells f (get same_key m key) p) → (k : Key)
        → tells f (get same_key n k) p ≡ ((same_key k key && eqb p place) || tells f (get same_key m k) p)
    told_put place p h k = told k p ∙ by (same_key key k) refl ∙ ap (λ b. (b && eqb p place) || tells f (get same_key m k) p) (same_key_flip key k)
      where
        by : (b : Bool) → same_key key k ≡ b → cond b (tells f new p) (tells f (get same_key m k) p) ≡ ((b && eqb p place) || tells f (get same_key m k) p)
        by true e = h ∙ ap (λ o. eqb p place || tells f o p) (sym (own k e))
        by false e = refl

    -- where a place is taken out of it
    pub told_taken : (place p : ℕ) → tells f new p ≡ (not (eqb p place) && tells f (get same_key m key) p) → (k : Key)
        → tells f (get same_key n k) p ≡ (not (same_key k key && eqb p place) && tells f (get same_key m k) p)
    told_taken place p h k = told k p ∙ by (same_key key k) refl ∙ ap (λ b. not (b && eqb p place) && tells f (get same_key m k) p) (same_key_flip key k)
      where
        by : (b : Bool) → same_key key k ≡ b → cond b (tells f new p) (tells f (get same_key m k) p) ≡ (not (b && eqb p place) && tells f (get same_key m k) p)
        by true e = h ∙ ap (λ o. not (eqb p place) && tells f o p) (sym (own k e))
        by false e = refl

-- ---- the keys of a row

-- a key that stands in a row is offered by it
pub offered_at : (row : List Key) (i : ℕ) (key : Key) → i < length row → key ≡ get_or row i key → offers_key row key ≡ true
offered_at [] i key h e = absurd (omega arith)
offered_at (x ∷ xs) zero key h e = ap (λ b. b || offers_key xs key) (ap (same_key key) (sym e) ∙ same_key_self key)
offered_at (x ∷ xs) (suc i) key h e = or_right (same_key key x) (offers_key xs key) (offered_at xs i key (omega arith) e)

-- one key more
pub offers_more : (row : List Key) (i : ℕ) (key : Key) → i < length row → key ≡ get_or row i key → (k : Key)
    → offers_key (take (i + 1) row) k ≡ (offers_key (take i row) k || same_key k key)
offers_more row i key h e k =
    ap (λ xs. offers_key xs k) (take_more row i key h) ∙ list_any-append (same_key k) (take i row) (get_or row i key ∷ [])
    ∙ ap (λ y. offers_key (take i row) k || (same_key k y || false)) (sym e) ∙ ap (λ b. offers_key (take i row) k || b) (or_false (same_key k key))
  where
    or_false : (b : Bool) → (b || false) ≡ b
    or_false true = refl
    or_false false = refl

-- what holds of all keys so far, and of one more
pub ready_more : (row : List Key) (i : ℕ) (key : Key) (P : Key → Type 0) → i < length row → key ≡ get_or row i key
    → ((k : Key) → offers_key (take i row) k ≡ true → P k) → P key → (k : Key) → offers_key (take (i + 1) row) k ≡ true → P k
ready_more row i key P h e f g k q = by (or_cases _ _ (sym (offers_more row i key h e k) ∙ q))
  where
    by : ((offers_key (take i row) k ≡ true) ⊎ (same_key k key ≡ true)) → P k
    by (inl a) = f k a
    by (inr b) = subst P (sym (same_key_true k key b)) g

-- ---- a place that is closed in every set

-- the sets before `index` are closed, and the others are as they were
abbrev pub is_closed : ℕ → ℕ → List (Key × List Block) → ℕ → ℕ → Bool
is_closed place index old i p = cond (ltb i index) (includes (get_or (values_of old) i []) (before_closing place p)) (includes (get_or (values_of old) i []) p)

pub keys-set : (es : List (Key × List Block)) (i : ℕ) (ws : List Block) → keys_of (set_value_at es i ws) ≡ keys_of es
keys-set [] i ws = refl
keys-set (e ∷ es) zero ws = refl
keys-set (e ∷ es) (suc i) ws = ap (λ ks. e.0 ∷ ks) (keys-set es i ws)

pub values-set : (es : List (Key × List Block)) (i : ℕ) (ws : List Block) → values_of (set_value_at es i ws) ≡ set (values_of es) i ws
values-set [] i ws = refl
values-set (e ∷ es) zero ws = refl
values-set (e ∷ es) (suc i) ws = ap (λ vs. e.1 ∷ vs) (values-set es i ws)

pub closed-next : (place index : ℕ) (old now : List (Key × List Block)) (v w : List Block) → index < length (values_of now)
    → ((i p : ℕ) → includes (get_or (values_of now) i []) p ≡ is_closed place index old i p) → get_or (values_of now) index [] ≡ v
    → ((p : ℕ) → includes w p ≡ includes v (before_closing place p)) → (i p : ℕ) → includes (get_or (values_of (set_value_at now index w)) i []) p ≡ is_closed place (index + 1) old i p
closed-next place index old now v w h f e g i p = ap (λ vs. includes (get_or vs i []) p) (values-set now index w) ∙ three i index
    (λ l. ap (λ us. includes us p) (get_or-set_other (values_of now) index i w [] (λ q. omega arith)) ∙ f i p ∙ ap (λ b. cond b (includes (get_or (values_of old) i []) (before_closing place p)) (includes (get_or (values_of old) i []) p)) (lt-ltb i index l ∙ sym (lt-ltb i (index + 1) (omega arith))))
    (λ q. ap (λ j. includes (get_or (set (values_of now) index w) j []) p) q ∙ ap (λ us. includes us p) (get_or-set_same (values_of now) index w [] h) ∙ g p
    ∙ ap (λ us. includes us (before_closing place p)) (sym e) ∙ f index (before_closing place p)
    ∙ ap (λ b. cond b (includes (get_or (values_of old) index []) (before_closing place (before_closing place p))) (includes (get_or (values_of old) index []) (before_closing place p))) (le-ltb index index (omega arith))
    ∙ ap (λ j. includes (get_or (values_of old) j []) (before_closing place p)) (sym q)
    ∙ ap (λ b. cond b (includes (get_or (values_of old) i []) (before_closing place p)) (includes (get_or (values_of old) i []) p)) (sym (lt-ltb i (index + 1) (omega arith))))
    (λ l. ap (λ us. includes us p) (get_or-set_other (values_of now) index i w [] (λ q. omega arith)) ∙ f i p ∙ ap (λ b. cond b (includes (get_or (values_of old) i []) (before_closing place p)) (includes (get_or (values_of old) i []) p)) (le-ltb i index (omega arith) ∙ sym (le-ltb i (index + 1) (omega arith))))

-- all sets are closed
pub closed-all : (place index : ℕ) (old now : List (Key × List Block)) → length (values_of old) ≤ index
    → ((i p : ℕ) → includes (get_or (values_of now) i []) p ≡ is_closed place index old i p)
    → (i p : ℕ) → includes (get_or (values_of now) i []) p ≡ includes (get_or (values_of old) i []) (before_closing place p)
closed-all place index old now h f i p = f i p ∙ by (ltb i index) refl
  where
    by : (b : Bool) → ltb i index ≡ b → cond b (includes (get_or (values_of old) i []) (before_closing place p)) (includes (get_or (values_of old) i []) p) ≡ includes (get_or (values_of old) i []) (before_closing place p)
    by true e = refl
    by false e =
        let q : get_or (values_of old) i [] ≡ [] = get_or_past (values_of old) i [] (let l = ltb-false i index e in omega arith) in
        ap (λ us. includes us p) q ∙ includes-nil p ∙ sym (ap (λ us. includes us (before_closing place p)) q ∙ includes-nil (before_closing place p))

-- so is each that is looked up
pub closed-found : (place : ℕ) (test : Key → Bool) (old now : List (Key × List Block)) → keys_of now ≡ keys_of old
    → ((i p : ℕ) → includes (get_or (values_of now) i []) p ≡ includes (get_or (values_of old) i []) (before_closing place p))
    → (p : ℕ) → tells includes (lookup test now) p ≡ tells includes (lookup test old) (before_closing place p)
closed-found place test [] [] k f p = refl
closed-found place test [] (e ∷ es) k f p = cc
closed-found place test (d ∷ ds) [] k f p = cc
closed-found place test (d ∷ ds) (e ∷ es) k f p =
    ap (λ x. tells includes (cond (test x) (Some e.1) (lookup test es)) p) (ap (λ ks. get_or ks 0 e.0) k)
    ∙ by (test d.0) (f 0 p) (closed-found place test ds es (ap (drop 1) k) (λ i q. f (suc i) q) p)
  where
    by : (b : Bool) → includes e.1 p ≡ includes d.1 (before_closing place p) → tells includes (lookup test es) p ≡ tells includes (lookup test ds) (before_closing place p)
        → tells includes (cond b (Some e.1) (lookup test es)) p ≡ tells includes (cond b (Some d.1) (lookup test ds)) (before_closing place p)
    by true here there = here
    by false here there = there
