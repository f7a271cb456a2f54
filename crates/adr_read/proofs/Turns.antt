-- Arrays and objects, a turn at a time.
use Rattle.std.proofs.Common.{◌≡◌, ℕ, ◌≤◌, zero, suc, List, ◌∷◌, ◌++◌, [], length, Option, Some, None, refl, ap}
use Rattle.json.specs.Token.{Token}
use Rattle.json.specs.Json.{parse_map, items, members, value, read_key, after_end_array}
use Rattle.json.proofs.Grammar.{items_end, members_end, members_no_key}
use Rattle.serde_json.specs.Data.{Data, Items, Members, no_items, item}
use Rattle.serde_json.specs.Read.{of_items, of_members, converted}
use Rattle.serde_json.specs.View.{items_of}
use Rattle.adr_read.specs.Coming.{coming}

-- where nothing may open, nothing does
pub closed-object : (ts : List Token) → coming 0 (Token.begin_object ∷ ts) ≡ None
unfolding value
closed-object ts = refl

pub closed-array : (ts : List Token) → coming 0 (Token.begin_array ∷ ts) ≡ None
unfolding value
closed-array ts = refl

-- no value comes of no token
pub nothing_comes : (depth : ℕ) → coming depth [] ≡ None
unfolding value
nothing_comes zero = refl
nothing_comes (suc depth) = refl

-- ---- the members of an object, put one after the other to those that were found

abbrev pub gathered : ℕ → ℕ → Members → List Token → Option (Members × List Token)
gathered depth n found ts = converted (λ ms. of_members ms found) (members (value depth) n ts)

pub gathered_end : (depth n : ℕ) (found : Members) (ts r : List Token) → length ts ≤ n → read_key ts ≡ Some (None, r) → gathered depth n found ts ≡ Some (found, r)
gathered_end depth n found ts r enough key = ap (converted (λ ms. of_members ms found)) (members_end (value depth) n ts r enough key)

pub no_key : (depth n : ℕ) (found : Members) (ts : List Token) → read_key ts ≡ None → gathered depth n found ts ≡ None
no_key depth n found ts none = ap (converted (λ ms. of_members ms found)) (members_no_key (value depth) n ts none)

-- ---- the items of an array

abbrev pub listed : ℕ → ℕ → List Token → Option (Items × List Token)
listed depth n ts = converted of_items (items (value depth) n ts)

pub listed_end : (depth n : ℕ) (ts r : List Token) → length ts ≤ n → after_end_array ts ≡ Some r → listed depth n ts ≡ Some (no_items, r)
listed_end depth n ts r enough ends = ap (converted of_items) (items_end (value depth) n ts r enough ends)

-- ---- items that were read, before those to come

abbrev pub items_before : List Data → Items → Items
items_before [] rest = rest
items_before (d ∷ ds) rest = item d (items_before ds rest)

items_push : (ds : List Data) (d : Data) (rest : Items) → items_before ds (item d rest) ≡ items_before (ds ++ d ∷ []) rest
items_push [] d rest = refl
items_push (e ∷ ds) d rest = ap (item e) (items_push ds d rest)

pub one_more_item : (ds : List Data) (d : Data) (o : Option (Items × List Token)) → parse_map (items_before ds) (parse_map (item d) o) ≡ parse_map (items_before (ds ++ d ∷ [])) o
one_more_item ds d None = refl
one_more_item ds d (Some p) = ap (λ items. Some (items, p.1)) (items_push ds d p.0)

pub none_before : (o : Option (Items × List Token)) → o ≡ parse_map (items_before []) o
none_before None = refl
none_before (Some p) = refl

pub items_before-none : (ds : List Data) → items_before ds no_items ≡ items_of ds
items_before-none [] = refl
items_before-none (d ∷ ds) = ap (item d) (items_before-none ds)
