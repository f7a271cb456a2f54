-- Types that stand first in a list.
use Rattle.std.proofs.Common.{◌≡◌, ℕ, ◌+◌, ◌<◌, length, take, get_or, Bool, true, false, not, ◌||◌, cond, List, [], ◌∷◌, ◌++◌, append-nil, refl, ap, sym, ◌∙◌, filter}
use Rattle.std.proofs.lemmas.Grind.{take_at_read}
use Rattle.std.proofs.lemmas.List.Elements.{filter-append}
use Rattle.std.specs.List.{list_any}
use Rattle.std.specs.Str.{bytes_eq}
use Rattle.std.proofs.lemmas.Slice.Eq.{bytes_eq-Decides}
use Rattle.adr_value.specs.Same.{same_type}
use Rattle.adr_value.specs.Payload.{name_of}
use Rattle.adr_value.specs.declared.payload.PayloadType.{PayloadType}
use Rattle.adr_object.specs.declared.event.Payload.{Payload}
use Rattle.adr_model.specs.Touches.{types_of}

-- the list has the type
abbrev pub has : List PayloadType → PayloadType → Bool
has types t = list_any (λ k. same_type k t) types

-- the types that are not this one
abbrev pub others : PayloadType → List PayloadType → List PayloadType
others t types = filter (λ k. not (same_type t k)) types

-- a type alone, unless the list has it
abbrev pub unless_had : List PayloadType → PayloadType → List PayloadType
unless_had types t = cond (has types t) [] (t ∷ [])

same_as_both : (a b t : PayloadType) → same_type a b ≡ true → same_type b t ≡ same_type a t
same_as_both a b t same = ap (λ (name : List ℕ). bytes_eq name (name_of t)) (sym ((bytes_eq-Decides (name_of a) (name_of b)).0 same))

-- the types other than one have all that isn't the same as that one
others_have : (a t : PayloadType) → same_type a t ≡ false → (types : List PayloadType) → has (others a types) t ≡ has types t
others_have a t apart [] = refl
others_have a t apart (b ∷ types) = by (same_type a b) refl (others_have a t apart types)
  where
    by : (c : Bool) → same_type a b ≡ c → has (others a types) t ≡ has types t → has (cond (not c) (b ∷ others a types) (others a types)) t ≡ (same_type b t || has types t)
    by true same rest = rest ∙ ap (λ (c : Bool). c || has types t) (sym (same_as_both a b t same ∙ apart))
    by false other rest = ap (λ (c : Bool). same_type b t || c) rest

one_type_more : (payloads : List Payload) (payload : Payload)
    → types_of (payloads ++ payload ∷ []) ≡ types_of payloads ++ unless_had (types_of payloads) payload.kind
one_type_more [] payload = refl
one_type_more (p ∷ ps) payload =
    ap (λ (ts : List PayloadType). p.kind ∷ others p.kind ts) (one_type_more ps payload)
    ∙ ap (λ (ts : List PayloadType). p.kind ∷ ts) (filter-append (λ k. not (same_type p.kind k)) (types_of ps) (unless_had (types_of ps) payload.kind))
    ∙ ap (λ (ts : List PayloadType). p.kind ∷ others p.kind (types_of ps) ++ ts) (by (same_type p.kind payload.kind) refl)
  where
    kept : (h : Bool) (c : Bool) → same_type p.kind payload.kind ≡ c → others p.kind (cond h [] (payload.kind ∷ [])) ≡ cond (c || h) [] (payload.kind ∷ [])
    kept true true same = refl
    kept true false same = refl
    kept false true same = rw same refl
    kept false false same = rw same refl

    by : (c : Bool) → same_type p.kind payload.kind ≡ c
        → others p.kind (unless_had (types_of ps) payload.kind) ≡ cond (c || has (others p.kind (types_of ps)) payload.kind) [] (payload.kind ∷ [])
    by true same = kept (has (types_of ps) payload.kind) true same
    by false apart =
        kept (has (types_of ps) payload.kind) false apart
        ∙ ap (λ (h : Bool). cond h [] (payload.kind ∷ [])) (sym (others_have p.kind payload.kind apart (types_of ps)))

next_payload : (payloads : List Payload) (i : ℕ) (payload : Payload) → i < length payloads → payload ≡ get_or payloads i payload
    → take (i + 1) payloads ≡ take i payloads ++ payload ∷ []
next_payload payloads i payload within is =
    (take_at_read payloads i payload within).1 ∙ ap (λ (p : Payload). take i payloads ++ p ∷ []) (sym is)

-- one payload more adds its type, unless a payload before it has that
module _ (payloads : List Payload) (i : ℕ) (payload : Payload) (types : List PayloadType) where
  next_type : i < length payloads → payload ≡ get_or payloads i payload → types ≡ types_of (take i payloads)
      → types_of (take (i + 1) payloads) ≡ types ++ unless_had types payload.kind
  next_type within is found =
      ap types_of (next_payload payloads i payload within is)
      ∙ one_type_more (take i payloads) payload
      ∙ ap (λ (ts : List PayloadType). ts ++ unless_had ts payload.kind) (sym found)

  pub known_type : i < length payloads → payload ≡ get_or payloads i payload → types ≡ types_of (take i payloads)
      → has types payload.kind ≡ true → types ≡ types_of (take (i + 1) payloads)
  known_type within is found known =
      sym
      (next_type within is found
      ∙ ap (λ (h : Bool). types ++ cond h [] (payload.kind ∷ [])) known
      ∙ append-nil types)

  pub new_type : i < length payloads → payload ≡ get_or payloads i payload → types ≡ types_of (take i payloads)
      → has types payload.kind ≡ false → types ++ payload.kind ∷ [] ≡ types_of (take (i + 1) payloads)
  new_type within is found new =
      sym (next_type within is found ∙ ap (λ (h : Bool). types ++ cond h [] (payload.kind ∷ [])) new)
