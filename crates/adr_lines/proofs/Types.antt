-- The types of payloads, payload by payload.
use Rattle.std.proofs.Common.{◌≡◌, ℕ, ◌+◌, ◌<◌, length, take, get_or, Bool, true, false, not, ◌||◌, cond, if◌then◌else◌, List, [], ◌∷◌, ◌++◌, refl, ap, sym, ◌∙◌, filter}
use Rattle.std.proofs.lemmas.Grind.{flat_map-append, take_at_read}
use Rattle.std.proofs.lemmas.List.{append_assoc}
use Rattle.std.proofs.lemmas.List.Elements.{filter-append}
use Rattle.std.specs.List.{list_any}
use Rattle.adr_value.specs.Same.{same_type}
use Rattle.adr_value.specs.declared.payload.PayloadType.{PayloadType}
use Rattle.adr_object.specs.declared.event.Payload.{Payload}
use Rattle.adr_model.specs.declared.entry.Entry.{Entry}
use Rattle.adr_model.specs.Touches.{types_of}
use Rattle.adr_lines.specs.Grouped.{once_for_each, unless_carried}

abbrev others : PayloadType → List PayloadType → List PayloadType
others t types = filter (λ k. not (same_type t k)) types

-- one payload more adds its type, unless a payload before it has that
one_type_more : (payloads : List Payload) (payload : Payload) → types_of (payloads ++ payload ∷ []) ≡ types_of payloads ++ unless_carried payloads payload.kind
one_type_more [] payload = refl
one_type_more (p ∷ ps) payload =
    ap (λ (ts : List PayloadType). p.kind ∷ others p.kind ts) (one_type_more ps payload)
    ∙ ap (λ (ts : List PayloadType). p.kind ∷ ts) (filter-append (λ k. not (same_type p.kind k)) (types_of ps) (unless_carried ps payload.kind))
    ∙ ap (λ (ts : List PayloadType). p.kind ∷ others p.kind (types_of ps) ++ ts)
    (kept (same_type p.kind payload.kind) (list_any (λ q. same_type q.kind payload.kind) ps) refl)
  where
    kept : (same carried : Bool) → same_type p.kind payload.kind ≡ same
        → others p.kind (cond carried [] (payload.kind ∷ [])) ≡ cond (same || carried) [] (payload.kind ∷ [])
    kept true true is = refl
    kept true false is = rw is refl
    kept false true is = refl
    kept false false is = rw is refl

next_payload : (payloads : List Payload) (i : ℕ) (payload : Payload) → i < length payloads → payload ≡ get_or payloads i payload
    → take (i + 1) payloads ≡ take i payloads ++ payload ∷ []
next_payload payloads i payload within is =
    (take_at_read payloads i payload within).1 ∙ ap (λ (p : Payload). take i payloads ++ p ∷ []) (sym is)

-- an entry under types, and under more of them
once_for_each-append : (e : Entry) (ks more : List PayloadType) (kind : PayloadType)
    → once_for_each e (ks ++ more) kind ≡ once_for_each e ks kind ++ once_for_each e more kind
once_for_each-append e ks more kind = flat_map-append (λ (k : PayloadType). if same_type k kind then (e ∷ []) else []) ks more

-- the entries of the types of the payloads so far, and of one payload more
pub one_payload_more : (e : Entry) (payloads : List Payload) (i : ℕ) (payload : Payload) (old before later : PayloadType → List Entry)
    → i < length payloads → payload ≡ get_or payloads i payload
    → ((k : PayloadType) → before k ≡ old k ++ once_for_each e (types_of (take i payloads)) k)
    → ((k : PayloadType) → later k ≡ before k ++ once_for_each e (unless_carried (take i payloads) payload.kind) k)
    → (k : PayloadType) → later k ≡ old k ++ once_for_each e (types_of (take (i + 1) payloads)) k
one_payload_more e payloads i payload old before later within is so_far added k =
    let had : List PayloadType = types_of (take i payloads) in
    let one : List PayloadType = unless_carried (take i payloads) payload.kind in
    added k
    ∙ ap (λ (es : List Entry). es ++ once_for_each e one k) (so_far k)
    ∙ append_assoc (old k) (once_for_each e had k) (once_for_each e one k)
    ∙ ap (λ (es : List Entry). old k ++ es)
    (sym (once_for_each-append e had one k)
    ∙ ap (λ (ks : List PayloadType). once_for_each e ks k) (sym (ap types_of (next_payload payloads i payload within is) ∙ one_type_more (take i payloads) payload)))
