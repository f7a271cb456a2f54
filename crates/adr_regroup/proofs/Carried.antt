-- What groups of own types make is no more than what the types of an interval that carries theirs do.
use Rattle.std.proofs.Common.{◌≡◌, ℕ, ◌+◌, ◌≤◌, ◌||◌, Bool, true, false, cond, List, [], ◌∷◌, map, sum_by, refl, ap, sym, ◌∙◌, arith}
use Rattle.std.proofs.lemmas.List.Sums.{sum_by-cons}
use Rattle.std.specs.List.{list_any, AllByRecursion, IsDistinct}
use Rattle.std.specs.Str.{bytes_eq}
use Rattle.adr_value.specs.Payload.{name_of}
use Rattle.adr_value.specs.Same.{same_type}
use Rattle.adr_value.specs.declared.payload.PayloadType.{PayloadType}
use Rattle.adr_object.specs.declared.event.Interval.{Interval}
use Rattle.adr_model.specs.Rank.{carries}
use Rattle.adr_model.specs.Touches.{types_of}
use Rattle.adr_model.proofs.Lists.{same_bytes}
use Rattle.adr_repair.proofs.Windows.{types_carried}
use Rattle.adr_lines.specs.declared.grouped.TypeEntries.{TypeEntries}
use Rattle.adr_lines.specs.Grouped.{HaveOwnTypes}

module _ (f : PayloadType → ℕ) (alike : (k l : PayloadType) → same_type k l ≡ true → f k ≡ f l) where
  -- what the groups of which a test holds make
  abbrev pub made : (PayloadType → Bool) → List TypeEntries → ℕ
  made t [] = 0
  made t (g ∷ gs) = cond (t g.payload_type) (f g.payload_type) 0 + made t gs

  made_either : (t u : PayloadType → Bool) (gs : List TypeEntries) → made (λ k. t k || u k) gs ≤ made t gs + made u gs
  made_either t u [] = omega arith
  made_either t u (g ∷ gs) = by (t g.payload_type) (u g.payload_type) (made_either t u gs)
    where
      by : (a b : Bool) → made (λ k. t k || u k) gs ≤ made t gs + made u gs
          → cond (a || b) (f g.payload_type) 0 + made (λ k. t k || u k) gs ≤ cond a (f g.payload_type) 0 + made t gs + (cond b (f g.payload_type) 0 + made u gs)
      by true true rest = omega arith
      by true false rest = omega arith
      by false true rest = omega arith
      by false false rest = omega arith

  made_same : (t u : PayloadType → Bool) (gs : List TypeEntries) → ((k : PayloadType) → t k ≡ u k) → made t gs ≡ made u gs
  made_same t u [] h = refl
  made_same t u (g ∷ gs) h = let r : made t gs ≡ made u gs = made_same t u gs h in ap (λ b. cond b (f g.payload_type) 0 + made t gs) (h g.payload_type) ∙ ap (λ n. cond (u g.payload_type) (f g.payload_type) 0 + n) r

  none_made : (k l : PayloadType) (gs : List TypeEntries) → same_type k l ≡ true → AllByRecursion (λ x. same_type l x ≡ false) (map (λ g. g.payload_type) gs) → made (same_type k) gs ≡ 0
  none_made k l [] e a = refl
  none_made k l (g ∷ gs) e a =
      by (same_type k g.payload_type) (ap (λ n. bytes_eq n (name_of g.payload_type)) (same_bytes (name_of k) (name_of l) e) ∙ a.0) (none_made k l gs e a.1)
    where
      by : (b : Bool) → b ≡ false → made (same_type k) gs ≡ 0 → cond b (f g.payload_type) 0 + made (same_type k) gs ≡ 0
      by true t rest = absurd (cc)
      by false t rest = omega (arith, rest)

  -- of own types no more than one is this one
  made_one : (k : PayloadType) (gs : List TypeEntries) → HaveOwnTypes gs → made (same_type k) gs ≤ f k
  unfolding IsDistinct
  made_one k [] d = omega arith
  made_one k (g ∷ gs) d = by (same_type k g.payload_type) refl (made_one k gs d.1)
    where
      by : (b : Bool) → same_type k g.payload_type ≡ b → made (same_type k) gs ≤ f k → cond b (f g.payload_type) 0 + made (same_type k) gs ≤ f k
      by true e rest = let s : f k ≡ f g.payload_type = alike k g.payload_type e in let n : made (same_type k) gs ≡ 0 = none_made k g.payload_type gs e d.0 in omega arith
      by false e rest = omega arith

  made_any : (ks : List PayloadType) (gs : List TypeEntries) → HaveOwnTypes gs → made (λ t. list_any (λ k. same_type k t) ks) gs ≤ sum_by f ks
  made_any [] gs d = nothing gs
    where
      nothing : (hs : List TypeEntries) → made (λ t. false) hs ≤ 0
      nothing [] = omega arith
      nothing (h ∷ hs) = let r = nothing hs in omega (arith, r)
  made_any (k ∷ ks) gs d =
      let a = made_either (same_type k) (λ t. list_any (λ x. same_type x t) ks) gs in
      let b = made_one k gs d in
      let c = made_any ks gs d in
      let e = sum_by-cons f k ks in
      omega (arith, a, b, c, e)

  pub made_carried : (i : Interval) (gs : List TypeEntries) → HaveOwnTypes gs → made (carries i) gs ≤ sum_by f (types_of i.payloads)
  made_carried i gs d =
      let a = made_same (carries i) (λ t. list_any (λ k. same_type k t) (types_of i.payloads)) gs (λ t. sym (types_carried t i.payloads)) in
      let b = made_any (types_of i.payloads) gs d in
      omega (arith, a, b)
