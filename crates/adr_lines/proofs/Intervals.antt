-- The entries of an event's intervals are its entries, type by type.
use Rattle.std.proofs.Common.{◌≡◌, ℕ, ◌+◌, Bool, true, false, not, ◌||◌, cond, List, [], ◌∷◌, ◌++◌, filter, length, map, refl, ap, ap₂, sym, subst, ◌∙◌, arith}
use Rattle.std.specs.Bool.{then_some}
use Rattle.std.specs.List.{list_any, zip, filter_map, enumerate_from, cons_option}
use Rattle.std.specs.Prelude.{Result, Ok, Err}
use Rattle.std.specs.Result.{result_unwrap_or}
use Rattle.std.specs.Str.{bytes_eq}
use Rattle.std.proofs.lemmas.Slice.Eq.{bytes_eq-Decides}
use Rattle.adr_refusal.specs.Answer.{result_map}
use Rattle.adr_value.specs.Payload.{name_of}
use Rattle.adr_value.specs.Same.{same_type}
use Rattle.adr_value.specs.declared.payload.PayloadType.{PayloadType}
use Rattle.adr_refusal.specs.declared.refusal.Refusal.{Refusal}
use Rattle.adr_time.specs.declared.span.Span.{Span}
use Rattle.adr_object.specs.declared.event.Interval.{Interval}
use Rattle.adr_object.specs.declared.event.Payload.{Payload}
use Rattle.adr_model.specs.declared.entry.Entry.{Entry}
use Rattle.adr_model.specs.declared.entry.Placed.{Placed}
use Rattle.adr_model.specs.declared.written.Written.{Written}
use Rattle.adr_model.specs.Governor.{entry_at, entries_of}
use Rattle.adr_model.specs.Layout.{layout, placed_from}
use Rattle.adr_model.specs.Rank.{carries, ranked}
use Rattle.adr_model.specs.declared.entry.Tie.{Tie}
use Rattle.adr_model.specs.Touches.{types_of}
use Rattle.adr_lines.specs.Grouped.{entries_at, once_for_each}

pub placed_spans : (r : Result (List Span) Refusal) (ps : List Placed) → result_map (placed_from 0) r ≡ Ok ps → ps ≡ placed_from 0 (result_unwrap_or r [])
placed_spans (Ok spans) ps h = cc
placed_spans (Err f) ps h = cc

pub no_span : (r : Result (List Span) Refusal) (f : Refusal) → result_map (placed_from 0) r ≡ Err f → [] ≡ placed_from 0 (result_unwrap_or r [])
no_span (Ok spans) f h = cc
no_span (Err g) f h = refl

pub no_place : (tie : Tie) (w : Written) (is : List Interval) (ps : List Placed) (kind : PayloadType) → length ps ≡ 0 → entries_at tie w is ps kind ≡ []
no_place tie w [] ps kind h = refl
no_place tie w (i ∷ is) [] kind h = refl
no_place tie w (i ∷ is) (p ∷ ps) kind h = absurd (omega arith)

module _ (kind : PayloadType) (e : Entry) where
  -- without the types that are the same as one of another name, nothing is lost
  others : (p : PayloadType) → same_type p kind ≡ false → (ks : List PayloadType)
      → once_for_each e (filter (λ k. not (same_type p k)) ks) kind ≡ once_for_each e ks kind
  others p apart [] = refl
  others p apart (k ∷ ks) = by (same_type p k) refl (same_type k kind) refl (others p apart ks)
    where
      by : (a : Bool) → same_type p k ≡ a → (b : Bool) → same_type k kind ≡ b
          → once_for_each e (filter (λ k. not (same_type p k)) ks) kind ≡ once_for_each e ks kind
          → once_for_each e (cond (not a) (k ∷ filter (λ k. not (same_type p k)) ks) (filter (λ k. not (same_type p k)) ks)) kind
          ≡ cond b (e ∷ []) [] ++ once_for_each e ks kind
      by true s true t rest =
          let one : name_of p ≡ name_of k = (bytes_eq-Decides (name_of p) (name_of k)).0 s in
          let same : same_type p kind ≡ true = subst (λ (n : List ℕ). bytes_eq n (name_of kind) ≡ true) (sym one) t in
          absurd (cc)
      by true s false t rest = rest
      by false s true t rest = rw t (ap (λ (r : List Entry). e ∷ r) rest)
      by false s false t rest = rw t rest

  -- without the types that are the same as one that is this one, none is left
  none_left : (p : PayloadType) → same_type p kind ≡ true → (ks : List PayloadType)
      → once_for_each e (filter (λ k. not (same_type p k)) ks) kind ≡ []
  none_left p one [] = refl
  none_left p one (k ∷ ks) = by (same_type p k) refl (none_left p one ks)
    where
      by : (a : Bool) → same_type p k ≡ a → once_for_each e (filter (λ k. not (same_type p k)) ks) kind ≡ []
          → once_for_each e (cond (not a) (k ∷ filter (λ k. not (same_type p k)) ks) (filter (λ k. not (same_type p k)) ks)) kind ≡ []
      by true s rest = rest
      by false s rest = let apart : same_type k kind ≡ false = other (same_type k kind) refl in rw apart rest
        where
          other : (b : Bool) → same_type k kind ≡ b → b ≡ false
          other false t = refl
          other true t =
              let x : name_of p ≡ name_of kind = (bytes_eq-Decides (name_of p) (name_of kind)).0 one in
              let y : name_of k ≡ name_of kind = (bytes_eq-Decides (name_of k) (name_of kind)).0 t in
              let z : same_type p k ≡ true = (bytes_eq-Decides (name_of p) (name_of k)).1 (x ∙ sym y) in
              absurd (cc)

  -- an interval stands once under a type that it carries
  pub one_interval : (ps : List Payload)
      → once_for_each e (types_of ps) kind ≡ cons_option (then_some (list_any (λ p. same_type p.kind kind) ps) e) []
  one_interval [] = refl
  one_interval (p ∷ ps) = by (same_type p.kind kind) refl (one_interval ps)
    where
      by : (b : Bool) → same_type p.kind kind ≡ b
          → once_for_each e (types_of ps) kind ≡ cons_option (then_some (list_any (λ p. same_type p.kind kind) ps) e) []
          → cond b (e ∷ []) [] ++ once_for_each e (filter (λ k. not (same_type p.kind k)) (types_of ps)) kind
          ≡ cons_option (then_some (b || list_any (λ p. same_type p.kind kind) ps) e) []
      by true t rest = ap (λ (r : List Entry). e ∷ r) (none_left p.kind t (types_of ps))
      by false t rest = others p.kind t (types_of ps) ∙ rest

entries_from : (tie : Tie) (kind : PayloadType) (w : Written) (n : ℕ) (is : List Interval) (spans : List Span)
    → entries_at tie w is (placed_from n spans) kind
    ≡ map (ranked tie) (filter_map (λ p. then_some (carries p.1.0 kind) (entry_at w p.0 p.1.1)) (enumerate_from n (zip is spans)))
entries_from tie kind w n [] spans = refl
entries_from tie kind w n (i ∷ is) [] = refl
entries_from tie kind w n (i ∷ is) (s ∷ spans) =
    ap₂ (λ (a b : List Entry). a ++ b) (one_interval kind (ranked tie (entry_at w n s)) i.payloads) (entries_from tie kind w (n + 1) is spans)
    ∙ joined (carries i kind) (entry_at w n s) (filter_map (λ p. then_some (carries p.1.0 kind) (entry_at w p.0 p.1.1)) (enumerate_from (n + 1) (zip is spans)))
  where
    joined : (b : Bool) (e : Entry) (es : List Entry)
        → cons_option (then_some b (ranked tie e)) [] ++ map (ranked tie) es ≡ map (ranked tie) (cons_option (then_some b e) es)
    joined true e es = refl
    joined false e es = refl

-- the entries of the intervals under a type are the event's entries of the type, as they are ranked
pub entries_are : (tie : Tie) (kind : PayloadType) (w : Written)
    → entries_at tie w w.event.intervals (placed_from 0 (result_unwrap_or (layout w.event) [])) kind ≡ map (ranked tie) (entries_of kind w)
entries_are tie kind w = entries_from tie kind w 0 w.event.intervals (result_unwrap_or (layout w.event) [])
