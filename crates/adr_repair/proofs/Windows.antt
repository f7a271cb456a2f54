-- The touches of an event cover an instant just where its entries do.
use Rattle.std.proofs.Common.{◌≡◌, ℕ, ℤ, ◌+◌, Bool, true, false, not, ◌&&◌, ◌||◌, if◌then◌else◌, List, [], ◌∷◌, map, refl, ap, ap₂, sym, subst, ◌∙◌, filter, flat_map, filter_map, arith}
use Rattle.std.specs.List.{list_any, enumerate_from, zip, cons_option}
use Rattle.std.specs.Str.{bytes_eq}
use Rattle.std.specs.Bool.{then_some}
use Rattle.std.specs.Result.{result_unwrap_or}
use Rattle.std.proofs.lemmas.Int.{ints}
use Rattle.std.proofs.lemmas.List.Folds.{list_any-append}
use Rattle.std.proofs.lemmas.Bool.{not-false, false_from_ne_true, both_ways}
use Rattle.adr_value.specs.Same.{same_type}
use Rattle.adr_value.specs.Payload.{name_of}
use Rattle.adr_value.specs.declared.payload.PayloadType.{PayloadType}
use Rattle.adr_time.specs.Spans.{covers, is_before}
use Rattle.adr_time.specs.declared.span.End.{End}
use Rattle.adr_time.specs.declared.span.End.TheVariants.{At, Endless}
use Rattle.adr_time.specs.declared.span.Span.{Span}
use Rattle.adr_object.specs.declared.event.Interval.{Interval}
use Rattle.adr_object.specs.declared.event.Payload.{Payload}
use Rattle.adr_model.specs.declared.touch.Touch.{Touch}
use Rattle.adr_model.specs.declared.written.Written.{Written}
use Rattle.adr_model.specs.Layout.{layout}
use Rattle.adr_model.specs.Rank.{carries}
use Rattle.adr_model.specs.Governor.{entry_at, entries_of}
use Rattle.adr_model.specs.Touches.{types_of, touches_of}
use Rattle.adr_repair.specs.Windows.{is_window_at}
use Rattle.adr_model.proofs.Lists.{list_any-filter, same_bytes}

-- ---- tests

distribute : (x a b v : Bool) → ((x && (a && v)) || (x && (b && v))) ≡ (x && ((a || b) && v))
distribute false a b v = refl
distribute true false b v = refl
distribute true true b true = refl
distribute true true true false = refl
distribute true true false false = refl

join : (x a b : Bool) → ((x && a) || (x && b)) ≡ (x && (a || b))
join true a b = refl
join false a b = refl

nothing : (x : Bool) → (x && false) ≡ false
nothing true = refl
nothing false = refl

factor : {X : Type 0} (x v : Bool) (S : X → Bool) (ks : List X) → list_any (λ k. x && (S k && v)) ks ≡ (x && (list_any S ks && v))
factor x v S [] = sym (nothing x)
factor x v S (k ∷ ks) = ap (λ (r : Bool). (x && (S k && v)) || r) (factor x v S ks) ∙ distribute x (S k) (list_any S ks) v

list_any-map : {X Y : Type 0} (p : Y → Bool) (f : X → Y) (xs : List X) → list_any p (map f xs) ≡ list_any (λ x. p (f x)) xs
list_any-map p f [] = refl
list_any-map p f (x ∷ xs) = ap (λ (r : Bool). p (f x) || r) (list_any-map p f xs)

-- ---- spans and types

-- a span that covers an instant lasts
lasts : (start : ℤ) (e : End) (t : ℤ) → covers (record { start = start; end = e }) t ≡ true → is_before start e ≡ true
lasts start (At u) t h = grind (arith, ints)
lasts start Endless t h = refl

-- the payload types, each once, are those of the payloads
pub types_carried : (kind : PayloadType) (ps : List Payload) → list_any (λ k. same_type k kind) (types_of ps) ≡ list_any (λ p. same_type p.kind kind) ps
types_carried kind [] = refl
types_carried kind (p ∷ ps) = by (same_type p.kind kind) refl (types_carried kind ps)
  where
    by : (b : Bool) → same_type p.kind kind ≡ b → list_any (λ k. same_type k kind) (types_of ps) ≡ list_any (λ q. same_type q.kind kind) ps
        → (b || list_any (λ k. same_type k kind) (filter (λ k. not (same_type p.kind k)) (types_of ps))) ≡ (b || list_any (λ q. same_type q.kind kind) ps)
    by true t rest = refl
    by false t rest =
        list_any-filter (λ k. same_type k kind) (λ k. not (same_type p.kind k)) (types_of ps)
        (λ k h. subst (λ (n : List ℕ). bytes_eq n (name_of kind) ≡ false) (same_bytes (name_of p.kind) (name_of k) (not-false (same_type p.kind k) h)) t)
        ∙ rest

-- ---- an event

module _ (id r : List ℕ) (kind : PayloadType) (t : ℤ) where
  abbrev touch_at : Span → PayloadType → Touch
  touch_at span k = record { resource = r; kind = k; window = span }

  -- one interval
  part : (i : Interval) (s : Span)
      → list_any (is_window_at id kind t) (if is_before s.start s.end then map (touch_at s) (types_of i.payloads) else [])
      ≡ (bytes_eq id r && (carries i kind && covers s t))
  part i s = by (is_before s.start s.end) refl
    where
      by : (b : Bool) → is_before s.start s.end ≡ b
          → list_any (is_window_at id kind t) (if b then map (touch_at s) (types_of i.payloads) else []) ≡ (bytes_eq id r && (carries i kind && covers s t))
      by true e =
          list_any-map (is_window_at id kind t) (touch_at s) (types_of i.payloads)
          ∙ factor (bytes_eq id r) (covers s t) (λ k. same_type k kind) (types_of i.payloads)
          ∙ ap (λ (c : Bool). bytes_eq id r && (c && covers s t)) (types_carried kind i.payloads)
      by false e =
          let none : covers s t ≡ false = false_from_ne_true (covers s t) (λ c. both_ways (is_before s.start s.end) e (lasts s.start s.end t c)) in
          sym (ap (λ (v : Bool). bytes_eq id r && (carries i kind && v)) none ∙ ap (λ (v : Bool). bytes_eq id r && v) (nothing (carries i kind)) ∙ nothing (bytes_eq id r))

  -- all intervals
  parts : (w : Written) (ps : List (Interval × Span)) (n : ℕ)
      → list_any (is_window_at id kind t) (flat_map (λ p. if is_before p.1.start p.1.end then map (touch_at p.1) (types_of p.0.payloads) else []) ps)
      ≡ (bytes_eq id r && list_any (λ e. covers e.span t) (filter_map (λ p. then_some (carries p.1.0 kind) (entry_at w p.0 p.1.1)) (enumerate_from n ps)))
  parts w [] n = sym (nothing (bytes_eq id r))
  parts w (p ∷ ps) n =
      list_any-append (is_window_at id kind t) (if is_before p.1.start p.1.end then map (touch_at p.1) (types_of p.0.payloads) else []) _
      ∙ ap₂ (λ (a b : Bool). a || b) (part p.0 p.1) (parts w ps (n + 1))
      ∙ join (bytes_eq id r) (carries p.0 kind && covers p.1 t) _
      ∙ ap (λ (v : Bool). bytes_eq id r && v) (by (carries p.0 kind))
    where
      by : (c : Bool) → ((c && covers p.1 t) || list_any (λ e. covers e.span t) (filter_map (λ q. then_some (carries q.1.0 kind) (entry_at w q.0 q.1.1)) (enumerate_from (n + 1) ps)))
          ≡ list_any (λ e. covers e.span t) (cons_option (then_some c (entry_at w n p.1)) (filter_map (λ q. then_some (carries q.1.0 kind) (entry_at w q.0 q.1.1)) (enumerate_from (n + 1) ps)))
      by true = refl
      by false = refl

  pub event_touches : (w : Written)
      → list_any (is_window_at id kind t) (touches_of r w) ≡ (bytes_eq id r && list_any (λ e. covers e.span t) (entries_of kind w))
  event_touches w = parts w (zip w.event.intervals (result_unwrap_or (layout w.event) [])) 0
