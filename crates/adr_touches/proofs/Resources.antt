-- What an edit touches, in lists by resource.
use Rattle.std.proofs.Common.{◌≡◌, ◌⊎◌, inl, inr, ℕ, ◌∙◌, Bool, true, false, List, [], ◌++◌, map, ap, sym, subst, flat_map, Option, Some, None, if◌then◌else◌}
use Rattle.std.specs.List.{zip}
use Rattle.std.specs.Result.{result_unwrap_or}
use Rattle.std.proofs.lemmas.List.Folds.{flat_map-map}
use Rattle.adr_value.specs.declared.payload.PayloadType.{PayloadType}
use Rattle.adr_time.specs.Spans.{is_before}
use Rattle.adr_time.specs.declared.span.Span.{Span}
use Rattle.adr_object.specs.declared.event.Interval.{Interval}
use Rattle.adr_model.specs.declared.touch.Touch.{Touch}
use Rattle.adr_model.specs.declared.written.Written.{Written}
use Rattle.adr_model.specs.Book.{Book}
use Rattle.adr_model.specs.Layout.{layout}
use Rattle.adr_model.specs.Lists.{In}
use Rattle.adr_model.specs.Touches.{applying, types_of}
use Rattle.adr_model.proofs.Lists.{In-append_cases, In-from_flat_map, In-from_map}
use Rattle.adr_repair.specs.Table.{spans, spans_if_differs}
use Rattle.adr_touches.specs.declared.concern.Rows.{Rows}
use Rattle.adr_touches.specs.declared.concern.Rows.TheVariants.{Before, After, Both, Differing}
use Rattle.adr_touches.specs.Edited.{AreByResource, rows_between, rows_on}
use Rattle.adr_touches.specs.Windows.{touches_at, touches_in}

-- one after the other the lists are the whole list
pub joined : {X Y : Type 0} (f : X → List Y) (xs : List X) (whole : List Y) → flat_map f xs ≡ whole → flat_map (λ list. list) (map f xs) ≡ whole
joined f xs whole e = flat_map-map (λ list. list) f xs ∙ e

-- touches of one resource
abbrev AreOf : List ℕ → List Touch → Type 0
AreOf r list = (t : Touch) → In t list → t.resource ≡ r

in_window : (r : List ℕ) (window : Span) (kinds : List PayloadType) → AreOf r (touches_in r window kinds)
in_window r window kinds t m = let (k, there, is) = In-from_map _ kinds t m in ap (λ (x : Touch). x.resource) (sym is)

at_interval : (r : List ℕ) (p : Interval × Span) → AreOf r (touches_at r p)
at_interval r p = by (is_before p.1.start p.1.end)
  where
    by : (b : Bool) → AreOf r (if b then touches_in r p.1 (types_of p.0.payloads) else [])
    by true t m = in_window r p.1 (types_of p.0.payloads) t m
    by false t m = absurd m

of_event : (r : List ℕ) (o : Option Written) → AreOf r (spans r o)
of_event r None t m = absurd m
of_event r (Some w) t m =
    let (p, there, own) = In-from_flat_map (touches_at r) (zip w.event.intervals (result_unwrap_or (layout w.event) [])) t m in at_interval r p t own

of_both : (r : List ℕ) (a b : List Touch) → AreOf r a → AreOf r b → AreOf r (a ++ b)
of_both r a b f g t m = by (In-append_cases t a b m)
  where
    by : In t a ⊎ In t b → t.resource ≡ r
    by (inl n) = f t n
    by (inr n) = g t n

of_differing : (r : List ℕ) (a b : Option Written) → AreOf r (spans_if_differs r a b)
of_differing r None None t m = absurd m
of_differing r None (Some w) t m = of_event r (Some w) t m
of_differing r (Some w) None t m = of_event r (Some w) t m
of_differing r (Some w) (Some v) t m = absurd m

between : (rows : Rows) (r : List ℕ) (a b : Option Written) → AreOf r (rows_between rows r a b)
between Before r a b = of_event r a
between After r a b = of_event r b
between Both r a b = of_both r (spans r a) (spans r b) (of_event r a) (of_event r b)
between Differing r a b = of_differing r a b

module _ (old new : Book) (rows : Rows) (events : List (List ℕ)) where
  on : (r : List ℕ) → AreOf r (rows_on old new rows events r)
  on r t m =
      let (e, there, own) = In-from_flat_map (λ e. rows_between rows r (applying old r e) (applying new r e)) events t m in
      between rows r (applying old r e) (applying new r e) t own

  -- each list is of one resource
  pub by_resource : (resources : List (List ℕ)) → AreByResource (map (rows_on old new rows events) resources)
  by_resource resources list a b there m n =
      let (r, of, is) = In-from_map (rows_on old new rows events) resources list there in
      on r a (subst (λ l. In a l) (sym is) m) ∙ sym (on r b (subst (λ l. In b l) (sym is) n))
