-- The segments of a window lie in it.
use Rattle.std.proofs.Common.{◌≡◌, ℕ, ℤ, ◌≤ℤ◌, Bool, true, false, ◌&&◌, ◌||◌, cond, List, [], ◌∷◌, Option, Some, None, refl, sym, ◌∙◌, arith}
use Rattle.std.specs.Prelude.{int_le, int_lt, filter_map}
use Rattle.std.specs.List.{AllByRecursion, cons_option, list_any}
use Rattle.std.specs.Option.{option_map}
use Rattle.std.specs.Ordering.{int_eq}
use Rattle.std.proofs.lemmas.Int.{ints}
use Rattle.std.proofs.lemmas.Bool.{and_parts}
use Rattle.adr_value.specs.declared.payload.PayloadType.{PayloadType}
use Rattle.adr_time.specs.declared.span.End.{End}
use Rattle.adr_time.specs.declared.span.End.TheVariants.{At, Endless}
use Rattle.adr_model.specs.declared.entry.Tie.{Tie}
use Rattle.adr_model.specs.declared.timeline.Winner.{Winner}
use Rattle.adr_model.specs.Answer.{until}
use Rattle.adr_model.specs.Book.{Book}
use Rattle.adr_model.specs.Governor.{governs}
use Rattle.adr_model.specs.Queries.{beginnings, begins, end_within}
use Rattle.adr_model.proofs.QueryLaws.{segments_begin_at_changes}
use Rattle.adr_calendar.specs.Segments.{segment_from, segments_within}
use Rattle.adr_resolver.specs.Laws.{IsInside}

itself : (u : ℤ) (us : List ℤ) → (int_eq u u || list_any (int_eq u) us) ≡ true
itself u us = grind (arith, ints)

among : (b c : Bool) → c ≡ true → (b || c) ≡ true
among true c h = refl
among false c h = h

module _ (tie : Tie) (book : Book) (id : List ℕ) (kind : PayloadType) (from to : ℤ) where
  abbrev end_at : ℤ → ℤ
  end_at u = end_within to (until tie book id kind u)

  no_later : (e : End) → end_within to e ≤ℤ to
  no_later (At v) = by (int_lt v to) refl
    where
      by : (b : Bool) → int_lt v to ≡ b → cond b v to ≤ℤ to
      by true h = grind (arith, ints)
      by false h = omega (arith, ints)
  no_later Endless = omega (arith, ints)

  no_sooner : (u : ℤ) → list_any (int_eq u) (beginnings tie book id kind from to) ≡ true → from ≤ℤ u
  no_sooner u m =
      let (low, rest) = and_parts (int_le from u) (int_lt u to && begins tie book id kind from u) (sym (segments_begin_at_changes tie book id kind from to u) ∙ m) in
      is_least from u low
    where
      is_least : (a b : ℤ) → int_le a b ≡ true → a ≤ℤ b
      is_least a b h = grind (arith, ints)

  each_inside : (us : List ℤ) → ((u : ℤ) → list_any (int_eq u) us ≡ true → from ≤ℤ u) → AllByRecursion (IsInside from to) (filter_map (segment_from tie book id kind to) us)
  each_inside [] each = tt
  each_inside (u ∷ us) each = by (governs tie book id kind u) (each_inside us (λ v m. each v (among (int_eq v u) (list_any (int_eq v) us) m)))
    where
      by : (o : Option Winner) → AllByRecursion (IsInside from to) (filter_map (segment_from tie book id kind to) us)
          → AllByRecursion (IsInside from to) (cons_option (option_map (λ w. record { start = u; end = At (end_at u); winner = w }) o) (filter_map (segment_from tie book id kind to) us))
      by None rest = rest
      by (Some w) rest = ((end_at u, each u (itself u us), refl, no_later (until tie book id kind u)), rest)

  pub segments_lie_inside : AllByRecursion (IsInside from to) (segments_within tie book id kind from to)
  segments_lie_inside = each_inside (beginnings tie book id kind from to) no_sooner
