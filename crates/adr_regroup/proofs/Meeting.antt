-- Of some writes that apply to a resource no more entries meet a window than of all events that do.
use Rattle.std.proofs.Common.{◌≡◌, ℕ, ◌≤◌, true, List, [], length, map, filter, flat_map, Option, Some, ap, sym, subst, ◌∙◌, arith}
use Rattle.std.proofs.lemmas.List.{length-map}
use Rattle.std.specs.Option.{option_map_or}
use Rattle.adr_value.specs.Payload.{name_of}
use Rattle.adr_value.specs.declared.payload.PayloadType.{PayloadType}
use Rattle.adr_time.specs.Spans.{meets}
use Rattle.adr_time.specs.declared.span.Span.{Span}
use Rattle.adr_object.specs.declared.party.Resource.{Resource}
use Rattle.adr_model.specs.declared.entry.Entry.{Entry}
use Rattle.adr_model.specs.declared.entry.Tie.{Tie}
use Rattle.adr_model.specs.declared.written.Written.{Written}
use Rattle.adr_model.specs.Book.{Book, resource_by}
use Rattle.adr_model.specs.Entries.{meeting}
use Rattle.adr_model.specs.Governor.{applies_to, entries_for, entries_of}
use Rattle.adr_model.specs.Lists.{In}
use Rattle.adr_model.specs.Rank.{ranked}
use Rattle.adr_model.proofs.Lists.{In-filter, In-from_filter, In-flat_map, In-from_flat_map, In-map, In-from_map}
use Rattle.adr_repair.proofs.Inside.{number_of_entry}
use Rattle.adr_timeline.specs.Build.{most_compared}
use Rattle.adr_lines.specs.Right.{all_of, has_number, written_in}
use Rattle.adr_lines.specs.declared.indexes.Indexes.{Indexes}
use Rattle.adr_lines.specs.Exchange.{IsIndexOf}
use Rattle.adr_lines.specs.Indexes.{under}
use Rattle.adr_lines.proofs.Distinct.{distinct_kept, no_more}
use Rattle.adr_group.proofs.Costs.{cost_rises}

module _ (tie : Tie) (events : List Written) (indexes : Indexes) (indexed : IsIndexOf tie events indexes) (book : Book) (r : Resource) (found : resource_by book r.id ≡ Some r)
    (writes : List ℕ) (fit : (w : Written) → In w events → has_number writes w.written ≡ true → In w book.events × (applies_to book r w ≡ true)) where
  -- an entry of the writes is one of the resource, as it is ranked
  held : (k : PayloadType) (e : Entry) → In e (written_in writes (under indexes k)) → (f : Entry) × In f (entries_for book r.id k) × (ranked tie f ≡ e)
  unfolding IsIndexOf
  held k e m =
      let own = In-from_filter (λ (x : Entry). has_number writes x.rank.written) (under indexes k) e m in
      let at = In-from_map (ranked tie) (all_of events k) e ((indexed k e).0 own.0) in
      let from = In-from_flat_map (entries_of k) events at.0 at.1 in
      let number : from.0.written ≡ e.rank.written = sym (number_of_entry k from.0 at.0 from.2) ∙ ap (λ (x : Entry). x.rank.written) at.2 in
      let fits = fit from.0 from.1 (ap (has_number writes) number ∙ own.1) in
      let there : In at.0 (flat_map (entries_of k) (filter (applies_to book r) book.events)) =
      In-flat_map (entries_of k) (filter (applies_to book r) book.events) from.0 at.0 (In-filter (applies_to book r) book.events from.0 fits.0 fits.1) from.2 in
      (at.0, subst (λ (o : Option Resource). In at.0 (option_map_or (λ q. flat_map (entries_of k) (filter (applies_to book q) book.events)) o [])) (sym found) there, at.2)

  meets_no_more : (k : PayloadType) (s : Span) → length (meeting (written_in writes (under indexes k)) s) ≤ length (meeting (entries_for book r.id k) s)
  meets_no_more k s =
      let mine = written_in writes (under indexes k) in
      let all = meeting (entries_for book r.id k) s in
      let once = distinct_kept (λ x. meets x.span s) mine (distinct_kept (λ x. has_number writes x.rank.written) (under indexes k) (indexes.distinct (name_of k))) in
      let few = no_more (meeting mine s) (map (ranked tie) all) once (λ e m. inside e m) in
      omega (arith, few, length-map all (ranked tie))
    where
      inside : (e : Entry) → In e (meeting (written_in writes (under indexes k)) s) → In e (map (ranked tie) (meeting (entries_for book r.id k) s))
      inside e m =
          let a = In-from_filter (λ (x : Entry). meets x.span s) (written_in writes (under indexes k)) e m in
          let f = held k e a.0 in
          subst (λ z. In z (map (ranked tie) (meeting (entries_for book r.id k) s))) f.2
          (In-map (ranked tie) (meeting (entries_for book r.id k) s) f.0
          (In-filter (λ (x : Entry). meets x.span s) (entries_for book r.id k) f.0 f.1 (ap (λ (x : Entry). meets x.span s) f.2 ∙ a.1)))

  pub compares_no_more : (k : PayloadType) (s : Span) → most_compared (written_in writes (under indexes k)) s ≤ most_compared (entries_for book r.id k) s
  compares_no_more k s = cost_rises (length (meeting (written_in writes (under indexes k)) s)) (length (meeting (entries_for book r.id k) s)) (meets_no_more k s)
