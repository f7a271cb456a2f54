-- The edits of all batches, as the journal grows and as it is condensed.
use Rattle.std.proofs.Common.{◌≡◌, ℕ, List, [], ◌∷◌, ◌++◌, ◌≤◌, Ok, append_assoc, length-append, refl, ap, sym, subst, ◌∙◌, arith}
use Rattle.std.proofs.lemmas.Grind.{flat_map-append}
use Rattle.std.proofs.lemmas.List.{append-nil}
use Rattle.std.proofs.lemmas.List.Concat.{flat_map-cons}
use Rattle.adr_value.specs.Limits.{limits}
use Rattle.adr_value.specs.declared.limits.TheConstants.{MOST_VERSION}
use Rattle.adr_object.specs.declared.object.Edit.{Edit}
use Rattle.adr_object.specs.declared.object.Kind.{Kind}
use Rattle.adr_object.specs.declared.object.Kind.TheVariants.{Program as program_kind, Event as event_kind, Ven as ven_kind, Resource as resource_kind}
use Rattle.adr_model.specs.Book.{Book, empty}
use Rattle.adr_model.specs.Edits.{after_from, count_of, full_at, most_objects, step, step_to}
use Rattle.adr_model.proofs.EditLemmas.{accepted_edits_count, after_from_push, after_from_versions, bases_only_refuse, journals_go_on}
use Rattle.adr_model.specs.Whole.{IsWhole}
use Rattle.adr_model.specs.Within.{IsWithin}
use Rattle.adr_model.proofs.Whole.{after_from_whole, after_whole}
use Rattle.adr_model.proofs.Within.{books_are_within, edits_keep_limits}
use Rattle.adr_book.specs.Ledger.{Leads, closed_edits, joined}

-- once the open batch is closed too, the closed ones have all edits
pub all_closed : (closed : List (List Edit)) (pending : List Edit) → closed_edits (closed ++ pending ∷ []) ≡ joined closed pending
all_closed closed pending = simp (flat_map-append, flat_map-cons, append-nil)

-- edits keep the limits
after_from_within : (base : Book) (edits : List Edit) → IsWhole base → IsWithin limits MOST_VERSION base → IsWithin limits MOST_VERSION (after_from base edits)
unfolding after_from
after_from_within base edits w within = edits_keep_limits limits MOST_VERSION base edits w.sound.ids within

-- within the limits there are no more of a kind than its limit
pub counted_within : (full : ℕ) (book : Book) → IsWithin limits full book → (kind : Kind) → count_of book kind ≤ most_objects kind
counted_within full book w program_kind = w.programs
counted_within full book w event_kind = w.events
counted_within full book w ven_kind = w.vens
counted_within full book w resource_kind = w.resources

-- over a later base a book is full no earlier
full_later : (version base later : ℕ) → version ≤ full_at base → base ≤ later → version ≤ full_at later
full_later version base later room le = omega (arith, room, le)

-- no edits lead from the empty book to itself
pub from_nothing : Leads empty [] empty
unfolding after_from
from_nothing = record { whole = after_whole []; within = books_are_within []; leads = refl; counted = refl; room = omega arith }

module _ (base : Book) where
  pub led_whole : (edits : List Edit) (objects : Book) → Leads base edits objects → IsWhole objects
  led_whole edits objects l = subst (λ b. IsWhole b) l.leads (after_from_whole edits base l.whole)

  pub led_within : (edits : List Edit) (objects : Book) → Leads base edits objects → IsWithin limits MOST_VERSION objects
  led_within edits objects l = subst (λ b. IsWithin limits MOST_VERSION b) l.leads (after_from_within base edits l.whole l.within)

  -- an accepted edit leads on
  pub led_on : (edits : List Edit) (x : Edit) (old new : Book) → Leads base edits old → step_to (full_at base.version) old x ≡ Ok new → Leads base (edits ++ x ∷ []) new
  led_on edits x old new l s =
      let (more, below) = accepted_edits_count (full_at base.version) old new x s in
      record {
        whole = l.whole;
        within = l.within;
        leads = after_from_push base edits x old new l.leads (bases_only_refuse base.version old new x s);
        counted = omega (arith, more, l.counted, length-append edits (x ∷ []));
        room = omega (arith, more, below);
      }

  pub led_by_one_more : (closed : List (List Edit)) (pending : List Edit) (x : Edit) (old new : Book) → Leads base (joined closed pending) old → step_to (full_at base.version) old x ≡ Ok new
      → Leads base (joined closed (pending ++ x ∷ [])) new
  led_by_one_more closed pending x old new l s =
      let apart : joined closed pending ++ x ∷ [] ≡ joined closed (pending ++ x ∷ []) = append_assoc (closed_edits closed) pending (x ∷ []) in
      subst (λ edits. Leads base edits new) apart (led_on (joined closed pending) x old new l s)

  -- from what the closed batches lead to, the open one leads to the same
  pub led_from : (closed : List (List Edit)) (pending : List Edit) (objects at : Book) → Leads base (joined closed pending) objects → at ≡ after_from base (closed_edits closed)
      → Leads at pending objects
  led_from closed pending objects at l e =
      let goes_on : after_from at pending ≡ objects =
      ap (λ b. after_from b pending) e ∙ sym (journals_go_on base (closed_edits closed) pending) ∙ l.leads in
      let same = ap (λ (b : Book). b.version) e in
      let above = after_from_versions (closed_edits closed) base in
      let below = after_from_versions pending at in
      let last = ap (λ (b : Book). b.version) goes_on in
      let long = length-append (closed_edits closed) pending in
      record {
        whole = subst (λ b. IsWhole b) (sym e) (after_from_whole (closed_edits closed) base l.whole);
        within = subst (λ b. IsWithin limits MOST_VERSION b) (sym e) (after_from_within base (closed_edits closed) l.whole l.within);
        leads = goes_on;
        counted = omega (arith, same, above, below, last, l.counted, long);
        room = full_later objects.version base.version at.version l.room (omega (arith, same, above, below, last, l.counted, long));
      }
