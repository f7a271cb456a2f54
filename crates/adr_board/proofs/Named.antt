-- Names of private types, over edits.
use Rattle.std.proofs.Common.{◌≡◌, ℕ, List, [], ◌∷◌, refl, sym, ap, subst, ◌∙◌, Result, Ok, Err}
use Rattle.std.specs.Result.{result_unwrap_or}
use Rattle.std.specs.List.{flat_map}
use Rattle.adr_refusal.specs.declared.refusal.Refusal.{Refusal}
use Rattle.adr_value.specs.declared.limits.TheConstants.{MOST_VERSION}
use Rattle.adr_object.specs.declared.object.Edit.{Edit}
use Rattle.adr_model.specs.Book.{Book, empty}
use Rattle.adr_model.specs.Edits.{after_from, step, step_to}
use Rattle.adr_model.proofs.Lists.{In-append_left, In-append_right}
use Rattle.adr_book.specs.Ledger.{Ledger, journal_of, joined}
use Rattle.adr_board.specs.Types.{ArePrivate, edit_names, HasPrivateNames}

abbrev pub StaysPrivate : Type 0
StaysPrivate = (full : ℕ) (old new : Book) (x : Edit) → HasPrivateNames old → ArePrivate (edit_names x) → step_to full old x ≡ Ok new → HasPrivateNames new

abbrev pub no_names : HasPrivateNames empty
no_names name m = absurd m

both : (x : Edit) (xs : List Edit) → ArePrivate (flat_map edit_names (x ∷ xs)) → ArePrivate (edit_names x) × ArePrivate (flat_map edit_names xs)
both x xs own =
    (λ name m. own name (In-append_left name (edit_names x) (flat_map edit_names xs) m), λ name m. own name (In-append_right name (edit_names x) (flat_map edit_names xs) m))

one : (r : Result Book Refusal) (b : Book) (x : Edit) → StaysPrivate → step_to MOST_VERSION b x ≡ r → HasPrivateNames b → ArePrivate (edit_names x) → HasPrivateNames (result_unwrap_or r b)
one (Ok new) b x law is names own = law MOST_VERSION b new x names own is
one (Err e) b x law is names own = names

-- edits that bring private types under names of their own alone leave those names alone
after_private : (edits : List Edit) (b : Book) → StaysPrivate → HasPrivateNames b → ArePrivate (flat_map edit_names edits) → HasPrivateNames (after_from b edits)
unfolding after_from
after_private [] b law names own = names
after_private (x ∷ xs) b law names own =
    let (here, rest) = both x xs own in
    after_private xs (result_unwrap_or (step b x) b) law (one (step b x) b x law refl names here) rest

-- so do those of a book that starts from nothing and has no closed batch
pub first_batch_private : (book : Ledger) → StaysPrivate → after_from book.base (journal_of book) ≡ book.objects → book.base ≡ empty → book.closed ≡ [] → ArePrivate (flat_map edit_names book.pending) → HasPrivateNames book.objects
first_batch_private book law leads base closed own =
    let is : after_from empty book.pending ≡ book.objects = sym (ap (λ (b : Book). after_from b book.pending) base) ∙ (sym (ap (λ (l : List (List Edit)). after_from book.base (joined l book.pending)) closed) ∙ leads) in
    subst HasPrivateNames is (after_private book.pending empty law no_names own)
