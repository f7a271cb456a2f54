-- The next publication follows from the last one.
use Rattle.std.proofs.Common.{◌≡◌, ℕ, ◌+◌, List, [], ◌∷◌, ◌++◌, refl, sym, ap, subst, ◌∙◌, Result, Ok, Err, OnOk, OnErr}
use Rattle.std.proofs.lemmas.List.{append-nil}
use Rattle.logbook.specs.Pages.{Book as History}
use Rattle.adr_object.specs.declared.object.Edit.{Edit}
use Rattle.adr_model.specs.Book.{Book, empty}
use Rattle.adr_model.specs.Edits.{after_from}
use Rattle.adr_model.proofs.EditLemmas.{journals_go_on}
use Rattle.adr_book.specs.Ledger.{Ledger, closed_edits, journal_of, sealed_of}
use Rattle.adr_board.specs.History.{begun}
use Rattle.adr_board.specs.Publications.{EndsWith, opening_book, sealed}
use Rattle.adr_board.proofs.Histories.{first_attempt}
use Rattle.adr_board.proofs.Lasts.{last_batch_snoc}
use Rattle.adr_board.proofs.Linked.{ends_opened, ends_snoc}
use Rattle.adr_board.specs.declared.shown.Showing.{Showing}
use Rattle.adr_board.specs.Published.{PublishedBook, last_batch}
use Rattle.adr_board.specs.Rules.{IsCarried, IsLast}

-- from what the closed batches lead to the open one, which is the last of the sealed book, leads to the objects
pub leads_on : (book : Ledger) (before : Book) → after_from book.base (journal_of book) ≡ book.objects → before ≡ sealed_of book → (sealed book).objects ≡ after_from before (last_batch (sealed book).closed)
leads_on book before leads is =
    let on : after_from book.base (journal_of book) ≡ after_from (sealed_of book) book.pending = journals_go_on book.base (closed_edits book.closed) book.pending in
    let next : book.objects ≡ after_from before book.pending = sym leads ∙ (on ∙ ap (λ (b : Book). after_from b book.pending) (sym is)) in
    next ∙ ap (after_from before) (sym (last_batch_snoc book.closed book.pending))

-- where no batch is open the closed ones lead to the objects
pub all_closed : (book : Ledger) → after_from book.base (journal_of book) ≡ book.objects → book.pending ≡ [] → sealed_of book ≡ book.objects
all_closed book leads none =
    let whole : closed_edits book.closed ++ book.pending ≡ closed_edits book.closed = ap (λ (l : List Edit). closed_edits book.closed ++ l) none ∙ append-nil (closed_edits book.closed) in
    sym (ap (λ (l : List Edit). after_from book.base l) whole) ∙ leads

-- a base with no closed batches
pub no_batches : (book : Ledger) (base : Book) → book.base ≡ base → book.closed ≡ [] → base ≡ sealed_of book
unfolding after_from
no_batches book base is none = sym is ∙ sym (ap (λ (l : List (List Edit)). after_from book.base (closed_edits l)) none)

-- a condensed book is still what its closed batches lead to, up to the last publication
pub condensed : {X E : Type 0} (r : Result X E) (last at : Book) (old new : Ledger) → at ≡ last → last ≡ sealed_of old → OnOk r (new.base ≡ at) → OnOk r (new.closed ≡ []) → OnErr r (new ≡ old) → last ≡ sealed_of new
condensed (Ok x) last at old new same is base closed kept = no_batches new last (base ∙ same) closed
condensed (Err e) last at old new same is base closed kept = subst (λ (b : Ledger). last ≡ sealed_of b) (sym kept) is

-- what is the same after a refusal is so in each part
pub same_part : {X E D P : Type 0} (r : Result X E) (part : D → P) (new old : D) → OnErr r (new ≡ old) → OnErr r (part new ≡ part old)
same_part (Ok x) part new old same = tt
same_part (Err e) part new old same = ap part same

-- a publication that follows from the last one is the last of the longer list
pub follows_last : (v w : List Ledger) (last next : PublishedBook)
    → IsLast v last → next.number ≡ last.number + 1 → next.book.objects ≡ after_from last.book.objects (last_batch next.book.closed) → w ≡ v ++ next.book ∷ []
    → IsLast w next
follows_last v w last next ends number link more =
    let longer = ends_snoc v last.number last.book next.book ends link in
    subst (λ (l : List Ledger). IsLast l next) (sym more) (subst (λ (n : ℕ). EndsWith (v ++ next.book ∷ []) n next.book) (sym number) longer)

-- number 0 is carried with the history that begins with it
pub first_carried : (history : History) (t : Showing) → t.snapshot.number ≡ 0 → t.snapshot.book ≡ opening_book → t.page.book ≡ history → t.page.log ≡ begun opening_book ∷ [] → t.attempt ≡ 0 → IsCarried history (opening_book ∷ []) t
first_carried history t number is same log_is place =
    let begins : t.page.log ≡ begun t.snapshot.book ∷ [] = log_is ∙ ap (λ (r : Ledger). begun r ∷ []) (sym is) in
    (same, first_attempt t.page.log t.snapshot.number t.attempt t.snapshot.book begins number place is)

-- a new board's publication is its last
pub opened_last : (v : List Ledger) (s : PublishedBook) → v ≡ opening_book ∷ [] → s.number ≡ 0 → s.book ≡ opening_book → IsLast v s
opened_last v s is number book = rw (is, number, book) ends_opened

-- and what the closed batches of its desk lead to
pub opened_objects : (s : PublishedBook) (book : Ledger) → s.book ≡ opening_book → book.base ≡ empty → book.closed ≡ [] → s.book.objects ≡ sealed_of book
opened_objects s book first base closed = ap (λ (b : Ledger). b.objects) first ∙ no_batches book empty base closed

-- books that are the same in each part are the same
pub same_book : (a b : Ledger) → a.base ≡ b.base → a.objects ≡ b.objects → a.closed ≡ b.closed → a.pending ≡ b.pending → a ≡ b
same_book a b base objects closed pending =
    let whole : record { base = a.base; objects = a.objects; closed = a.closed; pending = a.pending } ≡ record { base = b.base; objects = b.objects; closed = b.closed; pending = b.pending } =
    rw (base, objects, closed, pending) refl in
    whole

-- a book with no base, no objects and no batch is that of publication 0
pub is_opening : (book : Ledger) → book.base ≡ empty → book.objects ≡ empty → book.closed ≡ [] → book.pending ≡ [] → book ≡ opening_book
is_opening book base objects closed pending = same_book book opening_book base objects closed pending
