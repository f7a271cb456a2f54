-- Lists of publications that grow.
use Rattle.std.proofs.Common.{◌≡◌, ℕ, ◌+◌, List, [], ◌∷◌, ◌++◌, length, take, get_or, refl, sym, ap, ◌∙◌, subst, arith, length-append}
use Rattle.std.proofs.Math.ListN.{get_or-map}
use Rattle.std.proofs.Math.Seq.{take-append_seam}
use Rattle.std.proofs.lemmas.List.{length-map}
use Rattle.adr_model.specs.Book.{Book, empty}
use Rattle.adr_model.specs.Edits.{after_from}
use Rattle.adr_model.specs.Laws.{AreLinked}
use Rattle.adr_model.specs.Machine.{opening}
use Rattle.adr_book.specs.Ledger.{Ledger}
use Rattle.adr_board.specs.Published.{last_batch}
use Rattle.adr_board.specs.Publications.{EndsWith, opening_book, publication_in, publications_in, sealed}
use Rattle.adr_board.proofs.Lasts.{last_batch_snoc}
use Rattle.adr_board.proofs.Prefixes.{prefix_trans}

-- one more is linked where its objects are what its last batch makes of those of the last one
linked_snoc : (book : Book) (ps : List Ledger) (p q : Ledger) → AreLinked book (publications_in (ps ++ p ∷ [])) → q.objects ≡ after_from p.objects (last_batch q.closed)
    → AreLinked book (publications_in ((ps ++ p ∷ []) ++ q ∷ []))
linked_snoc book [] p q linked next = (linked.0, (next, tt))
linked_snoc book (x ∷ xs) p q linked next = (linked.0, linked_snoc x.objects xs p q linked.1 next)

-- one more publication
pub ends_snoc : (v : List Ledger) (n : ℕ) (p q : Ledger) → EndsWith v n p → q.objects ≡ after_from p.objects (last_batch q.closed) → EndsWith (v ++ q ∷ []) (n + 1) q
ends_snoc v n p q e next =
    let long : take (n + 1) (v ++ q ∷ []) ≡ v = ap (λ (m : ℕ). take m (v ++ q ∷ [])) (sym e.numbered) ∙ take-append_seam v (q ∷ []) in record {
      opens = prefix_trans (opening_book ∷ []) v (v ++ q ∷ []) e.opens (q ∷ [], refl);
      linked = subst (λ (w : List Ledger). AreLinked empty (publications_in (w ++ q ∷ []))) (sym e.last_is)
          (linked_snoc empty (take n v) p q (subst (λ (w : List Ledger). AreLinked empty (publications_in w)) e.last_is e.linked) next);
      numbered = omega (arith, length-append v (q ∷ []), e.numbered);
      last_is = ap (λ (w : List Ledger). w ++ q ∷ []) (sym long);
    }

-- publication 0 alone
pub ends_opened : EndsWith (opening_book ∷ []) 0 opening_book
unfolding after_from
ends_opened = record { opens = ([], refl); linked = (refl, tt); numbered = refl; last_is = refl }

-- ---- what they are to the machine

pub publications_long : (ps : List Ledger) → length (publications_in ps) ≡ length ps
publications_long ps = length-map ps publication_in

pub publication_at : (ps : List Ledger) (n : ℕ) → get_or (publications_in ps) n opening ≡ publication_in (get_or ps n opening_book)
publication_at ps n = get_or-map publication_in ps n opening_book

-- a sealed book is one more publication, of its objects and the batch that was open
pub publications_push : (ps : List Ledger) (book : Ledger) → publications_in (ps ++ sealed book ∷ []) ≡ publications_in ps ++ record { book = book.objects; batch = book.pending } ∷ []
publications_push [] book = ap (λ batch. record { book = book.objects; batch = batch } ∷ []) (last_batch_snoc book.closed book.pending)
publications_push (p ∷ ps) book = ap (λ l. publication_in p ∷ l) (publications_push ps book)
