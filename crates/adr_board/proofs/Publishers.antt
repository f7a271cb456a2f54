-- What stays and what goes on of a publisher, and of the editor that has it.
use Rattle.std.proofs.Common.{◌≡◌, ◌⊎◌, ℕ, ◌+◌, ◌*◌, true, false, List, [], ◌∷◌, ◌++◌, length, refl, sym, ap, subst, ◌∙◌, arith}
use Rattle.logbook.specs.Pages.{Book as History}
use Rattle.adr_model.specs.declared.entry.Tie.{Tie}
use Rattle.adr_model.specs.Book.{Book, empty}
use Rattle.adr_model.specs.Edits.{after_from}
use Rattle.adr_book.specs.Ledger.{Ledger, sealed_of}
use Rattle.adr_board.specs.declared.diary.DiaryEntry.{DiaryEntry}
use Rattle.adr_board.specs.History.{HasLast, begun, ended, published_by}
use Rattle.adr_board.specs.Publications.{opening_book, sealed}
use Rattle.adr_board.specs.Published.{PublishedBook, last_batch}
use Rattle.adr_board.specs.Publishers.{gone_on, next_of, opening_of, FollowsLast, IsShownAs, Publishing}
use Rattle.adr_board.specs.Rules.{IsLast}
use Rattle.adr_board.specs.Types.{HasPrivateNames}
use Rattle.adr_board.proofs.Following.{condensed, follows_last, opened_last, opened_objects}
use Rattle.adr_board.proofs.Histories.{after_shown, after_undone}

-- ---- of a publisher

-- snapshots that are the same in each part are the same
pub same_published : (a b : PublishedBook) → a.number ≡ b.number → a.tie ≡ b.tie → a.book ≡ b.book → a ≡ b
same_published a b number rule book =
    let whole : record { number = a.number; tie = a.tie; book = a.book } ≡ record { number = b.number; tie = b.tie; book = b.book } = rw (number, rule, book) refl in
    whole

-- a new one
pub opens : (tie : Tie) (book : Ledger) → book.base ≡ empty → book.closed ≡ [] → HasPrivateNames book.objects → FollowsLast tie book (opening_of tie)
opens tie book base closed names =
    record { leads = opened_objects (opening_of tie) book refl base closed; rule = refl; most = omega arith; names = names }

-- edits leave what the closed batches lead to
pub still_follows : (tie : Tie) (old new : Ledger) (rule : Tie) (last : PublishedBook) → FollowsLast tie old last → rule ≡ tie → new.base ≡ old.base → new.closed ≡ old.closed → HasPrivateNames new.objects → FollowsLast rule new last
still_follows tie old new rule last kept same base closed names =
    record { leads = kept.leads ∙ cc (base, closed); rule = kept.rule ∙ sym same; most = kept.most; names = names }

-- ---- of an editor

module _ (tie : Tie) (history : History) where
  -- a new one
  pub opens_shown : (p : Publishing) (shown : PublishedBook) (published : List Ledger) (noted : History) (log : List DiaryEntry) (attempt : ℕ)
      → p.tie ≡ tie → p.last ≡ opening_of tie → shown ≡ opening_of tie → published ≡ opening_book ∷ [] → noted ≡ history → published_by log ≡ opening_book ∷ [] → HasLast log 0 attempt
      → IsShownAs tie history p shown published noted log attempt
  opens_shown p shown published noted log attempt rule last first known same says numbered =
      record {
        shown_is = last ∙ sym first;
        last = opened_last published p.last known (ap (λ s. s.number) last) (ap (λ s. s.book) last);
        rule = rule;
        history_is = same;
        says = says ∙ sym known;
        numbered = subst (λ (n : ℕ). HasLast log n attempt) (sym (ap (λ s. s.number) last)) numbered;
      }

  -- where the publisher's last publication stays
  pub still_shown : (old new : Publishing) (shown : PublishedBook) (published : List Ledger) (noted : History) (log : List DiaryEntry) (attempt : ℕ)
      → new.tie ≡ old.tie → new.last ≡ old.last → IsShownAs tie history old shown published noted log attempt → IsShownAs tie history new shown published noted log attempt
  still_shown old new shown published noted log attempt rule last kept =
      record {
        shown_is = last ∙ kept.shown_is;
        last = subst (IsLast published) (sym last) kept.last;
        rule = rule ∙ kept.rule;
        history_is = kept.history_is;
        says = kept.says;
        numbered = subst (λ (s : PublishedBook). HasLast log s.number attempt) (sym last) kept.numbered;
      }

  -- where readers were not shown the next one
  pub undone : (p : Publishing) (shown now : PublishedBook) (published known : List Ledger) (noted same : History) (log new : List DiaryEntry) (attempt : ℕ) (tried : Ledger)
      → now ≡ shown → known ≡ published → same ≡ noted → (new ≡ log) ⊎ (new ≡ log ++ begun tried ∷ ended false tried ∷ [])
      → IsShownAs tie history p shown published noted log attempt → IsShownAs tie history p now known same new attempt
  undone p shown now published known noted same log new attempt tried is list book is_log kept =
      let after = after_undone log new tried p.last.number attempt published is_log kept.says kept.numbered in
      record {
        shown_is = kept.shown_is ∙ sym is;
        last = subst (λ (v : List Ledger). IsLast v p.last) (sym list) kept.last;
        rule = kept.rule;
        history_is = book ∙ kept.history_is;
        says = after.0 ∙ sym list;
        numbered = after.1;
      }

  -- where they were
  pub goes_on : (p : Publishing) (shown now next : PublishedBook) (published known : List Ledger) (noted same : History) (log new : List DiaryEntry) (attempt attempts : ℕ) (tried : Ledger)
      → next ≡ next_of p → next.book.objects ≡ after_from p.last.book.objects (last_batch next.book.closed)
      → now ≡ next → tried ≡ next.book → known ≡ published ++ tried ∷ [] → same ≡ noted → new ≡ log ++ begun tried ∷ ended true tried ∷ [] → length log ≡ 2 * attempts
      → IsShownAs tie history p shown published noted log attempt → IsShownAs tie history (gone_on p) now known same new attempts
  goes_on p shown now next published known noted same log new attempt attempts tried is link shows book list history_is noted_is long kept =
      let tried_is : tried ≡ sealed p.book = book ∙ ap (λ s. s.book) is in
      let more : known ≡ published ++ sealed p.book ∷ [] = list ∙ ap (λ (b : Ledger). published ++ b ∷ []) tried_is in
      let leads = subst (λ (s : PublishedBook). s.book.objects ≡ after_from p.last.book.objects (last_batch s.book.closed)) is link in
      let after = after_shown log new tried (sealed p.book) (p.last.number + 1) attempts published known noted_is kept.says long kept.last.numbered more (sym tried_is) in
      record {
        shown_is = sym (shows ∙ is);
        last = follows_last published known p.last (next_of p) kept.last refl leads more;
        rule = kept.rule;
        history_is = history_is ∙ kept.history_is;
        says = after.0;
        numbered = after.1;
      }
