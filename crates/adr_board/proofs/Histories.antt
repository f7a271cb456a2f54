-- What histories say.
use Rattle.std.proofs.Common.{◌≡◌, ◌⊎◌, inl, inr, ℕ, ◌+◌, ◌*◌, ◌<◌, ◌≤◌, Bool, true, false, List, [], ◌∷◌, ◌++◌, length, refl, sym, ap, ◌∙◌, subst, arith, length-append, append_assoc}
use Rattle.std.proofs.lemmas.List.{append-nil}
use mathlib.Core.List.{IsPrefix}
use Rattle.adr_book.specs.Ledger.{Ledger}
use Rattle.adr_board.specs.Publications.{opening_book}
use Rattle.adr_board.specs.declared.diary.DiaryEntry.{DiaryEntry}
use Rattle.adr_board.specs.History.{ended, begun, put_if, published_by, seen_by, EndsInAttempt, HasLast}
use Rattle.adr_board.proofs.Prefixes.{prefix_self, prefix_trans, prefix_whole, prefix_shorter}

put_append : (b : Bool) (p : Ledger) (xs ys : List Ledger) → put_if b p (xs ++ ys) ≡ put_if b p xs ++ ys
put_append true p xs ys = refl
put_append false p xs ys = refl

published_append : (xs ys : List DiaryEntry) → published_by (xs ++ ys) ≡ published_by xs ++ published_by ys
published_append [] ys = refl
published_append (e ∷ es) ys = ap (put_if e.shown e.publication) (published_append es ys) ∙ put_append e.shown e.publication (published_by es) (published_by ys)

published_prefix : (xs ys : List DiaryEntry) → IsPrefix xs ys → IsPrefix (published_by xs) (published_by ys)
published_prefix xs ys p = (published_by p.0, sym (published_append xs p.0) ∙ ap published_by p.1)

seen_snoc : (es : List DiaryEntry) (e : DiaryEntry) → seen_by (es ++ e ∷ []) ≡ published_by es ++ e.publication ∷ []
seen_snoc [] e = refl
seen_snoc (x ∷ []) e = put_append x.shown x.publication [] (e.publication ∷ [])
seen_snoc (x ∷ y ∷ ys) e = ap (put_if x.shown x.publication) (seen_snoc (y ∷ ys) e) ∙ put_append x.shown x.publication (published_by (y ∷ ys)) (e.publication ∷ [])

-- an attempt that was refused adds nothing
published_refused : (es : List DiaryEntry) (p : Ledger) → published_by (es ++ begun p ∷ ended false p ∷ []) ≡ published_by es
published_refused es p = published_append es (begun p ∷ ended false p ∷ []) ∙ append-nil (published_by es)

-- one that was shown adds its publication
pub published_shown : (es : List DiaryEntry) (p : Ledger) → published_by (es ++ begun p ∷ ended true p ∷ []) ≡ published_by es ++ p ∷ []
published_shown es p = published_append es (begun p ∷ ended true p ∷ [])

-- who sees that the last attempt was shown has seen the publications that the history is carried with
pub seen_at : (ps : List Ledger) (log : List DiaryEntry) (n a : ℕ) (p : Ledger) → EndsInAttempt ps log n a p → seen_by log ≡ ps
seen_at ps log n a p at = ap seen_by at.log_is ∙ (seen_snoc at.earlier (begun p) ∙ sym at.list_is)

-- an attempt that was refused leaves the last publication
last_refused : (log : List DiaryEntry) (n a : ℕ) (p : Ledger) → HasLast log n a → HasLast (log ++ begun p ∷ ended false p ∷ []) n a
last_refused log n a p last =
    let same = published_refused log p in
    record {
      earlier = last.earlier;
      publication = last.publication;
      begins = prefix_trans (last.earlier ++ begun last.publication ∷ []) log (log ++ begun p ∷ ended false p ∷ []) last.begins (begun p ∷ ended false p ∷ [], refl);
      long = last.long;
      list_is = same ∙ last.list_is;
      numbered = ap length same ∙ last.numbered;
    }

-- one that was shown is the last publication
last_shown : (log : List DiaryEntry) (n a : ℕ) (p : Ledger) → length log ≡ 2 * a → length (published_by log) ≡ n → HasLast (log ++ begun p ∷ ended true p ∷ []) n a
last_shown log n a p long numbered =
    let more = published_shown log p in
    record {
      earlier = log;
      publication = p;
      begins = (ended true p ∷ [], append_assoc log (begun p ∷ []) (ended true p ∷ []));
      long = long;
      list_is = more;
      numbered = ap length more ∙ omega (arith, length-append (published_by log) (p ∷ []), numbered);
    }

-- of two beginnings of one history the publications of that with the smaller last number begin those of the other
pub lasts_meet : (xs ys both : List DiaryEntry) (n a m b : ℕ) → HasLast xs n a → HasLast ys m b → IsPrefix xs both → IsPrefix ys both → n ≤ m → IsPrefix (published_by xs) (published_by ys)
lasts_meet xs ys both n a m b x y p q le =
    prefix_shorter (published_by xs) (published_by ys) (published_by both) (published_prefix xs both p) (published_prefix ys both q) (omega (arith, x.numbered, y.numbered))

-- what a history says begins what is seen under a greater number
pub begins_later : (xs ys both : List DiaryEntry) (n a m b : ℕ) (ps : List Ledger) (q : Ledger) → HasLast xs n a → EndsInAttempt ps ys m b q → IsPrefix xs both → IsPrefix ys both → n < m → IsPrefix (published_by xs) ps
begins_later xs ys both n a m b ps q last at one other less =
    let long : length ps ≡ length (published_by at.earlier) + 1 = ap length at.list_is ∙ length-append (published_by at.earlier) (q ∷ []) in
    let inside : IsPrefix at.earlier both = prefix_trans at.earlier ys both (subst (λ (l : List DiaryEntry). IsPrefix at.earlier l) (sym at.log_is) (begun q ∷ [], refl)) other in
    let begins = prefix_shorter (published_by xs) (published_by at.earlier) (published_by both) (published_prefix xs both one) (published_prefix at.earlier both inside) (omega (arith, last.numbered, at.numbered, long)) in
    prefix_trans (published_by xs) (published_by at.earlier) ps begins (subst (λ (l : List Ledger). IsPrefix (published_by at.earlier) l) (sym at.list_is) (q ∷ [], refl))

-- and is what is seen at the same attempt
pub begins_same : (xs ys both : List DiaryEntry) (n a m b : ℕ) (ps : List Ledger) (q : Ledger) → HasLast xs n a → EndsInAttempt ps ys m b q → IsPrefix xs both → IsPrefix ys both → a ≡ b → IsPrefix (published_by xs) ps
begins_same xs ys both n a m b ps q last at one other same =
    let mine = last.earlier ++ begun last.publication ∷ [] in
    let inside : IsPrefix mine both = prefix_trans mine xs both last.begins one in
    let long : length mine ≡ length ys = length-append last.earlier (begun last.publication ∷ []) ∙ (omega (arith, last.long, at.long, same) ∙ sym (ap length at.log_is ∙ length-append at.earlier (begun q ∷ []))) in
    let begins = prefix_shorter mine ys both inside other (omega (arith, long)) in
    let is : mine ≡ ys = prefix_whole mine ys begins (omega (arith, long)) in
    let list : published_by xs ≡ ps = last.list_is ∙ (sym (seen_snoc last.earlier (begun last.publication)) ∙ (ap seen_by is ∙ seen_at ps ys m b q at)) in
    subst (λ (l : List Ledger). IsPrefix (published_by xs) l) list (prefix_self (published_by xs))

-- the history after an attempt that was refused
after_refused : (log new : List DiaryEntry) (p : Ledger) (n a : ℕ) (ps : List Ledger) → new ≡ log ++ begun p ∷ ended false p ∷ [] → published_by log ≡ ps → HasLast log n a → (published_by new ≡ ps) × HasLast new n a
after_refused log new p n a ps is says last = (ap published_by is ∙ (published_refused log p ∙ says), subst (λ (l : List DiaryEntry). HasLast l n a) (sym is) (last_refused log n a p last))

-- after one that did not begin, or was refused
pub after_undone : (log new : List DiaryEntry) (p : Ledger) (n a : ℕ) (ps : List Ledger) → (new ≡ log) ⊎ (new ≡ log ++ begun p ∷ ended false p ∷ []) → published_by log ≡ ps → HasLast log n a → (published_by new ≡ ps) × HasLast new n a
after_undone log new p n a ps (inl same) says last = (ap published_by same ∙ says, subst (λ (l : List DiaryEntry). HasLast l n a) (sym same) last)
after_undone log new p n a ps (inr is) says last = after_refused log new p n a ps is says last

-- and after one that was shown
pub after_shown : (log new : List DiaryEntry) (p q : Ledger) (n a : ℕ) (ps qs : List Ledger)
    → new ≡ log ++ begun p ∷ ended true p ∷ [] → published_by log ≡ ps → length log ≡ 2 * a → length ps ≡ n → qs ≡ ps ++ q ∷ [] → q ≡ p → (published_by new ≡ qs) × HasLast new n a
after_shown log new p q n a ps qs is says long number more same =
    let list : published_by log ++ p ∷ [] ≡ qs = cc (says, more, same) in (
      ap published_by is ∙ (published_shown log p ∙ list),
      subst (λ (l : List DiaryEntry). HasLast l n a) (sym is) (last_shown log n a p long (ap length says ∙ number)),
    )

-- the attempt to publish number 0
pub first_attempt : (log : List DiaryEntry) (n a : ℕ) (p : Ledger) → log ≡ begun p ∷ [] → n ≡ 0 → a ≡ 0 → p ≡ opening_book → EndsInAttempt (opening_book ∷ []) log n a p
first_attempt log n a p is number place empty = record { earlier = []; log_is = is; long = omega (arith, place); list_is = ap (λ (q : Ledger). q ∷ []) (sym empty); numbered = omega (arith, number) }

pub first_log : (log before : List DiaryEntry) (p q : Ledger) → log ≡ before ++ begun q ∷ [] → before ≡ [] → q ≡ p → log ≡ begun p ∷ []
first_log log before p q is empty same = is ∙ (ap (λ (l : List DiaryEntry). l ++ begun q ∷ []) empty ∙ ap (λ (r : Ledger). begun r ∷ []) same)
