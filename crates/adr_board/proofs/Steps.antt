-- Each step keeps the rule.
use Rattle.std.proofs.Common.{◌≡◌, ◌≢◌, ℕ, List, [], ◌∷◌, ◌++◌, fold, set, refl, sym, ap, subst, ⊎_elim, arith}
use mathlib.Core.Option.{some, some-ne-none}
use mathlib.Core.List.{IsPrefix}
use lib.ListN.{get_elem?}
use Rattle.crossbeam_utils.specs.Register.{Admits, TurnsAt}
use Rattle.atomic_table.proofs.Lists.{at_set, at_snoc}
use Rattle.logbook.specs.Pages.{Book as History}
use Rattle.adr_model.specs.declared.entry.Tie.{Tie}
use Rattle.adr_book.specs.Ledger.{Ledger}
use Rattle.adr_board.specs.Publications.{EndsWith, opening_book}
use Rattle.adr_board.proofs.Prefixes.{prefix_self, prefix_trans, prefix_whole}
use Rattle.adr_board.proofs.Linked.{ends_snoc, ends_opened}
use Rattle.adr_board.specs.declared.shown.ShownPublication.{ShownPublication}
use Rattle.adr_board.specs.declared.shown.Showing.{Showing}
use Rattle.adr_board.specs.Rules.{IsLast, IsLastBy, IsCarried, Keeps, Looks, Adds, MayFollow, showing}

abbrev Publications : Type 0
Publications = List Ledger

-- a reader that has seen publication 0 alone may come at any time
pub admits : (tie : Tie) (history : History) → Admits (Keeps tie history) (opening_book ∷ [])
admits tie history x views h = (
  h.0,
  h.1,
  h.2,
  (λ seat v at. ⊎_elim (h.3 seat v) (λ (e : opening_book ∷ [] ≡ v). subst (λ (z : Publications). IsPrefix z h.0) e h.1.0.opens) (at_snoc views (opening_book ∷ []) v seat at)),
)

-- the views begin the list where one of them becomes w
set_within : (views : List Publications) (seat : ℕ) (w : Publications) (p q : Publications) → ((j : ℕ) (u : Publications) → get_elem? views j ≡ some u → IsPrefix u p) → IsPrefix p q → IsPrefix w q
    → (j : ℕ) (u : Publications) → get_elem? (set views seat w) j ≡ some u → IsPrefix u q
set_within views seat w p q all longer own j u at =
    ⊎_elim (λ (t : (j ≡ seat) × (w ≡ u)). subst (λ (z : Publications). IsPrefix z q) t.1 own) (λ (t : (j ≢ seat) × (get_elem? views j ≡ some u)). prefix_trans u p q (all j u t.1) longer)
    (at_set views seat j w u at)

pub looks : (tie : Tie) (history : History) (seat : ℕ) (v : Publications) (x : ShownPublication) → TurnsAt (Keeps tie history) seat v x x (Looks tie history)
looks tie history seat v x views h at =
    let P = h.0 in
    (P, (P, h.1, h.2, set_within views seat P P P h.3 (prefix_self P) (prefix_self P)), (h.3 seat v at, h.1, h.2))

-- the list with what may follow ends with it
pub followed : (tie : Tie) (history : History) (v : Publications) (s t : Showing) → MayFollow tie history v s t → IsLast (v ++ t.snapshot.book ∷ []) t.snapshot
followed tie history v s t may =
    subst (λ (n : ℕ). EndsWith (v ++ t.snapshot.book ∷ []) n t.snapshot.book) (sym may.1)
    (ends_snoc v s.snapshot.number s.snapshot.book t.snapshot.book may.0 may.2)

-- the editor has seen as many publications as there are, so it has seen the whole list
pub adds : (tie : Tie) (history : History) (seat : ℕ) (v : Publications) (x y : ShownPublication) (t : Showing) → MayFollow tie history v (showing x) t → showing y ≡ t → TurnsAt (Keeps tie history) seat v x y Adds
adds tie history seat v x y t may is views h at =
    let s = showing x in
    let P = h.0 in
    let Q : Publications = v ++ t.snapshot.book ∷ [] in
    let whole : v ≡ P = prefix_whole v P (h.3 seat v at) (omega (arith, may.0.numbered, h.1.0.numbered)) in
    let longer : IsPrefix P Q = subst (λ (z : Publications). IsPrefix z Q) whole (t.snapshot.book ∷ [], refl) in
    let ends : IsLastBy tie Q t.snapshot = (followed tie history v s t may, may.4) in (
      Q,
      (Q, subst (λ (z : Showing). IsLastBy tie Q z.snapshot) (sym is) ends, subst (λ (z : Showing). IsCarried history Q z) (sym is) may.3, set_within views seat Q P Q h.3 longer (prefix_self Q)),
      ap (λ (z : Showing). v ++ z.snapshot.book ∷ []) (sym is),
    )

-- the last operation is what is shown
pub absorbed : (s : Showing) (xs : List ShownPublication) (x : ShownPublication) → fold (λ _ o. showing o) s (xs ++ x ∷ []) ≡ showing x
absorbed s [] x = refl
absorbed s (y ∷ ys) x = absorbed (showing y) ys x

-- the rule holds of a new board
pub starts : (tie : Tie) (history : History) (x : ShownPublication) → (showing x).snapshot.number ≡ 0 → (showing x).snapshot.tie ≡ tie → (showing x).snapshot.book ≡ opening_book → IsCarried history (opening_book ∷ []) (showing x) → Keeps tie history x ((opening_book ∷ []) ∷ [])
starts tie history x number rule publication carried = (
  opening_book ∷ [],
  (rw (number, publication) ends_opened, rule),
  carried,
  (λ seat v at. ⊎_elim (λ (e : get_elem? {A = Publications} [] seat ≡ some v). absurd (some-ne-none v (sym e))) (λ (e : opening_book ∷ [] ≡ v). subst (λ (z : Publications). IsPrefix z (opening_book ∷ [])) e ([], refl))
      (at_snoc [] (opening_book ∷ []) v seat at)),
)
