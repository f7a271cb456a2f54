-- What a publication of the editor shows of the machine.
use Rattle.std.proofs.Common.{◌≡◌, ℕ, ◌+◌, ◌-◌, ◌<◌, ◌≤◌, List, [], ◌∷◌, ◌++◌, length, refl, ap, ap₂, ◌∙◌, arith}
use Rattle.std.proofs.lemmas.List.{length_push}
use Rattle.std.specs.Prelude.{Result, Ok, Err, OnOk, IfOk}
use Rattle.adr_refusal.specs.declared.refusal.Refusal.{Refusal}
use Rattle.adr_value.specs.declared.limits.TheConstants.{MOST_PUBLICATIONS}
use Rattle.adr_model.specs.declared.published.Published.{Published}
use Rattle.adr_model.specs.Book.{Book}
use Rattle.adr_book.specs.Ledger.{Ledger}
use Rattle.adr_board.specs.Boards.{Board, last_of, with_published}
use Rattle.adr_board.specs.Publications.{sealed}
use Rattle.adr_resolver.specs.Shown.{kept_of}

last_of_snoc : (ps : List Ledger) (p : Ledger) → last_of (ps ++ p ∷ []) ≡ p
last_of_snoc [] p = refl
last_of_snoc (q ∷ []) p = refl
last_of_snoc (q ∷ r ∷ rs) p = last_of_snoc (r ∷ rs) p

one_more : (a b n : ℕ) → a ≡ n + 1 → b ≡ a + 1 → b - 1 ≡ (a - 1) + 1
one_more a b n e f = omega (arith, e, f)

with_one_more : (old : Board) (n : ℕ) → length old.published ≡ n + 1
    → kept_of (with_published old) ≡ record (kept_of old) { published = old.book.objects; number = (length old.published - 1) + 1 }
with_one_more old n long =
    let one : Ledger = sealed old.book in
    ap₂ (λ (b : Book) (k : ℕ). record (kept_of old) { published = b; number = k })
    (ap (λ (p : Ledger). p.objects) (last_of_snoc old.published one))
    (one_more (length old.published) (length (old.published ++ one ∷ [])) n long (length_push old.published one))

published_kept : (old new : Board) (n : ℕ) → length old.published ≡ n + 1 → new ≡ with_published old
    → kept_of new ≡ record (kept_of old) { published = old.book.objects; number = (length old.published - 1) + 1 }
published_kept old new n long h = ap kept_of h ∙ with_one_more old n long

has_room : (long n number : ℕ) → long ≡ n + 1 → number ≡ long → number ≤ MOST_PUBLICATIONS → long - 1 < MOST_PUBLICATIONS
has_room long n number e f h = omega (arith, e, f, h)

next_number : (long n number : ℕ) → long ≡ n + 1 → number ≡ long → number ≡ (long - 1) + 1
next_number long n number e f = omega (arith, e, f)

pub made : (old new : Board) (n : ℕ) (r : Result Published Refusal) → length old.published ≡ n + 1
    → OnOk r (new ≡ with_published old) → IfOk r (λ p. p.number ≡ length old.published) → IfOk r (λ p. p.number ≤ MOST_PUBLICATIONS)
    → OnOk r (((length old.published - 1) < MOST_PUBLICATIONS) × (kept_of new ≡ record (kept_of old) { published = old.book.objects; number = (length old.published - 1) + 1 }))
made old new n (Ok p) long board number most = (has_room (length old.published) n p.number long number most, published_kept old new n long board)
made old new n (Err f) long board number most = tt

pub answered : (long n version : ℕ) (r : Result Published Refusal) → long ≡ n + 1 → IfOk r (λ p. p.number ≡ long) → IfOk r (λ p. p.version ≡ version)
    → IfOk r (λ p. (p.number ≡ (long - 1) + 1) × (p.version ≡ version))
answered long n version (Ok p) more number same = (next_number long n p.number more number, same)
answered long n version (Err f) more number same = tt
