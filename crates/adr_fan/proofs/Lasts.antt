-- The last publication.
use Rattle.std.proofs.Common.{◌≡◌, ℕ, ◌+◌, ◌-◌, List, [], ◌∷◌, length, take, get_or, refl, sym, ap, ◌∙◌, arith}
use Rattle.std.proofs.lemmas.List.{length_push, get_or_push}
use Rattle.adr_model.specs.Machine.{opening}
use Rattle.adr_book.specs.Ledger.{Ledger}
use Rattle.adr_board.specs.Publications.{EndsWith, opening_book, publication_in, publications_in}
use Rattle.adr_board.specs.Boards.{last_of}
use Rattle.adr_board.proofs.Linked.{publication_at, publications_long}

last_from : (p : Ledger) (ps : List Ledger) → last_of (p ∷ ps) ≡ get_or (p ∷ ps) (length ps) opening_book
last_from p [] = refl
last_from p (q ∷ ps) = last_from q ps

last_of_is : (ps : List Ledger) → last_of ps ≡ get_or ps (length ps - 1) opening_book
last_of_is [] = refl
last_of_is (p ∷ ps) =
    let before : length (p ∷ ps) - 1 ≡ length ps = omega arith in
    last_from p ps ∙ ap (λ (n : ℕ). get_or (p ∷ ps) n opening_book) (sym before)

-- what it is to the machine
last_in : (ps : List Ledger) → publication_in (last_of ps) ≡ get_or (publications_in ps) (length (publications_in ps) - 1) opening
last_in ps =
    ap publication_in (last_of_is ps)
    ∙ (sym (publication_at ps (length ps - 1)) ∙ ap (λ (n : ℕ). get_or (publications_in ps) (n - 1) opening) (sym (publications_long ps)))

-- its objects are those of the machine's last book
pub last_objects : (ps : List Ledger) → (last_of ps).objects ≡ (get_or (publications_in ps) (length (publications_in ps) - 1) opening).book
last_objects ps = ap (λ p. p.book) (last_in ps)

-- the publication of the number that they end with
pub at_end : (ps : List Ledger) (number : ℕ) (p : Ledger) → EndsWith ps number p → get_or ps number opening_book ≡ p
at_end ps number p ends =
    let long : length (take number ps) + 1 ≡ number + 1 = sym (length_push (take number ps) p) ∙ sym (ap length ends.last_is) ∙ ends.numbered in
    ap (λ (qs : List Ledger). get_or qs number opening_book) ends.last_is
    ∙ get_or_push (take number ps) p opening_book number (omega (arith, long))

-- the number that they end with is that of the machine's last publication
pub number_at_end : (ps : List Ledger) (number : ℕ) (p : Ledger) → EndsWith ps number p → number ≡ length (publications_in ps) - 1
number_at_end ps number p ends = omega (arith, ends.numbered, publications_long ps)

-- the version of the last book
pub version_at_end : (ps : List Ledger) (number : ℕ) (p : Ledger) → EndsWith ps number p → p.objects.version ≡ (get_or (publications_in ps) (length (publications_in ps) - 1) opening).book.version
version_at_end ps number p ends =
    let same : length ps - 1 ≡ number = omega (arith, ends.numbered) in
    let there : last_of ps ≡ p = last_of_is ps ∙ (ap (λ (n : ℕ). get_or ps n opening_book) same ∙ at_end ps number p ends) in
    ap (λ (b : Ledger). b.objects.version) (sym there) ∙ ap (λ b. b.version) (last_objects ps)
