-- What a reader has seen that was told of all publications.
use Rattle.std.proofs.Common.{◌≡◌, ◌∙◌, ℕ, ◌+◌, ◌<◌, ◌≤◌, List, [], ◌∷◌, ◌++◌, length, take, get_or, sym, ap, arith, length-take}
use Rattle.std.proofs.Math.Seq.{get_or-append_seam}
use Rattle.std.proofs.lemmas.List.{get_or_append_left}
use mathlib.Core.List.{IsPrefix}
use Rattle.adr_model.specs.declared.entry.Tie.{Tie}
use Rattle.adr_book.specs.Ledger.{Ledger, sealed_of}
use Rattle.adr_board.proofs.Linked.{publication_at, publications_long}
use Rattle.adr_board.proofs.Prefixes.{prefix_length, prefix_trans, prefix_whole}
use Rattle.adr_board.specs.Published.{PublishedBook}
use Rattle.adr_board.specs.Boards.{View, Grows}
use Rattle.adr_board.specs.Publications.{opening_book, publication_in, publications_in}
use Rattle.adr_board.specs.Rules.{IsLast, IsLastBy}
use Rattle.adr_board.specs.Replay.{IsOf, reach}

-- it has seen all of them, where it sees as many
pub all_seen : (publications learnt seen : List Ledger) → IsPrefix publications learnt → IsPrefix learnt seen → length seen ≡ length publications → seen ≡ publications
all_seen publications learnt seen told grown as_many = sym (prefix_whole publications seen (prefix_trans publications learnt seen told grown) (omega arith))

-- so the snapshot that it saw before is that of one of them
pub seen_one : (publications seen : List Ledger) (s : PublishedBook) (tie : Tie) → IsLast seen s → IsPrefix seen publications → s.tie ≡ tie → sealed_of s.book ≡ s.book.objects → IsOf tie (publications_in publications) s
seen_one publications seen s tie last begins rule leads =
    let within : s.number < length (publications_in publications) = omega (arith, publications_long publications, prefix_length seen publications begins, last.numbered) in
    let first : length (take s.number seen) ≡ s.number = omega (arith, length-take s.number seen, last.numbered) in
    let beginning : get_or publications s.number opening_book ≡ get_or seen s.number opening_book =
    ap (λ (l : List Ledger). get_or l s.number opening_book) (sym begins.1) ∙ get_or_append_left seen begins.0 opening_book s.number (omega (arith, last.numbered)) in
    let end : get_or seen s.number opening_book ≡ s.book =
    ap (λ (l : List Ledger). get_or l s.number opening_book) last.last_is ∙ (ap (λ (n : ℕ). get_or (take s.number seen ++ s.book ∷ []) n opening_book) (sym first) ∙ get_or-append_seam (take s.number seen) s.book [] opening_book) in
    (within, publication_at publications s.number ∙ ap publication_in (beginning ∙ end), rule, leads)

-- and no earlier than what it knew of
pub seen_later : (old new : View) (s : PublishedBook) (tie : Tie) → Grows old new → IsLastBy tie new.seen s → reach old ≤ s.number + 1
seen_later old new s tie grown last = omega (arith, prefix_length old.seen new.seen grown.0, prefix_length old.learnt new.seen grown.1, last.0.numbered)
