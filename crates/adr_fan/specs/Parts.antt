-- What a reader's thread hands back, and what is checked of it.
use Rattle.std.specs.Prelude.{◌≡◌, ◌≤◌, ◌<◌, ℕ, ◌+◌, List, [], ◌∷◌, ◌++◌, length, Option, Some, None, IfSome, get_or}
use Rattle.std.specs.List.{AllByRecursion}
use Rattle.std.specs.declared.vec.Vec.{Vec}
use Rattle.adr_model.specs.declared.entry.Tie.{Tie}
use Rattle.adr_model.specs.Queries.{Query, answer}
use Rattle.adr_book.specs.Ledger.{Ledger}
use Rattle.adr_board.specs.Publications.{opening_book}
use Rattle.adr_script.specs.Script.{no_memory}
use Rattle.adr_resolver.specs.Fan.{Fan, Sent, IsReaderPart, reader_line}
use Rattle.adr_resolver.specs.Text.{answer_line}
use Rattle.adr_fan.specs.declared.reading.Reply.{Reply}

-- the text is the answer to a query, of the publication of this number
abbrev pub IsAnswer : Tie → List Ledger → ℕ → Query → List ℕ → Type 0
IsAnswer tie publications number query text =
    (number < length publications) × (text ≡ answer_line (answer tie (get_or publications number opening_book).objects query))

-- a reply that has a text is the answer of the publication whose number it names
abbrev pub IsTrueReply : Tie → List Ledger → Reply → Type 0
IsTrueReply tie publications r = IfSome r.text (λ text. IsAnswer tie publications r.shown r.sent.query text.items)

abbrev pub AreTrue : Tie → List Ledger → List Reply → Type 0
AreTrue tie publications replies = AllByRecursion (IsTrueReply tie publications) replies

-- the replies name these queries, in order, each with its number; none is from a publication that is older than that
-- number or than the one of the reply before, or younger than the last
abbrev pub AreInOrder : ℕ → ℕ → List Sent → List Reply → Type 0
AreInOrder last seen [] [] = Unit {0}
AreInOrder last seen [] (r ∷ replies) = ⊥
AreInOrder last seen (q ∷ sent) [] = ⊥
AreInOrder last seen (q ∷ sent) (r ∷ replies) =
    (r.sent ≡ q) × (seen ≤ r.shown) × (q.number ≤ r.shown) × (r.shown ≤ last) × AreInOrder last r.shown sent replies

-- the bytes of a reply; one without a text is want of memory
abbrev pub text_or : {Z : Type 0} → Option (Vec ℕ Z) → List ℕ
text_or None = no_memory
text_or (Some text) = text.items

abbrev pub texts : List Reply → List ℕ
texts [] = []
texts (r ∷ replies) = text_or r.text ++ texts replies

-- the replies are one reader's part of what is written
abbrev pub IsPart : {Z : Type 0} → Fan → Vec Reply Z → Type 0
IsPart fan replies = IsReaderPart fan.machine 0 fan.sent (texts replies.items)

abbrev pub AreParts : {Z : Type 0} → Fan → List (Vec Reply Z) → Type 0
AreParts fan parts = AllByRecursion (IsPart fan) parts

-- the parts, each behind its reader's line
abbrev pub all_texts : {Z : Type 0} → ℕ → List (Vec Reply Z) → List ℕ
all_texts reader [] = []
all_texts reader (part ∷ parts) = reader_line reader ++ texts part.items ++ all_texts (reader + 1) parts
