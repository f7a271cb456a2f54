-- What is checked of a reader's replies makes them its part of the text.
use Rattle.std.proofs.Common.{◌≡◌, ◌⊎◌, ◌+◌, ◌<◌, ℕ, Bool, true, false, if◌then◌else◌, List, [], ◌∷◌, ◌++◌, length, get_or, Option, Some, None, refl, sym, ap, ◌∙◌, subst, inl, inr, arith, length-append}
use Rattle.std.specs.Prelude.{IfSome}
use Rattle.std.specs.List.{AllByRecursion}
use Rattle.std.specs.declared.vec.Vec.{Vec}
use Rattle.std.proofs.Math.ListN.{get_or-append}
use mathlib.Core.List.{IsPrefix}
use Rattle.adr_model.specs.declared.entry.Tie.{Tie}
use Rattle.adr_model.specs.Machine.{Publication, State, last_number, opening}
use Rattle.adr_book.specs.Ledger.{Ledger}
use Rattle.adr_board.specs.Publications.{opening_book, publication_in, publications_in}
use Rattle.adr_board.proofs.Linked.{publication_at}
use Rattle.adr_model.specs.Queries.{Query as Asked, answer}
use Rattle.adr_script.specs.Script.{no_memory}
use Rattle.adr_resolver.specs.Fan.{Fan, Sent, answer_from, IsReaderPart, AreReaderParts}
use Rattle.adr_resolver.specs.Text.{answer_line}
use Rattle.adr_fan.specs.declared.reading.Reply.{Reply}
use Rattle.adr_fan.specs.Parts.{IsAnswer, IsTrueReply, AreTrue, AreInOrder, text_or, texts, AreParts, all_texts}

abbrev Publications : Type 0
Publications = List Ledger

-- ---- one more item

pub all_pushed : {X : Type 0} (P : X → Type 0) (xs : List X) (x : X) → AllByRecursion P xs → P x → AllByRecursion P (xs ++ x ∷ [])
all_pushed P [] x all one = (one, tt)
all_pushed P (y ∷ xs) x all one = (all.0, all_pushed P xs x all.1 one)

-- ---- what is true of the publications that were seen is true of all

answer_longer : (tie : Tie) (p q : Publications) (n : ℕ) (query : Asked) (text : List ℕ) → IsPrefix p q → IsAnswer tie p n query text → IsAnswer tie q n query text
answer_longer tie p q n query text (more, is) (within, same) =
    let there : n < length q = omega (arith, within, length-append p more, ap length is) in
    let at : get_or q n opening_book ≡ get_or p n opening_book = ap (λ (l : Publications). get_or l n opening_book) (sym is) ∙ get_or-append p more opening_book n within in
    (there, same ∙ ap (λ (one : Ledger). answer_line (answer tie one.objects query)) (sym at))

longer_one : {Z : Type 0} (tie : Tie) (p q : Publications) (n : ℕ) (query : Asked) (text : Option (Vec ℕ Z)) → IsPrefix p q
    → IfSome text (λ t. IsAnswer tie p n query t.items) → IfSome text (λ t. IsAnswer tie q n query t.items)
longer_one tie p q n query None longer h = tt
longer_one tie p q n query (Some t) longer h = answer_longer tie p q n query t.items longer h

pub true_longer : (tie : Tie) (p q : Publications) (replies : List Reply) → IsPrefix p q → AreTrue tie p replies → AreTrue tie q replies
true_longer tie p q [] longer all = tt
true_longer tie p q (r ∷ replies) longer all = (longer_one tie p q r.shown r.sent.query r.text longer all.0, true_longer tie p q replies longer all.1)

-- ---- replies that are true and in order

-- the answer from a book is that from the publication that it is to the machine
answered : (s : State) (p : Publications) (n : ℕ) (query : Asked) (text : List ℕ) → s.published ≡ publications_in p → IsAnswer s.tie p n query text → text ≡ answer_from s n query
answered s p n query text is (within, same) =
    let at : get_or s.published n opening ≡ publication_in (get_or p n opening_book) = ap (λ (l : List Publication). get_or l n opening) is ∙ publication_at p n in
    same ∙ ap (λ (one : Publication). answer_line (answer s.tie one.book query)) (sym at)

replied : {Z : Type 0} (s : State) (p : Publications) (n : ℕ) (sent q : Sent) (text : Option (Vec ℕ Z)) → s.published ≡ publications_in p → sent ≡ q
    → IfSome text (λ t. IsAnswer s.tie p n sent.query t.items) → (text_or text ≡ answer_from s n q.query) ⊎ (text_or text ≡ no_memory)
replied s p n sent q None is same h = inr refl
replied s p n sent q (Some t) is same h = inl (answered s p n sent.query t.items is h ∙ ap (λ (x : Sent). answer_from s n x.query) same)

pub part_is : (s : State) (p : Publications) (sent : List Sent) (replies : List Reply) (seen : ℕ) → s.published ≡ publications_in p → AreTrue s.tie p replies → AreInOrder (last_number s) seen sent replies → IsReaderPart s seen sent (texts replies)
part_is s p [] [] seen is all order = refl
part_is s p [] (r ∷ replies) seen is all order = absurd order
part_is s p (q ∷ sent) [] seen is all order = absurd order
part_is s p (q ∷ sent) (r ∷ replies) seen is all (same, after_seen, after_sent, before_last, rest) =
    (r.shown, text_or r.text, texts replies, after_seen, after_sent, before_last, replied s p r.shown r.sent q r.text is same all.0, part_is s p sent replies r.shown is all.1 rest, refl)

-- ---- the parts of all readers

pub parts_are : {Z : Type 0} (fan : Fan) (reader : ℕ) (parts : List (Vec Reply Z)) → AreParts fan parts → AreReaderParts fan.machine fan.sent reader (length parts) (all_texts reader parts)
parts_are fan reader [] all = refl
parts_are fan reader (part ∷ parts) all = (texts part.items, all_texts (reader + 1) parts, all.0, parts_are fan (reader + 1) parts all.1, refl)

-- one more reply, where there was memory for it
pub true_kept : (tie : Tie) (p : Publications) (replies : List Reply) (r : Reply) (b : Bool) → AreTrue tie p replies → IsTrueReply tie p r → AreTrue tie p (if b then replies ++ r ∷ [] else replies)
true_kept tie p replies r true all one = all_pushed (IsTrueReply tie p) replies r all one
true_kept tie p replies r false all one = all

-- what a thread handed back, checked, is a part
pub part_of : (d : Fan) (tie : Tie) (sent : List Sent) (seen now publications : Publications) (replies : List Reply) (last : ℕ) → AreTrue tie seen replies → IsPrefix seen now
    → now ≡ publications → d.machine.published ≡ publications_in publications → d.machine.tie ≡ tie → d.sent ≡ sent → last ≡ last_number d.machine → AreInOrder last 0 sent replies
    → IsReaderPart d.machine 0 d.sent (texts replies)
part_of d tie sent seen now publications replies last all longer settled published rule sends ends order =
    let known : AreTrue tie publications replies = subst (λ (p : Publications). AreTrue tie p replies) settled (true_longer tie seen now replies longer all) in
    let ruled : AreTrue d.machine.tie publications replies = subst (λ (t : Tie). AreTrue t publications replies) (sym rule) known in
    let named : AreInOrder (last_number d.machine) 0 d.sent replies = subst (λ (n : ℕ). AreInOrder n 0 d.sent replies) ends (subst (λ (q : List Sent). AreInOrder last 0 q replies) (sym sends) order) in
    part_is d.machine publications d.sent replies 0 published ruled named
