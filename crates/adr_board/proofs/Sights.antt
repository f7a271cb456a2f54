-- What a look finds.
use Rattle.std.proofs.Common.{◌≡◌, ◌⊎◌, inl, ℕ, List, Option, Some, None, refl, sym, subst, arith, Result, Ok, Err, IfOk, IfErr}
use Rattle.std.specs.Prelude.{IfSome, option_map}
use Rattle.std.specs.Arc.{arc_value}
use Rattle.std.specs.declared.sync.Arc.{Arc}
use mathlib.Core.List.{IsPrefix}
use Rattle.logbook.specs.Pages.{Book as History}
use Rattle.adr_refusal.specs.declared.refusal.Refusal.{Refusal}
use Rattle.adr_refusal.specs.declared.refusal.Refusal.TheVariants.{NoMemory, NoRuntime}
use Rattle.adr_refusal.specs.Answer.{OnlyNoMemory}
use Rattle.adr_model.specs.declared.entry.Tie.{Tie}
use Rattle.adr_book.specs.Ledger.{Ledger}
use Rattle.adr_board.specs.declared.diary.DiaryEntry.{DiaryEntry}
use Rattle.adr_board.specs.History.{seen_by, EndsInAttempt}
use Rattle.adr_board.proofs.Prefixes.{prefix_trans, prefix_whole}
use Rattle.adr_board.proofs.Histories.{seen_at}
use Rattle.adr_board.specs.declared.shown.Showing.{Showing}
use Rattle.adr_board.specs.Boards.{View, Grows}
use Rattle.adr_board.specs.Published.{PublishedBook}
use Rattle.adr_board.specs.Rules.{IsLastBy, IsCarried, IsSight, IsTaken}

abbrev Publications : Type 0
Publications = List Ledger

-- what is shown beside a snapshot is what its reader has seen
pub sighted : (history : History) (v w : Publications) (s : Showing) → IsPrefix v w → IsCarried history w s
    → IsPrefix v w × (seen_by s.page.log ≡ w) × (s.page.book ≡ history) × IsSight (seen_by s.page.log) s.page.log s.snapshot.number s.attempt
sighted history v w s longer carried =
    let is : seen_by s.page.log ≡ w = seen_at w s.page.log s.snapshot.number s.attempt s.snapshot.book carried.1 in
    (longer, is, carried.0, (s.snapshot.book, subst (λ (p : Publications). EndsInAttempt p s.page.log s.snapshot.number s.attempt s.snapshot.book) (sym is) carried.1))

-- a snapshot of the last of the publications seen before is that of the last one now where it has the number of what is seen
pub still_last : (tie : Tie) (old new : Publications) (log : List DiaryEntry) (number attempt : ℕ) (s : PublishedBook) → IsPrefix old new → IsSight new log number attempt
    → s.number ≡ number → IsLastBy tie old s → IsLastBy tie new s
still_last tie old new log number attempt s longer sight is last =
    let same : old ≡ new = prefix_whole old new longer (omega (arith, last.0.numbered, sight.1.numbered)) in
    subst (λ (l : Publications). IsLastBy tie l s) same last

-- what a look takes, of a fresh copy or of the snapshot that its reader has, is the last of what is seen now
pub taken : {Z : Type 0} (tie : Tie) (old new known : Publications) (log : List DiaryEntry) (number attempt : ℕ) (fresh : Option (Result PublishedBook Refusal)) (own : Option (Arc PublishedBook Z))
    → IsPrefix old new → IsSight new log number attempt → new ≡ known → IfSome own (λ s. IsLastBy tie old (arc_value s))
    → IfSome fresh (λ copy. IfOk copy (IsLastBy tie known) × OnlyNoMemory copy) → (fresh ≡ None → option_map (λ s. (arc_value {X = PublishedBook} s).number) own ≡ Some number)
    → IsTaken tie new fresh own
taken tie old new known log number attempt None None longer sight is last copies had = tt
taken tie old new known log number attempt None (Some s) longer sight is last copies had =
    let e : Some (arc_value s).number ≡ Some number = had refl in
    let same : (arc_value s).number ≡ number = cc (e) in
    still_last tie old new log number attempt (arc_value s) longer sight same last
taken tie old new known log number attempt (Some (Ok s)) own longer sight is last copies had = subst (λ (l : Publications). IsLastBy tie l s) (sym is) copies.0
taken tie old new known log number attempt (Some (Err e)) own longer sight is last copies had = tt

-- one more share of a snapshot shows what it shows
pub shared_last : {Z : Type 0} (tie : Tie) (r : Result (Arc PublishedBook Z) Refusal) (own : Arc PublishedBook Z) (seen : Publications)
    → IfOk r (λ s. arc_value s ≡ arc_value own) → IsLastBy tie seen (arc_value own) → IfOk r (λ s. IsLastBy tie seen (arc_value s))
shared_last tie (Ok s) own seen same last = subst (λ (x : PublishedBook). IsLastBy tie seen x) (sym same) last
shared_last tie (Err e) own seen same last = tt

pub either_way : {X : Type 0} (r : Result X Refusal) (P : Type 0) → P → IfOk r (λ _. P)
either_way (Ok x) P p = p
either_way (Err e) P p = tt

pub refused : {X : Type 0} (r : Result X Refusal) (old new : View) → Grows old new → IfErr r (λ e. e ≡ NoMemory) → IfErr r (λ e. ((e ≡ NoMemory) × Grows old new) ⊎ ((e ≡ NoRuntime) × (new ≡ old)))
refused (Ok x) old new grown why = tt
refused (Err e) old new grown why = inl (why, grown)

-- a and b are what the rule knows before and after
pub longer : (was now a b : Publications) → IsPrefix was a → IsPrefix a b → now ≡ b → IsPrefix was now
longer was now a b p q is = subst (λ (l : Publications). IsPrefix was l) (sym is) (prefix_trans was a b p q)

pub grown : (was now a b told : Publications) → IsPrefix was a → IsPrefix a b → now ≡ b → IsPrefix told now → Grows record { seen = was; learnt = told } record { seen = now; learnt = told }
grown was now a b told p q is t = (longer was now a b p q is, t, refl)
