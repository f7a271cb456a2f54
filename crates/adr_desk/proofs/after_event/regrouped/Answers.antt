use Rattle.std.proofs.Common.{◌≡◌, List, Option, None, ℕ, refl, sum_by, ap, sym, subst, ◌∙◌, arith}
use Rattle.std.specs.Prelude.{Result, Ok, Err, IfOk}
use Rattle.std.specs.Option.{option_map}
use Rattle.std.proofs.lemmas.Result.{on_ok_weaker}
use Rattle.std.proofs.lemmas.Slice.Eq.{slice_eq-Decides}
use Rattle.std.proofs.lemmas.Bool.Decides.{Decides-eqb}
use Rattle.adr_model.specs.declared.entry.Rank.{Rank}
use Rattle.adr_model.specs.declared.entry.Tie.{Tie}
use Rattle.adr_model.specs.declared.timeline.Winner.{Winner}
use Rattle.adr_model.specs.Book.{Book}
use Rattle.adr_book.specs.Ledger.{Ledger}
use Rattle.adr_schedule.specs.declared.change.Change.{Change}
use Rattle.adr_schedule.specs.Moves.{is_among}
use Rattle.adr_schedule.specs.Seating.{IsShifted}
use Rattle.adr_schedule.specs.Shift.{most_at, number_in, IsLaidBy}
use Rattle.adr_desk.specs.declared.ranks.NewestRanks.{NewestRanks}
use Rattle.adr_desk.specs.Edited.{come_of, gone_of}
use Rattle.adr_desk.specs.Ranks.{if_newest, newest_rank}
use Rattle.adr_desk.proofs.Costs.{shifts_cost}
use Rattle.adr_desk.proofs.Laid.{gone_by, laid_by, map_if_newest}
use Rattle.adr_desk.proofs.Made.{seated_after}
use Rattle.adr_desk.proofs.Shifted.{same_places}
use Rattle.adr_desk.proofs.after_event.regrouped.Goals as goal

abbrev rank_in : NewestRanks → Winner → Rank
rank_in ranks winner = newest_rank ranks.book.now.objects.events winner

ranks_are : (tie : Tie) (book : Book) (newest : NewestRanks) (under : Option NewestRanks) → newest.book.now.objects ≡ book → under ≡ if_newest tie newest
    → option_map rank_in under ≡ if_newest tie (newest_rank book.events)
ranks_are tie book newest under of is = ap (option_map rank_in) is ∙ map_if_newest rank_in tie newest ∙ ap (λ (b : Book). if_newest tie (newest_rank b.events)) of

pub shifted-requires-clause-laid : goal.shifted-requires-clause-laid
shifted-requires-clause-laid g c =
    let accepted = c.args.accepted.now in
    let book = accepted.old.now.objects in
    let edit = accepted.edit.now in
    let ranks = ranks_are accepted.tie book c.of-newest.result _ (ap (λ (b : Ledger). b.objects) c.of-newest.ensures) c.under-ranks.ensures in
    subst (λ (o : Option (Winner → Rank)). IsLaidBy o c.args.indexes.now c.args.change.now) (sym ranks)
    (laid_by book accepted.new.now.objects (gone_of book edit) (come_of book edit) c.requires.change.exchange accepted.tie c.args.indexes.now c.requires.indexed c.args.change.now c.requires.change.whole c.requires.change.gone c.requires.change.come)

pub shifted-requires-2-clause-laid : goal.shifted-requires-2-clause-laid
shifted-requires-2-clause-laid g c =
    let accepted = c.args.accepted.now in
    let book = accepted.old.now.objects in
    let edit = accepted.edit.now in
    let alone : Change = record { gone = c.in_ok-gone.gone; come = None } in
    let ranks = ranks_are accepted.tie book c.of-newest.result _ (ap (λ (b : Ledger). b.objects) c.of-newest.ensures) c.under-ranks.ensures in
    subst (λ (o : Option (Winner → Rank)). IsLaidBy o c.args.indexes.now alone) (sym ranks)
    (gone_by book accepted.new.now.objects (gone_of book edit) (come_of book edit) c.requires.change.exchange accepted.tie c.args.indexes.now c.requires.indexed c.in_ok-gone.gone c.in_ok-gone.ensures.side)

pub returns-then-eq-clause-seated : goal.returns-then-eq-clause-seated
returns-then-eq-clause-seated g c =
    let accepted = c.args.accepted.now in
    let book = accepted.old.now.objects in
    let edit = accepted.edit.now in
    let joining = c.as_slice.result.now in
    let stay : Change = record { gone = c.args.change.now.gone; come = None } in
    let same : c.in_ok-leaving.leaving.items ≡ joining = sym c.as_slice-2.ensures.value ∙ ((slice_eq-Decides Decides-eqb c.as_slice-2.result.now c.as_slice-3.result.now c.eq.result c.eq.ensures).0 c.if-eq.true ∙ (c.as_slice-3.ensures.value ∙ sym c.as_slice.ensures.value)) in
    seated_after c.right_moves.ensures accepted.tie book (gone_of book edit) (come_of book edit) c.args.indexes.now c.args.change.now stay
    c.requires.change.gone c.requires.change.come c.requires.change.gone refl c.requires.indexed
    accepted.schedule.now c.in_ok-mid.mid c.in_ok-mid.mid joining joining
    (λ p r v at e. ap (λ ps. is_among ps p) c.as_slice.ensures.value ∙ c.in_ok-joining.ensures.places.apply p r v at e)
    (λ p r u at e. ap (λ ps. is_among ps p) (sym same) ∙ c.in_ok-leaving.ensures.places.apply p r u at e)
    c.in_ok-mid.ensures.shifted c.in_ok-mid.ensures.right
    (same_places (number_in c.args.change.now.gone) (number_in c.args.change.now.come) joining accepted.schedule.now c.in_ok-mid.mid c.requires.two c.in_ok-mid.ensures.shifted)
    (λ tie events indexed sides right. right)
    accepted.new.now.objects c.requires.change.exchange c.requires.seated

pub returns-then-eq-clause-least : goal.returns-then-eq-clause-least
returns-then-eq-clause-least g c =
    let accepted = c.args.accepted.now in
    let new = accepted.new.now.objects in
    let one = c.requires.change.one_id in
    let book = accepted.old.now.objects in
    let edit = accepted.edit.now in
    let joining = c.in_ok-joining.joining.items in
    let leaving = c.in_ok-leaving.leaving.items in
    let stay : Change = record { gone = c.args.change.now.gone; come = None } in
    let cost = shifts_cost accepted.tie book new (gone_of book edit) (come_of book edit) c.requires.change.exchange c.requires.change.whole c.requires.change.whole_after one.0 one.1 one.2 c.args.indexes.now c.requires.indexed c.args.change.now stay
    c.requires.change.gone c.requires.change.come c.requires.change.gone refl accepted.schedule.now c.in_ok-mid.mid c.requires.seated joining leaving c.in_ok-joining.ensures.places.apply
    (subst (λ (ps : List ℕ). IsShifted (number_in c.args.change.now.gone) (number_in c.args.change.now.come) ps accepted.schedule.now c.in_ok-mid.mid) c.as_slice.ensures.value c.in_ok-mid.ensures.shifted)
    c.in_ok-joining.ensures.places.once c.in_ok-leaving.ensures.places.once in
    let first = ap (sum_by (most_at c.args.change.now c.args.indexes.now accepted.schedule.now)) c.as_slice.ensures.value in
    omega (arith, cost, first, c.requires.begun, c.in_ok-mid.ensures.least)

both : {T E : Type 0} (r : Result T E) (P Q R : T → Type 0) → ((v : T) → P v → Q v → R v) → IfOk r P → IfOk r Q → IfOk r R
both (Ok v) P Q R f p q = f v p q
both (Err e) P Q R f p q = tt

pub returns-clause-seated : goal.returns-clause-seated
returns-clause-seated g c =
    let accepted = c.args.accepted.now in
    let book = accepted.old.now.objects in
    let edit = accepted.edit.now in
    let alone : Change = record { gone = c.in_ok-gone.gone; come = None } in
    both c.shifted-2.result _ _ _ (λ after shifted right. seated_after c.right_moves.ensures accepted.tie book (gone_of book edit) (come_of book edit) c.args.indexes.now c.args.change.now alone
    c.requires.change.gone c.requires.change.come c.in_ok-gone.ensures.side refl c.requires.indexed
    accepted.schedule.now c.in_ok-mid.mid after c.as_slice.result.now c.as_slice-4.result.now
    (λ p r v at e. ap (λ ps. is_among ps p) c.as_slice.ensures.value ∙ c.in_ok-joining.ensures.places.apply p r v at e)
    (λ p r u at e. ap (λ ps. is_among ps p) c.as_slice-4.ensures.value ∙ c.in_ok-leaving.ensures.places.apply p r u at e)
    c.in_ok-mid.ensures.shifted c.in_ok-mid.ensures.right shifted right
    accepted.new.now.objects c.requires.change.exchange c.requires.seated) c.shifted-2.ensures.shifted c.shifted-2.ensures.right

pub returns-clause-least : goal.returns-clause-least
returns-clause-least g c =
    let accepted = c.args.accepted.now in
    let new = accepted.new.now.objects in
    let one = c.requires.change.one_id in
    let book = accepted.old.now.objects in
    let edit = accepted.edit.now in
    let joining = c.in_ok-joining.joining.items in
    let leaving = c.in_ok-leaving.leaving.items in
    let alone : Change = record { gone = c.in_ok-gone.gone; come = None } in
    let cost = shifts_cost accepted.tie book new (gone_of book edit) (come_of book edit) c.requires.change.exchange c.requires.change.whole c.requires.change.whole_after one.0 one.1 one.2 c.args.indexes.now c.requires.indexed c.args.change.now alone
    c.requires.change.gone c.requires.change.come c.in_ok-gone.ensures.side refl accepted.schedule.now c.in_ok-mid.mid c.requires.seated joining leaving c.in_ok-joining.ensures.places.apply
    (subst (λ (ps : List ℕ). IsShifted (number_in c.args.change.now.gone) (number_in c.args.change.now.come) ps accepted.schedule.now c.in_ok-mid.mid) c.as_slice.ensures.value c.in_ok-mid.ensures.shifted)
    c.in_ok-joining.ensures.places.once c.in_ok-leaving.ensures.places.once in
    let first = ap (sum_by (most_at c.args.change.now c.args.indexes.now accepted.schedule.now)) c.as_slice.ensures.value in
    let second = ap (sum_by (most_at alone c.args.indexes.now c.in_ok-mid.mid)) c.as_slice-4.ensures.value in
    on_ok_weaker c.shifted-2.result (λ least. omega (arith, cost, first, second, c.requires.begun, c.in_ok-mid.ensures.least, least)) c.shifted-2.ensures.least
