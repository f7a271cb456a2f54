use Rattle.std.proofs.Common.{◌≡◌, ◌<◌, Some, get_or, set, ap, sym, subst, ◌∙◌, arith}
use Rattle.std.proofs.lemmas.Option.{get_or_from_slice_get}
use Rattle.std.specs.List.{slice_get}
use Rattle.adr_seats.specs.Seats.{members_of}
use Rattle.adr_seats.specs.Table.{numbers}
use Rattle.adr_seats.proofs.Members.{members-bound, members-some, counted-set}
use Rattle.adr_seats.proofs.seats.set_slot.Goals as goal

pub take-requires-clause-some : goal.take-requires-clause-some
take-requires-clause-some c =
    let xs = numbers c.args.slots.now in
    let left = c.in-Some.left in
    let has : slice_get xs c.args.place ≡ Some left = sym c.get.ensures.value ∙ c.in-Some.is in
    let count : get_or (numbers c.own.new.self) left 0 ≡ members_of left xs =
    ap (λ zs. get_or zs left 0) c.in_ok-own.ensures.same ∙ c.in_ok-reserve.ensures.same left ∙ c.requires.counts left in
    subst (λ n. 0 < n) (sym count)
    (subst (λ s. 0 < members_of s xs) (get_or_from_slice_get xs c.args.place left left has) (members-some left xs c.args.place c.requires.within))

pub add-requires-clause-fits : goal.add-requires-clause-fits
add-requires-clause-fits c =
    omega (
      arith,
      c.take.ensures.counts c.args.slot,
      ap (λ zs. get_or zs c.args.slot 0) c.in_ok-own.ensures.same,
      c.in_ok-reserve.ensures.same c.args.slot,
      c.requires.counts c.args.slot,
      members-bound c.args.slot (numbers c.args.slots.now),
      c.get.ensures.small,
    )

pub returns-clause-counts : goal.returns-clause-counts
returns-clause-counts c =
    let xs = numbers c.args.slots.now in
    let left = c.in-Some.left in
    let place = c.args.place in
    let has : slice_get xs place ≡ Some left = sym c.get.ensures.value ∙ c.in-Some.is in
    λ s. counted-set s left c.args.slot xs place _ _ _ c.requires.within (sym (get_or_from_slice_get xs place left left has))
    (c.take.ensures.counts s) (c.add.ensures.counts s) (ap (λ zs. get_or zs s 0) c.in_ok-own.ensures.same ∙ c.in_ok-reserve.ensures.same s ∙ c.requires.counts s)
    ∙ ap (λ zs. members_of s zs) (sym (c.put.ensures.numbers ∙ ap (λ zs. set zs place c.args.slot) c.in_ok-own-2.ensures.same))
