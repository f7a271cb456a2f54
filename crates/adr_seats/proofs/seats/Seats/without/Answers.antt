use Rattle.std.proofs.Common.{◌≡◌, ◌<◌, Some, get_or, ap, sym, subst, ◌∙◌}
use Rattle.std.proofs.lemmas.Option.{slice_get_within, get_or_from_slice_get}
use Rattle.std.specs.List.{slice_get}
use Rattle.adr_seats.specs.Seats.{members_of}
use Rattle.adr_seats.specs.Table.{numbers}
use Rattle.adr_seats.proofs.Members.{counted-less, members-some}
use Rattle.adr_seats.proofs.seats.Seats.without.Goals as goal

pub take-requires-clause-some : goal.take-requires-clause-some
take-requires-clause-some c =
    let ys = numbers c.self.inside.slots in
    let slot = c.in-Some.slot in
    let place = c.args.place in
    let has : slice_get ys place ≡ Some slot = sym c.get.ensures.value ∙ c.in-Some.is in
    let count : get_or (numbers c.own.new.self) slot 0 ≡ members_of slot ys =
    ap (λ zs. get_or zs slot 0) (c.in_ok-own.ensures.same ∙ c.in_ok-counts.ensures.same) ∙ c.self.invariant slot in
    subst (λ n. 0 < n) (sym count)
    (subst (λ s. 0 < members_of s ys) (get_or_from_slice_get ys place slot slot has) (members-some slot ys place (slice_get_within ys place slot has)))

pub invariant_of-result : goal.invariant_of-result
invariant_of-result c =
    let ys = numbers c.self.inside.slots in
    let slot = c.in-Some.slot in
    let place = c.args.place in
    let has : slice_get ys place ≡ Some slot = sym c.get.ensures.value ∙ c.in-Some.is in
    λ s. counted-less s slot ys place _ _ (slice_get_within ys place slot has) (sym (get_or_from_slice_get ys place slot slot has)) (c.take.ensures.counts s)
    (ap (λ zs. get_or zs s 0) (c.in_ok-own.ensures.same ∙ c.in_ok-counts.ensures.same) ∙ c.self.invariant s)
    ∙ ap (λ zs. members_of s zs) (sym c.in_ok-slots.ensures.numbers)
