use Rattle.std.proofs.Common.{◌≡◌, ◌<◌, ◌&&◌, ◌||◌, [], eqb, length, get_or, ap, sym, subst, ◌∙◌, arith}
use Rattle.std.proofs.lemmas.List.{get_or_read, get_or_push, length_push}
use Rattle.adr_keys.specs.Rows.{offers_key}
use Rattle.adr_keys.specs.Sets.{holds}
use Rattle.adr_keys.proofs.Indexed.{Indexes, indexed_more}
use Rattle.adr_keys.proofs.index.add_row.Goals as goal

pub put_all-requires : goal.put_all-requires
put_all-requires c =
    let rows = c.args.rows.now.items in
    let items = c.push.new.self.items in
    let place = c.len-place.result in
    let e = c.in_ok-push.ensures.items in
    let within : place < length items = omega (arith, c.len-place.ensures, length_push rows c.args.row, ap length e) in
    let at : length rows ≡ place = omega (arith, c.len-place.ensures) in
    let is : c.index.result.now ≡ c.args.row = get_or_read items place c.index.result.now within c.index.ensures [] ∙ ap (λ xs. get_or xs place []) e ∙ get_or_push rows c.args.row [] place at in
    λ k h. c.in_ok-reserve_all.ensures.ok k (ap (λ xs. offers_key xs k) (sym is) ∙ h)

pub returns-clause-index : goal.returns-clause-index
returns-clause-index c =
    let rows = c.args.rows.now.items in
    let items = c.push.new.self.items in
    let place = c.len-place.result in
    let e = c.in_ok-push.ensures.items in
    let within : place < length items = omega (arith, c.len-place.ensures, length_push rows c.args.row, ap length e) in
    let at : length rows ≡ place = omega (arith, c.len-place.ensures) in
    let is : c.index.result.now ≡ c.args.row = get_or_read items place c.index.result.now within c.index.ensures [] ∙ ap (λ xs. get_or xs place []) e ∙ get_or_push rows c.args.row [] place at in
    subst (λ xs. Indexes (holds c.put_all.new.self.places) xs) (sym e)
    (indexed_more (holds c.args.sets.now.places) (holds c.put_all.new.self.places) rows c.args.row place c.requires (sym at)
    (λ k p. c.put_all.ensures.places k p ∙ ap (λ xs. (offers_key xs k && eqb p place) || holds c.reserve_all.new.self.places k p) is
    ∙ ap (λ b. (offers_key c.args.row k && eqb p place) || b) (c.in_ok-reserve_all.ensures.same k p)))
