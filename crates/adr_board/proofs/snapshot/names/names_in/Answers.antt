use Rattle.std.proofs.Common.{◌≡◌, slice_get, Some, ap, sym, arith, ◌∙◌}
use Rattle.std.proofs.lemmas.Option.{get_or_from_slice_get}
use Rattle.std.specs.Option.{option_copied}
use Rattle.adr_board.specs.Types.{edit_names}
use Rattle.adr_board.proofs.PrivateNames.{all_private, more_private}
use Rattle.adr_board.proofs.snapshot.names.names_in.Goals as goal

pub loop-place-preserved : goal.loop-place-preserved
loop-place-preserved c =
    let edits = c.args.edits.now in
    let place = c.loop-place.place in
    let edit = c.in-Some.edit.now in
    let here : slice_get edits place ≡ Some edit = sym c.at.ensures ∙ ap option_copied c.in-Some.is in
    more_private edit_names edits place edit (omega (arith, c.len-place-end.ensures, c.loop-place-test.true)) (sym (get_or_from_slice_get edits place edit edit here))
    c.loop-place.invariant c.has_private_names.ensures

pub returns : goal.returns
returns c = all_private edit_names c.args.edits.now c.loop-place.place (omega (arith, c.len-place-end.ensures, c.loop-place-test.false)) c.loop-place.invariant
