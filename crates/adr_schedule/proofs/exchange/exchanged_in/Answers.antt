use Rattle.std.proofs.Common.{◌≡◌, ◌∷◌, [], Some, sym, ap, ◌∙◌}
use Rattle.std.specs.Option.{option_copied}
use Rattle.adr_shared.specs.Map.{put}
use Rattle.adr_schedule.specs.Slots.{in_slot}
use Rattle.adr_schedule.proofs.Exchanged.{in_one}
use Rattle.adr_schedule.proofs.exchange.exchanged_in.Goals as goal

pub returns-in_ok-after-in-Some-clause-groups : goal.returns-in_ok-after-in-Some-clause-groups
returns-in_ok-after-in-Some-clause-groups c =
    let there : in_slot c.args.made.now c.args.slot ≡ Some c.in-Some.group.now = sym c.get.ensures ∙ ap option_copied c.in-Some.is in
    in_one c.args.groups.now c.args.made.now c.in_ok-after-in-Some.after c.args.slot c.in-Some.group.now there
    (c.in_ok-after-in-Some.ensures ∙ ap (λ v. put (c.args.slot ∷ []) v c.args.groups.now) c.in_ok-copy-in-Some.ensures)
