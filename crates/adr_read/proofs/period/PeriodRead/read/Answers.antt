use Rattle.std.proofs.Common.{◌≡◌, ◌∙◌, [], codes, get_or, ap}
use Rattle.adr_read.specs.Looking.{member_at}
use Rattle.adr_read.specs.Names.{member_text}
use Rattle.adr_read.specs.Periods.{period_faults, period_in}
use Rattle.adr_read.proofs.Reading.{object_gives}
use Rattle.adr_read.proofs.period.PeriodRead.read.Goals as goal

pub returns-in-Some : goal.returns-in-Some
unfolding period_faults period_in
returns-in-Some c =
    let told = c.in_ok-members.ensures.told in
    let d = told.0 in
    let found = rw c.in-Some.is at told.2 in
    let names = rw c.in-Some.is at c.in_ok-members.ensures.names in
    let start : member_text c.in-Some.members.0.0.name ≡ codes "start" = ap (λ ns. get_or ns 0 []) names ∙ ap member_text c.named-start.ensures.name in
    let duration : member_text c.in-Some.members.0.1.name ≡ codes "duration" = ap (λ ns. get_or ns 1 []) names ∙ ap member_text c.named-duration.ensures.name in
    let randomize : member_text c.in-Some.members.1.name ≡ codes "randomizeStart" = ap (λ ns. get_or ns 2 []) names ∙ ap member_text c.named-randomize.ensures.name in (
      d,
      told.1,
      object_gives c.period_of.result d found.0 _ _ found.1
          (c.period_of.ensures c.args.context.now.moment (member_at (codes "start") d) (member_at (codes "duration") d) (member_at (codes "randomizeStart") d)
          (rw start at found.2.0.0) (rw duration at found.2.0.1) (rw randomize at found.2.1)),
    )
