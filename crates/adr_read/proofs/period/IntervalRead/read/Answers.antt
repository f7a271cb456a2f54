use Rattle.std.proofs.Common.{◌≡◌, ◌∙◌, [], codes, get_or, ap}
use Rattle.adr_read.specs.Looking.{member_at}
use Rattle.adr_read.specs.Names.{member_text}
use Rattle.adr_read.specs.Periods.{interval_faults, interval_in}
use Rattle.adr_read.proofs.Reading.{object_gives}
use Rattle.adr_read.proofs.period.IntervalRead.read.Goals as goal

pub returns-in-Some : goal.returns-in-Some
unfolding interval_faults interval_in
returns-in-Some c =
    let told = c.in_ok-members.ensures.told in
    let d = told.0 in
    let found = rw c.in-Some.is at told.2 in
    let names = rw c.in-Some.is at c.in_ok-members.ensures.names in
    let id : member_text c.in-Some.members.0.0.name ≡ codes "id" = ap (λ ns. get_or ns 0 []) names ∙ ap member_text c.named-id.ensures.name in
    let period : member_text c.in-Some.members.0.1.name ≡ codes "intervalPeriod" = ap (λ ns. get_or ns 1 []) names ∙ ap member_text c.named-period.ensures.name in
    let payloads : member_text c.in-Some.members.1.name ≡ codes "payloads" = ap (λ ns. get_or ns 2 []) names ∙ ap member_text c.named-payloads.ensures.name in (
      d,
      told.1,
      object_gives c.interval_of.result d found.0 _ _ found.1
          (c.interval_of.ensures (member_at (codes "id") d) (member_at (codes "intervalPeriod") d) (member_at (codes "payloads") d)
          (rw id at found.2.0.0) (rw period at found.2.0.1) (rw payloads at found.2.1)),
    )
