use Rattle.std.proofs.Common.{ap, ◌∙◌}
use Rattle.adr_model.specs.Answer.{changes, earliest}
use Rattle.adr_model.specs.Governor.{winner_at}
use Rattle.adr_plain.proofs.Moments.{state_ranked}
use Rattle.adr_plain.proofs.state.state_of.Goals as goal

pub returns-clause-ok : goal.returns-clause-ok
returns-clause-ok c =
    let entries = c.as_slice-entries.ensures.value ∙ c.in_ok-entries.ensures.ok in
    state_ranked c.args.tie c.args.book.now.objects c.args.id.now c.args.payload_type.now c.args.moment _ _
    (c.winner_at-governor.ensures ∙ ap (λ es. winner_at es c.args.moment) entries)
    (c.in_ok-until.ensures.ok ∙ ap (λ es. earliest (changes es c.args.moment)) entries)
