use Rattle.std.proofs.Common.{rules, of_calls, filter, ap, ◌∙◌}
use Rattle.std.proofs.lemmas.Fn.{filter_same}
use Rattle.adr_touches.specs.Edited.{concerns_event}
use Rattle.adr_touches.proofs.ids.concerned_events.Goals as goal

pub returns-clause-ok : goal.returns-clause-ok
returns-clause-ok c =
    filter_same _ (concerns_event c.args.old.now.objects c.args.concern.now) _ (λ x b f h. search (rules, of_calls)) c.in_ok-ids.ids.items c.retain.new.self.items c.retain.ensures.filtered
    ∙ ap (filter (concerns_event c.args.old.now.objects c.args.concern.now)) c.in_ok-ids.ensures.ok
