use Rattle.std.proofs.Common.{rules, of_calls, not}
use Rattle.std.specs.List.{list_any}
use Rattle.std.specs.Str.{bytes_eq}
use Rattle.std.proofs.lemmas.Fn.{filter_same}
use Rattle.adr_touches.proofs.Added.{joined}
use Rattle.adr_touches.proofs.Listed.{event_ids}
use Rattle.adr_touches.proofs.ids.all_event_ids.Goals as goal

pub returns-clause-ok : goal.returns-clause-ok
returns-clause-ok c =
    joined c.append.new.self.items c.in_ok-ids.ids.items c.in_ok-added.added.items c.retain.new.self.items (event_ids c.args.old.now.objects) (event_ids c.args.new.now.objects)
    c.in_ok-append.ensures.items c.in_ok-ids.ensures.ok
    (filter_same _ (λ id. not (list_any (bytes_eq id) (event_ids c.args.old.now.objects))) _ (λ x b f h. search (rules, of_calls)) c.in_ok-added.added.items c.retain.new.self.items c.retain.ensures.filtered)
    c.in_ok-added.ensures.ok
