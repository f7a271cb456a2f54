use Rattle.std.proofs.Common.{sym, ◌∙◌}
use Rattle.adr_regroup.proofs.PartyWindows.{added_entries, added_least}
use Rattle.adr_regroup.proofs.spot.add_event.Goals as goal

pub returns-clause-entries : goal.returns-clause-entries
returns-clause-entries c =
    added_entries c.args.tie c.args.book.now.objects.events c.args.number c.in-Some.event.now c.args.windows.now.items c.append.new.self.items c.in_ok-groups.groups.items
    c.in-Some.ensures c.in_ok-append.ensures.items c.in_ok-groups.ensures.entries c.args.others.now (sym c.has.ensures ∙ c.if-has.false)

pub returns-clause-least : goal.returns-clause-least
returns-clause-least c =
    added_least c.args.tie c.args.book.now.objects.events c.args.number c.in-Some.event.now c.args.windows.now.items c.append.new.self.items c.in_ok-groups.groups.items
    c.in-Some.ensures c.in_ok-append.ensures.items c.in_ok-groups.ensures.entries c.args.others.now (sym c.has.ensures ∙ c.if-has.false) c.in_ok-groups.ensures.types
