use Rattle.std.proofs.Common.{ap, sym, ◌∙◌}
use Rattle.adr_lines.specs.Indexes.{has_type}
use Rattle.adr_desk.proofs.Covering.{held_covers, late_in, own_same, pushed_covers}
use Rattle.adr_desk.proofs.bulk.windows.add_window.Goals as goal

pub returns-then-has_type-clause-covers : goal.returns-then-has_type-clause-covers
returns-then-has_type-clause-covers c =
    held_covers c.args.from c.args.group.now (late_in c.args.from c.args.group.now c.deref.result.now c.deref.ensures.value c.entries_start_late.ensures)
    c.args.windows.now.items c.requires.windows
    (ap (λ gs. has_type gs c.args.group.now.payload_type) (sym c.as_slice.ensures.value) ∙ sym c.has_type.ensures ∙ c.if-has_type.true)

pub returns-clause-covers : goal.returns-clause-covers
returns-clause-covers c =
    pushed_covers c.args.from c.args.windows.now.items c.push.new.self.items c.in_ok-window.window c.in_ok-push.ensures.items c.args.group.now
    (late_in c.args.from c.args.group.now c.deref.result.now c.deref.ensures.value c.entries_start_late.ensures)
    c.requires.windows c.in_ok-window.ensures.covers (own_same c.in_ok-window.window.payload_type c.args.group.now.payload_type c.in_ok-window.ensures.payload_type)
