use Rattle.std.proofs.Common.{ap, sym, ◌∙◌}
use Rattle.adr_book.specs.Judged.{placed_by}
use Rattle.adr_desk.proofs.make.make.Goals as goal

pub between-requires : goal.between-requires
between-requires g c =
    let book = c.book-book.result.now in
    rw c.edit.ensures (c.edit_laws.ensures.bases book.base.version book.objects c.in_ok-after.after.objects c.args.edit.now c.in_ok-after.ensures.objects)

pub grouped-requires-clause-accepted : goal.grouped-requires-clause-accepted
grouped-requires-clause-accepted g c =
    let book = c.book-book.result.now in
    record {
      made = rw c.edit-2.ensures (c.edit_laws.ensures.bases book.base.version book.objects c.in_ok-after.after.objects c.args.edit.now c.in_ok-after.ensures.objects);
      layout = c.layout.ensures ∙ ap placed_by (sym c.edit-2.ensures);
      desk = rw (c.tie.ensures, c.book-book.ensures) (record { keys_are = c.requires.desk.keys_are; indexed = c.requires.desk.indexed; seated = c.schedule.ensures });
    }

pub returns-clause-touched : goal.returns-clause-touched
returns-clause-touched g c = rw (c.in_ok-touched.ensures.touched, c.of.ensures.book, c.book-book.ensures)

pub returns-clause-compares : goal.returns-clause-compares
returns-clause-compares g c = rw (c.count.ensures.value, c.of.ensures.book, c.in_ok-touched.ensures.touched) c.in_ok-schedule.ensures.least
