use Rattle.std.proofs.Common.{◌≡◌, ◌≤◌, ◌++◌, length, ap, ◌∙◌, subst}
use Rattle.adr_model.specs.Queries.{roll_line}
use Rattle.adr_model.specs.Book.{Book}
use Rattle.adr_book.specs.Ledger.{Ledger}
use Rattle.adr_calendar.proofs.Walked.{walked_on, whole_walk}
use Rattle.adr_calendar.proofs.answers.put_roll_lines.Goals as goal

pub loop-place-preserved : goal.loop-place-preserved
loop-place-preserved g c =
    let book = g.C.Calendar.objects c.args.calendar.now in
    record {
      lines =
          walked_on (λ r. roll_line (g.C.Calendar.tie c.args.calendar.now) book c.args.payload_type.now c.args.moment r.id) _ _ _ book.resources c.loop-place.place
          c.loop-place.invariant.lines c.in_ok-put_roll_line_at.ensures.ok;
      book = ap (λ (b : Ledger). b.objects) c.put_roll_line_at.ensures.book ∙ c.loop-place.invariant.book;
      kind = c.put_roll_line_at.ensures.payload_type ∙ c.loop-place.invariant.kind;
    }

pub returns-clause-ok : goal.returns-clause-ok
returns-clause-ok g c =
    let book = g.C.Calendar.objects c.args.calendar.now in
    let count : c.count-place-end.result ≡ length book.resources = c.count-place-end.ensures.value ∙ ap (λ (b : Book). length b.resources) c.book-2.ensures in
    let past : length book.resources ≤ c.loop-place.place = subst (λ n. n ≤ c.loop-place.place) count c.loop-place-test.false in
    c.loop-place.invariant.lines
    ∙ ap (λ bytes. c.args.out.now.items ++ bytes)
    (whole_walk (λ r. roll_line (g.C.Calendar.tie c.args.calendar.now) book c.args.payload_type.now c.args.moment r.id) book.resources c.loop-place.place past)
