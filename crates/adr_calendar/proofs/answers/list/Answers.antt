use Rattle.std.proofs.Common.{◌≡◌, slice_get, true, is_some, sym, ap, subst, ◌∙◌, arith}
use Rattle.std.specs.Prelude.{flat_map, int_lt}
use Rattle.std.proofs.lemmas.Int.{ints}
use Rattle.std.proofs.lemmas.Result.{IfOk-weaker}
use Rattle.adr_model.specs.Book.{Book, resource_by}
use Rattle.adr_model.specs.Queries.{in_lines}
use Rattle.adr_calendar.specs.Segments.{line_of_segment}
use Rattle.adr_calendar.proofs.Places.{bytes_answered, list_answered}
use Rattle.adr_calendar.proofs.answers.list.Goals as goal

pub returns : goal.returns
returns g c =
    let book = g.C.Calendar.objects c.args.calendar.now in
    let id = c.args.id.now in
    let kind = c.args.payload_type.now in
    let place = c.in-Some.place in
    let there : is_some (resource_by book id) ≡ true = sym (c.in-Some.ensures.found ∙ ap (λ i. is_some (resource_by c.book.result.now.objects i)) c.lent.ensures ∙ ap (λ (b : Book). is_some (resource_by b id)) c.book.ensures) in
    let at : slice_get book.resources place ≡ resource_by book id =
    subst (λ (b : Book). slice_get b.resources place ≡ resource_by b id) c.book.ensures (c.in-Some.ensures.value ∙ ap (resource_by c.book.result.now.objects) c.lent.ensures) in
    let less : int_lt c.args.from c.args.to ≡ true = grind (arith, ints, c.nanoseconds.ensures.value, c.nanoseconds-2.ensures.value, c.if-nanoseconds.false) in
    bytes_answered (λ v. v.items) c.text_of_list.result _
    (IfOk-weaker c.text_of_list.result _ _
    (λ v told.
    list_answered book id place there at (g.C.Calendar.tie c.args.calendar.now) kind c.args.from c.args.to c.in_ok-segments.segments.items v.items c.in_ok-segments.ensures.ok
    c.timeline_laws.ensures less
    (told
    ∙ ap (λ (b : Book). in_lines b (flat_map (line_of_segment b kind c.args.to) c.as_slice.result.now)) c.book-2.ensures
    ∙ ap (λ ss. in_lines book (flat_map (line_of_segment book kind c.args.to) ss)) c.as_slice.ensures.value))
    c.text_of_list.ensures.ok)
    c.text_of_list.ensures.memory
