use Rattle.std.proofs.Common.{◌≡◌, ◌++◌, slice_get, true, is_some, sym, ap, subst, ◌∙◌}
use Rattle.std.specs.Prelude.{codes, flat_map}
use Rattle.std.proofs.lemmas.Result.{IfOk-weaker}
use Rattle.adr_value.specs.Payload.{name_of}
use Rattle.adr_model.specs.Book.{Book, resource_by}
use Rattle.adr_model.specs.Queries.{in_lines, type_text}
use Rattle.adr_calendar.proofs.Places.{bytes_answered, types_answered}
use Rattle.adr_calendar.proofs.answers.types.Goals as goal

pub returns : goal.returns
returns g c =
    let book = g.C.Calendar.objects c.args.calendar.now in
    let id = c.args.id.now in
    let place = c.in-Some.place in
    let there : is_some (resource_by book id) ≡ true = sym (c.in-Some.ensures.found ∙ ap (λ i. is_some (resource_by c.book.result.now.objects i)) c.lent.ensures ∙ ap (λ (b : Book). is_some (resource_by b id)) c.book.ensures) in
    let at : slice_get book.resources place ≡ resource_by book id =
    subst (λ (b : Book). slice_get b.resources place ≡ resource_by b id) c.book.ensures (c.in-Some.ensures.value ∙ ap (resource_by c.book.result.now.objects) c.lent.ensures) in
    bytes_answered (λ v. v.items) c.text_of_types.result _
    (IfOk-weaker c.text_of_types.result _ _
    (λ v told.
    types_answered book id place there at (g.C.Calendar.tie c.args.calendar.now) c.in_ok-types.types.items v.items c.in_ok-types.ensures.ok
    (told
    ∙ ap (λ (b : Book). in_lines b (flat_map (λ kind. type_text (name_of kind) ++ codes "\n") c.as_slice.result.now)) c.book-2.ensures
    ∙ ap (λ kinds. in_lines book (flat_map (λ kind. type_text (name_of kind) ++ codes "\n") kinds)) c.as_slice.ensures.value))
    c.text_of_types.ensures.ok)
    c.text_of_types.ensures.memory
