use Rattle.std.proofs.Common.{is_some, ap, ◌∙◌}
use Rattle.adr_model.specs.Book.{resource_by}
use Rattle.adr_touches.proofs.Added.{no_resource}
use Rattle.adr_touches.proofs.ids.is_new_resource.Goals as goal

pub returns : goal.returns
returns c = no_resource c.args.book.now.objects c.args.id.now c.resource_place.result c.is_none.result c.is_none.ensures (c.resource_place.ensures.found ∙ ap (λ i. is_some (resource_by c.args.book.now.objects i)) c.lent.ensures)
