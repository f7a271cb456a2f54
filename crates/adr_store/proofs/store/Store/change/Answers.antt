use Rattle.std.proofs.Common.{IsOk, subst}
use Rattle.adr_object.specs.declared.object.Object.TheVariants.{Program as program, Event as event, Ven as ven, Resource as resource}
use Rattle.adr_object.specs.declared.object.Edit.TheVariants.{Change}
use Rattle.adr_model.specs.Book.{program_by, ven_by, resource_by, event_by}
use Rattle.adr_model.specs.Edits.{step}
use Rattle.adr_store.proofs.Accepted.{there, old_object, entries_to_change, room_to_change, next_number}
use Rattle.adr_store.proofs.store.Store.change.Goals as goal

pub change_program-requires-clause-there : goal.change_program-requires-clause-there
change_program-requires-clause-there c = there c.args.self.now (program_by c.args.self.now c.in-Program.program.id) (old_object c.args.self.now (program c.in-Program.program) (subst (λ o. IsOk (step c.args.self.now (Change o))) c.in-Program.is c.requires.accepted))

pub change_program-requires-clause-room : goal.change_program-requires-clause-room
change_program-requires-clause-room c = room_to_change c.args.self.now (program c.in-Program.program) (subst (λ o. IsOk (step c.args.self.now (Change o))) c.in-Program.is c.requires.accepted)

pub change_ven-requires-clause-there : goal.change_ven-requires-clause-there
change_ven-requires-clause-there c = there c.args.self.now (ven_by c.args.self.now c.in-Ven.ven.id) (old_object c.args.self.now (ven c.in-Ven.ven) (subst (λ o. IsOk (step c.args.self.now (Change o))) c.in-Ven.is c.requires.accepted))

pub change_ven-requires-clause-room : goal.change_ven-requires-clause-room
change_ven-requires-clause-room c = room_to_change c.args.self.now (ven c.in-Ven.ven) (subst (λ o. IsOk (step c.args.self.now (Change o))) c.in-Ven.is c.requires.accepted)

pub change_resource-requires-clause-there : goal.change_resource-requires-clause-there
change_resource-requires-clause-there c = there c.args.self.now (resource_by c.args.self.now c.in-Resource.resource.id) (old_object c.args.self.now (resource c.in-Resource.resource) (subst (λ o. IsOk (step c.args.self.now (Change o))) c.in-Resource.is c.requires.accepted))

pub change_resource-requires-clause-room : goal.change_resource-requires-clause-room
change_resource-requires-clause-room c = room_to_change c.args.self.now (resource c.in-Resource.resource) (subst (λ o. IsOk (step c.args.self.now (Change o))) c.in-Resource.is c.requires.accepted)

pub change_event-requires-clause-there : goal.change_event-requires-clause-there
change_event-requires-clause-there c = there c.args.self.now (event_by c.args.self.now c.in-Event.event.id) (old_object c.args.self.now (event c.in-Event.event) (subst (λ o. IsOk (step c.args.self.now (Change o))) c.in-Event.is c.requires.accepted))

pub change_event-requires-clause-fresh : goal.change_event-requires-clause-fresh
change_event-requires-clause-fresh c = next_number c.args.self.now c.requires.whole

pub change_event-requires-clause-entries : goal.change_event-requires-clause-entries
change_event-requires-clause-entries c = entries_to_change c.args.self.now c.in-Event.event (subst (λ o. IsOk (step c.args.self.now (Change o))) c.in-Event.is c.requires.accepted)

pub change_event-requires-clause-room : goal.change_event-requires-clause-room
change_event-requires-clause-room c = room_to_change c.args.self.now (event c.in-Event.event) (subst (λ o. IsOk (step c.args.self.now (Change o))) c.in-Event.is c.requires.accepted)
