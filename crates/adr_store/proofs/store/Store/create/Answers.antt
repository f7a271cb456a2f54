use Rattle.std.proofs.Common.{IsOk, subst}
use Rattle.adr_object.specs.declared.object.Object.TheVariants.{Program as program, Event as event, Ven as ven, Resource as resource}
use Rattle.adr_object.specs.declared.object.Edit.TheVariants.{Create}
use Rattle.adr_model.specs.Book.{program_by, ven_by, resource_by, event_by}
use Rattle.adr_model.specs.Edits.{step}
use Rattle.adr_store.proofs.Accepted.{absent, new_object, few_to_create, entries_to_create, room_to_create, next_number}
use Rattle.adr_store.proofs.store.Store.create.Goals as goal

pub create_program-requires-clause-new : goal.create_program-requires-clause-new
create_program-requires-clause-new c = absent c.args.self.now (program_by c.args.self.now c.in-Program.program.id) (new_object c.args.self.now (program c.in-Program.program) (subst (λ o. IsOk (step c.args.self.now (Create o))) c.in-Program.is c.requires.accepted))

pub create_program-requires-clause-room : goal.create_program-requires-clause-room
create_program-requires-clause-room c = room_to_create c.args.self.now (program c.in-Program.program) (subst (λ o. IsOk (step c.args.self.now (Create o))) c.in-Program.is c.requires.accepted)

pub create_ven-requires-clause-new : goal.create_ven-requires-clause-new
create_ven-requires-clause-new c = absent c.args.self.now (ven_by c.args.self.now c.in-Ven.ven.id) (new_object c.args.self.now (ven c.in-Ven.ven) (subst (λ o. IsOk (step c.args.self.now (Create o))) c.in-Ven.is c.requires.accepted))

pub create_ven-requires-clause-room : goal.create_ven-requires-clause-room
create_ven-requires-clause-room c = room_to_create c.args.self.now (ven c.in-Ven.ven) (subst (λ o. IsOk (step c.args.self.now (Create o))) c.in-Ven.is c.requires.accepted)

pub create_resource-requires-clause-new : goal.create_resource-requires-clause-new
create_resource-requires-clause-new c = absent c.args.self.now (resource_by c.args.self.now c.in-Resource.resource.id) (new_object c.args.self.now (resource c.in-Resource.resource) (subst (λ o. IsOk (step c.args.self.now (Create o))) c.in-Resource.is c.requires.accepted))

pub create_resource-requires-clause-few : goal.create_resource-requires-clause-few
create_resource-requires-clause-few c = few_to_create c.args.self.now (resource c.in-Resource.resource) (subst (λ o. IsOk (step c.args.self.now (Create o))) c.in-Resource.is c.requires.accepted)

pub create_resource-requires-clause-room : goal.create_resource-requires-clause-room
create_resource-requires-clause-room c = room_to_create c.args.self.now (resource c.in-Resource.resource) (subst (λ o. IsOk (step c.args.self.now (Create o))) c.in-Resource.is c.requires.accepted)

pub create_event-requires-clause-new : goal.create_event-requires-clause-new
create_event-requires-clause-new c = absent c.args.self.now (event_by c.args.self.now c.in-Event.event.id) (new_object c.args.self.now (event c.in-Event.event) (subst (λ o. IsOk (step c.args.self.now (Create o))) c.in-Event.is c.requires.accepted))

pub create_event-requires-clause-fresh : goal.create_event-requires-clause-fresh
create_event-requires-clause-fresh c = next_number c.args.self.now c.requires.whole

pub create_event-requires-clause-few : goal.create_event-requires-clause-few
create_event-requires-clause-few c = few_to_create c.args.self.now (event c.in-Event.event) (subst (λ o. IsOk (step c.args.self.now (Create o))) c.in-Event.is c.requires.accepted)

pub create_event-requires-clause-entries : goal.create_event-requires-clause-entries
create_event-requires-clause-entries c = entries_to_create c.args.self.now c.in-Event.event (subst (λ o. IsOk (step c.args.self.now (Create o))) c.in-Event.is c.requires.accepted)

pub create_event-requires-clause-room : goal.create_event-requires-clause-room
create_event-requires-clause-room c = room_to_create c.args.self.now (event c.in-Event.event) (subst (λ o. IsOk (step c.args.self.now (Create o))) c.in-Event.is c.requires.accepted)
