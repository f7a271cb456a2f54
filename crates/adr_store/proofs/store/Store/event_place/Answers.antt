use Rattle.adr_store.proofs.store.Store.event_place.Goals as goal

pub returns-clause-value : goal.returns-clause-value
returns-clause-value c = rw (← c.self.view_is) c.place.ensures.value
