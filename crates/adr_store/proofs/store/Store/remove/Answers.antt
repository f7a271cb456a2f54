use Rattle.std.proofs.Common.{refl}
use Rattle.adr_store.proofs.store.Store.remove.Goals.{in-Program+in_ok-programs-in-Program, in-Ven+in_ok-vens-in-Ven, in-Resource+in_ok-resources-in-Resource, in-Event+in_ok-events-in-Event}
use Rattle.adr_store.proofs.store.Store.remove.Goals as goal

pub returns-clause-ok : goal.returns-clause-ok
returns-clause-ok c = elim c.match-kind.branch [
  | in-Program+in_ok-programs-in-Program w ↦ rw (w.self-inside-is, w.in-Program.is, w.replace.ensures.after, w.in_ok-programs-in-Program.ensures, ← c.self.view_is) refl
  | in-Ven+in_ok-vens-in-Ven w ↦ rw (w.self-inside-is, w.in-Ven.is, w.replace-in-Ven.ensures.after, w.in_ok-vens-in-Ven.ensures, ← c.self.view_is) refl
  | in-Resource+in_ok-resources-in-Resource w ↦ rw (w.self-inside-is, w.in-Resource.is, w.replace-in-Resource.ensures.after, w.in_ok-resources-in-Resource.ensures, ← c.self.view_is) refl
  | in-Event+in_ok-events-in-Event w ↦ rw (w.self-inside-is, w.in-Event.is, w.replace-in-Event.ensures.after, w.in_ok-events-in-Event.ensures, ← c.self.view_is) refl
]
