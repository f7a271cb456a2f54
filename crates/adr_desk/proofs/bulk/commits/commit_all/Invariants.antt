use Rattle.std.proofs.Common.{◌≡◌, ◌++◌, []}
use Rattle.std.specs.Vec.Iter.{into_iter_items}
use Rattle.adr_model.specs.Book.{empty}
use Rattle.adr_model.specs.Edits.{full_at}
use Rattle.adr_desk.specs.Loaded.{accepted_of, answers_to, objects_after}
use Rattle.adr_desk.proofs.bulk.commits.commit_all.Given as goal

-- what was made and answered so far, and then what the edits that are left make
abbrev pub invariant-loop-edit : goal.invariant-loop-edit
invariant-loop-edit l = record {
  answers : l.answers.items ++ answers_to (full_at empty.version) l.book.objects (into_iter_items l.edit-iterator) ≡ answers_to (full_at empty.version) empty l.fn.edits.items;
  objects : objects_after (full_at empty.version) l.book.objects (into_iter_items l.edit-iterator) ≡ objects_after (full_at empty.version) empty l.fn.edits.items;
  pending : l.book.pending ++ accepted_of (full_at empty.version) l.book.objects (into_iter_items l.edit-iterator) ≡ accepted_of (full_at empty.version) empty l.fn.edits.items;
  closed : l.book.closed ≡ [];
  base : l.book.base ≡ empty;
}
