use Rattle.std.proofs.Common.{◌≡◌, ◌++◌, List, [], Result, Ok, Err, append_assoc, refl, ◌∙◌}
use Rattle.adr_refusal.specs.declared.refusal.Refusal.{Refusal}
use Rattle.adr_object.specs.declared.object.Edit.{Edit}
use Rattle.adr_model.specs.Book.{Book}
use Rattle.adr_desk.specs.Loaded.{if_accepted}
use Rattle.adr_desk.proofs.bulk.commits.commit_all.Goals as goal

-- the edit, where it is accepted, and the others after it
with_others : (edit : Edit) (made : Result Book Refusal) (others : List Edit) → if_accepted edit made [] ++ others ≡ if_accepted edit made others
with_others edit (Ok after) others = refl
with_others edit (Err fault) others = refl

pub loop-edit-preserved : goal.loop-edit-preserved
loop-edit-preserved c =
    let left = c.in-Some.ensures.steps.0 in
    let made = c.in_ok-answer.ensures in
    let so_far = c.loop-edit.invariant in
    record {
      answers = rw (c.in_ok-push.ensures.items, made.objects, made.answer, so_far.base, append_assoc) (rw left at so_far.answers);
      objects = rw (made.objects, so_far.base) (rw left at so_far.objects);
      pending = rw (made.pending, made.objects, so_far.base, append_assoc, with_others) (rw left at so_far.pending);
      closed = made.closed ∙ so_far.closed;
      base = made.base ∙ so_far.base;
    }
