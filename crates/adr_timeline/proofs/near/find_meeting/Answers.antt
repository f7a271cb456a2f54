use Rattle.std.proofs.Common.{Bool, if◌then◌else◌, [], ◌∷◌, List, ap, sym, refl, append-nil, ◌+◌, drop, ◌∙◌}
use Rattle.adr_model.specs.declared.entry.Entry.{Entry}
use Rattle.adr_model.specs.Entries.{meeting}
use Rattle.adr_timeline.proofs.Each.{all_made, one_made}
use Rattle.adr_timeline.proofs.near.find_meeting.Goals as goal
use Rattle.adr_timeline.proofs.near.find_meeting.Goals.{then-meets+in_ok-push, else-meets}

abbrev Left : goal.Joined-meets → List Entry
Left c = meeting (drop (c.loop-entry.entry-index + 1) c.args.entries.now) c.args.window.now

pub loop-entry-preserved : goal.loop-entry-preserved
loop-entry-preserved c =
    let entry = c.entry-item.result in
    let more = Left c in
    let more_made = one_made (λ (es : List Entry). meeting es c.args.window.now) c.args.entries.now c.loop-entry.entry-index c.loop-entry.found.items _ c.loop-entry.invariant entry in
    elim c.if-meets.branch [
      | then-meets+in_ok-push w ↦ more_made (entry ∷ []) c.if-meets.found.items c.loop-entry-test.true c.entry-item.is
          (ap (λ (b : Bool). if b then entry ∷ more else more) (sym c.meets.ensures.test ∙ w.if-meets.true))
          (rw w.found-is w.in_ok-push.ensures.items)
      | else-meets w ↦ more_made [] c.if-meets.found.items c.loop-entry-test.true c.entry-item.is
          (ap (λ (b : Bool). if b then entry ∷ more else more) (sym c.meets.ensures.test ∙ w.if-meets.false))
          (rw w.found-is (sym (append-nil c.loop-entry.found.items)))
    ]

pub returns : goal.returns
returns c = all_made (λ (es : List Entry). meeting es c.args.window.now) c.args.entries.now c.loop-entry.entry-index c.loop-entry.found.items _ c.loop-entry.invariant c.loop-entry-test.false refl
