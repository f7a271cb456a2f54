use Rattle.std.proofs.Common.{ap, subst, ◌∙◌}
use Rattle.adr_model.proofs.EditLemmas.{accepted}
use Rattle.adr_index.specs.Index.{inserted_all, others_all}
use Rattle.adr_audience.specs.Keys.{AreKeysOf}
use Rattle.adr_lines.specs.Grouped.{entries_under}
use Rattle.adr_lines.specs.Indexes.{under}
use Rattle.adr_desk.specs.Edited.{come_of, gone_of}
use Rattle.adr_desk.proofs.Made.{come_fits, come_indexed, desk_after, desk_back}
use Rattle.adr_desk.proofs.Sides.{two_sides}
use Rattle.adr_desk.proofs.after_event.exchanged.Goals as goal

pub put_in-requires : goal.put_in-requires
put_in-requires g c =
    let old = c.args.accepted.now.old.now.objects in
    let edit = c.args.accepted.now.edit.now in
    record {
      fresh = rw c.entries.ensures
          (come_fits c.args.accepted.now.tie old c.args.accepted.now.new.now.objects (gone_of old edit) (come_of old edit) c.requires.change.exchange (c.exchange_laws.ensures.fits c.args.accepted.now.tie) c.args.indexes.now c.args.change.now.come c.requires.desk.indexed c.requires.change.come);
    }

pub followed-requires-clause-two : goal.followed-requires-clause-two
followed-requires-clause-two g c =
    let old = c.args.accepted.now.old.now.objects in
    let edit = c.args.accepted.now.edit.now in
    two_sides c.args.accepted.now.tie old c.args.accepted.now.new.now.objects (gone_of old edit) (come_of old edit) c.requires.change.exchange c.args.change.now c.requires.change.gone c.requires.change.come

pub followed-requires-clause-indexed : goal.followed-requires-clause-indexed
followed-requires-clause-indexed g c =
    let old = c.args.accepted.now.old.now.objects in
    let edit = c.args.accepted.now.edit.now in
    come_indexed c.args.accepted.now.tie old c.args.accepted.now.new.now.objects (gone_of old edit) (come_of old edit) c.requires.change.exchange (c.exchange_laws.ensures.makes c.args.accepted.now.tie) c.args.indexes.now c.put_in.new.indexes c.args.change.now.come
    c.requires.desk.indexed c.requires.change.come (λ k. c.in_ok-put_in.ensures.ok k ∙ ap (λ es. inserted_all (entries_under es k) (under c.args.indexes.now k)) c.entries.ensures)

pub returns-in-Ok-clause-ok : goal.returns-in-Ok-clause-ok
returns-in-Ok-clause-ok g c =
    let old = c.args.accepted.now.old.now.objects in
    let new = c.args.accepted.now.new.now.objects in
    let edit = c.args.accepted.now.edit.now in
    desk_after c.args.accepted.now.tie old new (gone_of old edit) (come_of old edit) c.requires.change.exchange c.args.keys.now c.args.indexes.now c.put_in.new.indexes c.take_out.new.indexes c.args.accepted.now.schedule.now c.in-Ok.after c.requires.desk
    (c.exchange_laws.ensures.makes c.args.accepted.now.tie) c.args.change.now c.followed.new.keys c.requires.change.gone c.requires.change.come
    (λ k. c.in_ok-put_in.ensures.ok k ∙ ap (λ es. inserted_all (entries_under es k) (under c.args.indexes.now k)) c.entries.ensures)
    (λ k. c.take_out.ensures k ∙ ap (λ es. others_all (entries_under es k) (under c.put_in.new.indexes k)) c.entries-in-Ok.ensures)
    (subst (λ b. AreKeysOf b c.followed.new.keys) (accepted old new edit c.requires.change.made).1 c.in-Ok.ensures.keys)
    c.in-Ok.ensures.seated

pub returns-in-Err-clause-err : goal.returns-in-Err-clause-err
returns-in-Err-clause-err g c =
    let old = c.args.accepted.now.old.now.objects in
    let edit = c.args.accepted.now.edit.now in
    rw c.in-Err.ensures.unchanged
    (desk_back c.args.accepted.now.tie old c.args.accepted.now.new.now.objects (gone_of old edit) (come_of old edit) c.requires.change.exchange c.args.keys.now c.args.indexes.now c.put_in.new.indexes c.take_out-in-Err.new.indexes c.args.accepted.now.schedule.now c.args.accepted.now.schedule.now c.requires.desk
    (c.exchange_laws.ensures.makes c.args.accepted.now.tie) c.exchange_laws.ensures.undone c.args.change.now c.requires.change.come
    (λ k. c.in_ok-put_in.ensures.ok k ∙ ap (λ es. inserted_all (entries_under es k) (under c.args.indexes.now k)) c.entries.ensures)
    (λ k. c.take_out-in-Err.ensures k ∙ ap (λ es. others_all (entries_under es k) (under c.put_in.new.indexes k)) c.entries-in-Err.ensures))
