use Rattle.std.proofs.Common.{List, subst}
use Rattle.adr_model.specs.declared.written.Written.{Written}
use Rattle.adr_model.proofs.EditLemmas.{accepted}
use Rattle.adr_audience.specs.Keys.{AreKeysOf}
use Rattle.adr_lines.specs.Exchange.{IsIndexOf}
use Rattle.adr_desk.proofs.LastKind.{other_events}
use Rattle.adr_desk.proofs.make.after_other.Goals as goal

pub returns-clause-ok : goal.returns-clause-ok
returns-clause-ok g c =
    let old = c.args.accepted.now.old.now.objects in
    let new = c.args.accepted.now.new.now.objects in
    let edit = c.args.accepted.now.edit.now in
    record {
      keys_are = subst (λ b. AreKeysOf b c.followed.new.keys) (accepted old new edit c.requires.accepted.made).1 c.in_ok-after.ensures.keys;
      indexed = subst (λ (es : List Written). IsIndexOf c.args.accepted.now.tie es c.args.indexes.now) (other_events old new edit c.requires.other c.requires.accepted.made) c.requires.accepted.desk.indexed;
      seated = c.in_ok-after.ensures.seated;
    }
