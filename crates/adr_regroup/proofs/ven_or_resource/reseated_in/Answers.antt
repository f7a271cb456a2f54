use Rattle.std.proofs.Common.{List, subst, sym}
use Rattle.adr_model.specs.declared.written.Written.{Written}
use Rattle.adr_lines.specs.Exchange.{IsIndexOf}
use Rattle.adr_regroup.proofs.ven_or_resource.reseated_in.Goals as goal

pub reseated_all-requires-clause-basis : goal.reseated_all-requires-clause-basis
reseated_all-requires-clause-basis g c =
    let edited = c.args.edited.now in
    record {
      keys = c.requires.edited.keys;
      kept = c.requires.kept;
      indexed = subst (λ (es : List Written). IsIndexOf edited.tie es edited.indexes.now) (sym c.requires.kept.events) c.requires.edited.indexed;
    }
