use Rattle.std.proofs.Common.{refl, subst}
use Rattle.adr_model.specs.Book.{Book}
use Rattle.adr_audience.specs.Keys.{AreKeysOf}
use Rattle.adr_regroup.proofs.program.reseated.Goals as goal

pub reseated_all-requires-clause-basis : goal.reseated_all-requires-clause-basis
reseated_all-requires-clause-basis g c = record {
  keys = subst (λ (b : Book). AreKeysOf b c.in_ok-keys.keys) c.objects.ensures c.in_ok-keys.ensures.keys;
  kept = record { events = refl; programs = refl };
  indexed = c.requires.indexed;
}
