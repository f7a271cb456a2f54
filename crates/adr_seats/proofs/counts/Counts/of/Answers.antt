use Rattle.std.proofs.Common.{ℕ, get_or, unwrap_or, ap, sym, ◌∙◌}
use Rattle.std.proofs.lemmas.Option.{unwrap_or-slice_get}
use Rattle.adr_seats.specs.Table.{Chunks, numbers}
use Rattle.adr_seats.proofs.counts.Counts.of.Goals as goal

pub returns-in-None : goal.returns-in-None
returns-in-None c =
    ap {B = ℕ} (λ o. unwrap_or o 0) (sym c.in-None.is ∙ c.get.ensures.value) ∙ unwrap_or-slice_get (numbers c.self.inside.members) c.args.slot 0
    ∙ ap (λ (t : Chunks). get_or (numbers t) c.args.slot 0) c.self.view_is
