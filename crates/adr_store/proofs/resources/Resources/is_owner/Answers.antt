use Rattle.std.proofs.Common.{◌∙◌, ap, nat_lt}
use Rattle.std.specs.Str.{bytes_eq}
use Rattle.adr_store.specs.Numbers.{owned}
use Rattle.adr_store.proofs.Counted.{any_counted}
use Rattle.adr_store.proofs.resources.Resources.is_owner.Goals as goal

pub returns : goal.returns
returns c =
    ap (nat_lt 0)
    (c.count.ensures ∙ c.self.invariant.owned c.args.id.now
    ∙ ap (λ xs. owned xs c.args.id.now) c.self.view_is)
    ∙ any_counted (λ r. bytes_eq c.args.id.now r.ven_id) c.args.self.now
