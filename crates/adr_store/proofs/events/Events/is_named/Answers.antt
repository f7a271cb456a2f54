use Rattle.std.proofs.Common.{◌∙◌, ap, nat_lt}
use Rattle.std.specs.Str.{bytes_eq}
use Rattle.adr_store.specs.Numbers.{naming}
use Rattle.adr_store.proofs.Counted.{any_counted}
use Rattle.adr_store.proofs.events.Events.is_named.Goals as goal

pub returns : goal.returns
returns c =
    ap (nat_lt 0) (c.count.ensures ∙ c.self.invariant.naming c.args.id.now ∙ ap (λ xs. naming xs c.args.id.now) c.self.view_is)
    ∙ any_counted (λ w. bytes_eq c.args.id.now w.event.program_id) c.args.self.now
