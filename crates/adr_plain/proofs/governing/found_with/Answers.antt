use Rattle.std.proofs.Common.{◌∙◌, sym, ap, Some, Bool, cond}
use Rattle.adr_model.specs.declared.entry.Entry.{Entry}
use Rattle.adr_plain.specs.Scan.{first_with}
use Rattle.adr_plain.proofs.governing.found_with.Goals as goal

pub returns-then-covers : goal.returns-then-covers
returns-then-covers c =
    ap (λ (e : Entry). Some e) c.better_of.ensures
    ∙ ap (λ (b : Bool). cond b (Some (first_with c.args.entry c.args.found)) c.args.found) (sym (sym c.covers.ensures.test ∙ c.if-covers.true))
