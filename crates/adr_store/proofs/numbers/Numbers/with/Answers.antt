use Rattle.std.proofs.Common.{◌∙◌, ◌==◌, Some, ap, cond}
use Rattle.adr_store.specs.Numbers.{kept_for}
use Rattle.adr_store.proofs.Times.{write_kept}
use Rattle.adr_store.proofs.numbers.Numbers.with.Goals as goal

pub returns-clause-writes : goal.returns-clause-writes
returns-clause-writes c = λ n.
    let before = c.args.self.now.writes in
    ap (λ m. kept_for m n) c.in_ok-put.ensures ∙ write_kept before c.written.result c.in_ok-share.field-0 n
    ∙ ap (λ w. cond (w == n) (Some c.in_ok-share.field-0) (kept_for before n)) c.written.ensures
    ∙ ap (λ e. cond (c.args.event.now.written == n) (Some e) (kept_for before n)) c.in_ok-share.ensures
