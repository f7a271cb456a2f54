use Rattle.std.proofs.Common.{◌∙◌, ◌==◌, None, ap, cond}
use Rattle.adr_store.specs.Numbers.{kept_for}
use Rattle.adr_store.proofs.Times.{write_gone}
use Rattle.adr_store.proofs.numbers.Numbers.without.Goals as goal

pub returns-clause-writes : goal.returns-clause-writes
returns-clause-writes c = λ n.
    let before = c.args.self.now.writes in
    ap (λ m. kept_for m n) c.in_ok-without-2.ensures ∙ write_gone before c.written.result n ∙ ap (λ w. cond (w == n) None (kept_for before n)) c.written.ensures
