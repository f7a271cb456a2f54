use Rattle.std.proofs.Common.{rules, ◌≡◌, ◌∙◌, ap, sym, false}
use Rattle.adr_time.specs.Spans.{lasts}
use Rattle.adr_index.specs.Query.{wanted_of}
use Rattle.adr_index.proofs.Asked.{meeting_empty}
use Rattle.adr_index.proofs.index.Index.overlapping_of.Goals as goal

pub returns-then-not-lasts-clause-found : goal.returns-then-not-lasts-clause-found
returns-then-not-lasts-clause-found g c =
    let empty : lasts c.args.window ≡ false = search rules in
    c.new.ensures.items ∙ ap (wanted_of (g.W.Wanted.is_wanted c.args.wanted.now)) (sym (meeting_empty c.args.self.now.entries c.args.window empty))
