use Rattle.std.proofs.Common.{length, ap, arith}
use Rattle.adr_keys.proofs.Listing.{words-past}
use Rattle.adr_keys.proofs.places.Places.word_count.Goals as goal

pub returns-then-len-count-clause-all : goal.returns-then-len-count-clause-all
returns-then-len-count-clause-all c = λ p h.
    words-past c.args.self.now c.len-then-len-count.result c.args.count p (omega (arith, c.len-then-len-count.ensures, ap length c.self.view_is)) h
