use Rattle.std.proofs.Common.{rules, of_calls}
use Rattle.std.proofs.lemmas.Fn.{filter_same}
use Rattle.adr_keys.specs.Rows.{is_key_of}
use Rattle.adr_audience.proofs.asked.Asked.of.Goals as goal

pub returns : goal.returns
returns c = filter_same _ (is_key_of c.args.index.now) _ (λ x b f h. search (rules, of_calls)) c.args.keys.items c.retain.new.self.items c.retain.ensures.filtered
