use Rattle.std.proofs.Common.{lit<}
use Rattle.std.proofs.lemmas.Str.Pattern.{strip_prefix_char}
use Rattle.adr_read.proofs.TextLemmas.{after_nul-stripped}
use Rattle.adr_read.proofs.text.after_nul.Goals as goal

pub returns : goal.returns
returns c = after_nul-stripped c.args.text.now c.strip_prefix.result (strip_prefix_char 0 c.args.text.now c.strip_prefix.result c.strip_prefix.ensures.cases (lit< tt))
