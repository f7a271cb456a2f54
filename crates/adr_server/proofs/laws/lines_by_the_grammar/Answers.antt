use Rattle.std.proofs.Common.{refl, lit<}
use Rattle.clap.proofs.OnLiterals.{clap_on_literals}
use Rattle.adr_server.proofs.laws.lines_by_the_grammar.Goals as goal

pub returns : goal.returns
unfolding clap_on_literals
returns c = record {
  plain = λ p. (refl, refl, refl);
  most = λ p. (refl, refl);
  joined = λ p. (refl, refl);
  no_tie = λ p. refl;
  newest = λ p. (refl, refl);
  latest_start = λ p. (refl, refl, refl);
  no_word = λ p. lit< tt;
  fan = λ p. (refl, refl, refl);
  readers = λ p. (refl, refl, refl);
  unknown = λ p. lit< tt;
  workers_of_fan = λ p. lit< tt;
  no_reader = λ p. lit< tt;
  no_worker = λ p. lit< tt;
  too_many = λ p. lit< tt;
  no_rule = λ p. lit< tt;
}
