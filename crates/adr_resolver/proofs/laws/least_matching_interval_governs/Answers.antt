use Rattle.std.proofs.Common.{◌≡◌, refl, ap}
use Rattle.std.specs.Prelude.{Result, Some}
use Rattle.adr_refusal.specs.declared.refusal.Refusal.{Refusal}
use Rattle.adr_model.specs.Book.{Book}
use Rattle.adr_model.specs.Machine.{State, after_edit, last_book}
use Rattle.adr_model.specs.Queries.{Query}
use Rattle.adr_repair.proofs.Least.{governor_is_least}
use Rattle.adr_resolver.specs.declared.command.Command.{Command}
use Rattle.adr_resolver.specs.declared.command.Command.TheVariants.{Edit, Publish, Condense, At, List as Listed, Roll, Types}
use Rattle.adr_resolver.specs.Text.{query_of, reply_line, command_reply, command_next, reply_or, next_or}
use Rattle.adr_resolver.proofs.Headline.{lines_tell_the_least_matching}
use Rattle.adr_resolver.proofs.laws.least_matching_interval_governs.Goals as goal

pub returns-clause-lines : goal.returns-clause-lines
returns-clause-lines c = lines_tell_the_least_matching

pub returns-clause-governs : goal.returns-clause-governs
returns-clause-governs c = λ s id payload_type t. governor_is_least s.tie (last_book s) id payload_type t

pub returns-clause-refused_lines : goal.returns-clause-refused_lines
returns-clause-refused_lines c = λ s line f e. (ap (reply_or (command_reply s)) e, ap (next_or s (command_next s)) e)

pub returns-clause-refused_edits : goal.returns-clause-refused_edits
returns-clause-refused_edits c = λ s x f e. (
  ap (λ (r : Result Book Refusal). reply_line (after_edit s x r).0) e,
  ap (λ (r : Result Book Refusal). (after_edit s x r).1) e,
)

pub returns-clause-accepted_edits : goal.returns-clause-accepted_edits
returns-clause-accepted_edits c = λ s x book e. (
  ap (λ (r : Result Book Refusal). reply_line (after_edit s x r).0) e,
  ap (λ (r : Result Book Refusal). (after_edit s x r).1) e,
)

pub returns-clause-queries : goal.returns-clause-queries
returns-clause-queries c = λ s command query e. by s command query e
  where
    by : (s : State) (command : Command) (query : Query) → query_of command ≡ Some query → command_next s command ≡ s
    by s (Edit x) query e = absurd (cc)
    by s Publish query e = absurd (cc)
    by s Condense query e = absurd (cc)
    by s (At id payload_type moment) query e = refl
    by s (Listed id payload_type from to) query e = refl
    by s (Roll payload_type moment) query e = refl
    by s (Types id) query e = refl
