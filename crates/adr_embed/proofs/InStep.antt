-- Typed calls and queries of an editor that is in step with a script.
use Rattle.std.proofs.Common.{◌≡◌, ℕ, ◌+◌, ◌<◌, ◌≤◌, nat_lt, Bool, true, false, List, [], Option, Some, None, Result, Ok, Err, refl, sym, ap, ◌∙◌, inl, inr, subst, is_some, arith}
use Rattle.std.proofs.lemmas.Bool.{false≢true}
use Rattle.std.proofs.lemmas.Bool.Decides.{nat_tests}
use Rattle.adr_value.specs.declared.limits.TheConstants.{MOST_PUBLICATIONS}
use Rattle.adr_refusal.specs.Answer.{result_map, result_and_then}
use Rattle.adr_refusal.specs.declared.refusal.Refusal.{Refusal}
use Rattle.adr_object.specs.declared.object.Edit.{Edit as Change}
use Rattle.adr_model.specs.declared.entry.Tie.{Tie}
use Rattle.adr_model.specs.declared.published.Published.{Published}
use Rattle.adr_model.specs.Kept.{Kept}
use Rattle.adr_model.specs.Machine.{State}
use Rattle.adr_model.specs.Queries.{Query, answer}
use Rattle.adr_resolver.specs.declared.command.Command.{Command}
use Rattle.adr_resolver.specs.declared.command.Command.TheVariants.{Edit, Publish, Condense, At, List as Listed, Roll, Types}
use Rattle.adr_resolver.specs.Kept.{CommandsKeepStep, IsKept, KeptBeginsInStep, LinesKeepStep, edit_next, edit_reply, kept_command_next, kept_command_reply}
use Rattle.adr_resolver.specs.Line.{line_named}
use Rattle.adr_resolver.specs.Text.{answer_line, command_next, command_reply, condensed_line, ok_line, published_line, query_of, reply_or}
use Rattle.adr_embed.specs.Answered.{query_answer}
use Rattle.adr_embed.specs.Laws.{CondensesAreCommands, DoesCommand, EditorsBeginInStep, EditsAreCommands, PublicationsAreCommands, QueriesAreReplied}

pub editors_begin : KeptBeginsInStep → EditorsBeginInStep
editors_begin begins tie = begins tie

-- a call that answers and leaves what the command of the plain machine does is the script's
is_command : CommandsKeepStep → (old new : Kept) (s : State) (command : Command) (answer : Result (List ℕ) Refusal) → IsKept old s
    → answer_line answer ≡ kept_command_reply old command → kept_command_next old command ≡ new
    → DoesCommand old new s command answer
is_command steps old new s command answer h reply next =
    let (same, kept) = steps old s command h in
    inr (reply ∙ same, subst (λ k. IsKept k (command_next s command)) next kept)

pub edits_are_commands : CommandsKeepStep → EditsAreCommands
edits_are_commands steps old new s x (Ok version) h (after, kept, told) =
    is_command steps old new s (Edit x) (Ok (ok_line version)) h
    (ap ok_line told ∙ sym (ap edit_reply after)) (ap (edit_next old) after ∙ sym kept)
edits_are_commands steps old new s x (Err f) h (inl wanting, kept) = inl (ap Err wanting, kept)
edits_are_commands steps old new s x (Err f) h (inr refused, kept) =
    is_command steps old new s (Edit x) (Err f) h (sym (ap edit_reply refused)) (ap (edit_next old) refused ∙ sym kept)

pub publications_are_commands : CommandsKeepStep → PublicationsAreCommands
publications_are_commands steps old new s (Ok p) h (room, kept, number, version) =
    let is_room : nat_lt old.number MOST_PUBLICATIONS ≡ true = grind (arith, nat_tests) in
    is_command steps old new s Publish (Ok (published_line p.number p.version)) h
    (rw is_room (rw (number, version) refl)) (rw is_room (sym kept))
publications_are_commands steps old new s (Err f) h (inl wanting, kept) = inl (ap Err wanting, kept)
publications_are_commands steps old new s (Err f) h (inr (full, most), kept) =
    let is_full : nat_lt old.number MOST_PUBLICATIONS ≡ false = grind (arith, nat_tests) in
    is_command steps old new s Publish (Err f) h (rw is_full (rw full refl)) (rw is_full (sym kept))

pub condenses_are_commands : CommandsKeepStep → CondensesAreCommands
condenses_are_commands steps old new s (Ok version) h (kept, told) =
    is_command steps old new s Condense (Ok (condensed_line version)) h (ap condensed_line told) (sym kept)
condenses_are_commands steps old new s (Err f) h (wanting, kept) = inl (ap Err wanting, kept)

-- a command that asks is answered from what was published last
asked_reply_of : (k : Kept) (command : Command) (query : Query) → query_of command ≡ Some query
    → answer_line (query_answer k.tie k.published (query_of command)) ≡ kept_command_reply k command
asked_reply_of k (Edit x) query e = absurd (false≢true (ap is_some e))
asked_reply_of k Publish query e = absurd (false≢true (ap is_some e))
asked_reply_of k Condense query e = absurd (false≢true (ap is_some e))
asked_reply_of k (At id kind t) query e = refl
asked_reply_of k (Listed id kind from to) query e = refl
asked_reply_of k (Roll kind t) query e = refl
asked_reply_of k (Types id) query e = refl

pub queries_are_replied : LinesKeepStep → QueriesAreReplied
queries_are_replied steps k s line command query h named asks =
    let reply : answer_line (query_answer k.tie k.published (query_of command)) ≡ kept_command_reply k command = asked_reply_of k command query asks in
    ap (λ r. answer_line (result_and_then (λ (c : Command). query_answer k.tie k.published (query_of c)) r)) named
    ∙ reply ∙ sym (ap (reply_or (kept_command_reply k)) named) ∙ (steps k s line h).0
