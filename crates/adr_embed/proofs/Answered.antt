-- What an editor answers, and what its commands leave.
use Rattle.std.proofs.Common.{◌≡◌, ℕ, ◌+◌, nat_lt, Bool, true, false, List, Result, Ok, Err, cond, refl, ◌∙◌, inl, inr}
use Rattle.adr_value.specs.declared.limits.TheConstants.{MOST_PUBLICATIONS}
use Rattle.adr_refusal.specs.Answer.{result_map}
use Rattle.adr_refusal.specs.declared.refusal.Refusal.{Refusal}
use Rattle.adr_refusal.specs.declared.refusal.Refusal.TheVariants.{Full}
use Rattle.adr_model.specs.Book.{Book}
use Rattle.adr_model.specs.Edits.{full_at, step_to}
use Rattle.adr_model.specs.Kept.{Kept}
use Rattle.adr_resolver.specs.declared.command.Command.{Command}
use Rattle.adr_resolver.specs.declared.command.Command.TheVariants.{Edit, Publish, Condense, At, List as Listed, Roll, Types}
use Rattle.adr_resolver.specs.Kept.{LinesKeepStep, edit_reply, edit_next, kept_command_reply, kept_reply}
use Rattle.adr_resolver.specs.Line.{line_named}
use Rattle.adr_resolver.specs.Text.{answer_line, ok_line, published_line, refusal_line, reply_or}
use Rattle.adr_embed.specs.Answered.{command_answer, line_answer}
use Rattle.adr_refusal.specs.Answer.{result_and_then}
use Rattle.adr_embed.specs.Laws.{GoesOn, LinesAreReplied, PublicationsGoOn}

edit_replies : (book : Result Book Refusal) → answer_line (result_map (λ (b : Book). ok_line b.version) book) ≡ edit_reply book
edit_replies (Ok b) = refl
edit_replies (Err f) = refl

publish_replies : (is_room : Bool) (reply : List ℕ) → answer_line (cond is_room (Ok reply) (Err Full)) ≡ cond is_room reply (refusal_line Full)
publish_replies true reply = refl
publish_replies false reply = refl

command_replies : (k : Kept) (command : Command) → answer_line (command_answer k command) ≡ kept_command_reply k command
command_replies k (Edit x) = edit_replies (step_to (full_at k.base) k.current x)
command_replies k Publish = publish_replies (nat_lt k.number MOST_PUBLICATIONS) (published_line (k.number + 1) k.current.version)
command_replies k Condense = refl
command_replies k (At id kind t) = refl
command_replies k (Listed id kind from to) = refl
command_replies k (Roll kind t) = refl
command_replies k (Types id) = refl

line_replies : (k : Kept) (command : Result Command Refusal) → answer_line (result_and_then (command_answer k) command) ≡ reply_or (kept_command_reply k) command
line_replies k (Ok command) = command_replies k command
line_replies k (Err f) = refl

answers_are_replies : (k : Kept) (line : List ℕ) → answer_line (line_answer k line) ≡ kept_reply k line
answers_are_replies k line = line_replies k (line_named line)

pub lines_are_replied : LinesKeepStep → LinesAreReplied
lines_are_replied steps k s line h =
    let (reply, next) = steps k s line h in
    (answers_are_replies k line ∙ reply, next)

edit_goes_on : (k : Kept) (book : Result Book Refusal) → GoesOn k (edit_next k book)
edit_goes_on k (Ok b) = inl (refl, refl)
edit_goes_on k (Err f) = inl (refl, refl)

publish_goes_on : (k : Kept) (is_room : Bool) → GoesOn k (cond is_room (record k { published = k.current; number = k.number + 1 }) k)
publish_goes_on k true = inr (refl, refl)
publish_goes_on k false = inl (refl, refl)

pub publications_go_on : PublicationsGoOn
publications_go_on k (Edit x) = edit_goes_on k (step_to (full_at k.base) k.current x)
publications_go_on k Publish = publish_goes_on k (nat_lt k.number MOST_PUBLICATIONS)
publications_go_on k Condense = inl (refl, refl)
publications_go_on k (At id kind t) = inl (refl, refl)
publications_go_on k (Listed id kind from to) = inl (refl, refl)
publications_go_on k (Roll kind t) = inl (refl, refl)
publications_go_on k (Types id) = inl (refl, refl)
