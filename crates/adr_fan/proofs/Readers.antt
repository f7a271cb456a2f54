-- What a reader is told of a publication.
use Rattle.std.proofs.Common.{◌≡◌, ◌∙◌, ℕ, ◌+◌, ◌-◌, ◌≤◌, List, length, length-take, take, get_or, get_or-take, Option, Some, ap, sym, subst, arith}
use Rattle.adr_object.specs.declared.object.Edit.{Edit as Change}
use Rattle.adr_model.specs.declared.entry.Tie.{Tie}
use Rattle.adr_model.specs.Book.{Book}
use Rattle.adr_model.specs.Edits.{after}
use Rattle.adr_model.specs.Machine.{Publication, State, book_of, last_book, last_number, opening}
use Rattle.adr_model.specs.Queries.{Query, answer, at_query, list_query, roll_query, types_query}
use Rattle.adr_resolver.specs.declared.command.Command.TheVariants.{Edit, Publish, Condense, At, List as Listed, Roll, Types}
use Rattle.adr_resolver.specs.Fan.{FanLeavesTheState, answer_from}
use Rattle.adr_resolver.specs.Laws.{AcceptedEditsLeaveTheState, PublishedStatesTellTheLeastMatching, PublishedTimelinesGiveTheLeastMatching, TellsStates, TellsTimelines}
use Rattle.adr_resolver.specs.Reached.{IsLeftBy, accepted_edits}
use Rattle.adr_resolver.specs.Text.{answer_line, query_reply}
use Rattle.adr_fan.specs.Laws.{ReadersReplyAsScripts, ReadersTellTheLeastMatching, as_shown, editor_after}

-- the publication of the number is the last of those up to it
last_shown : (s : State) (number : ℕ) → number ≤ last_number s → last_book (as_shown s number) ≡ book_of s number
last_shown s number within =
    let shown = take (number + 1) s.published in
    let last : length shown - 1 ≡ number = omega (arith, length-take (number + 1) s.published, within) in
    ap (λ (n : ℕ). (get_or shown n opening).book) last ∙ ap (λ (p : Publication). p.book) (get_or-take (number + 1) s.published number opening (omega arith))

-- ---- replies

asked : (s : State) (number : ℕ) (o : Option Query) (query : Query) → number ≤ last_number s → o ≡ Some query → answer_from s number query ≡ query_reply (as_shown s number) o
asked s number o query within is =
    ap (λ (b : Book). answer_line (answer s.tie b query)) (sym (last_shown s number within)) ∙ ap (λ (a : Option Query). query_reply (as_shown s number) a) (sym is)

pub readers_reply_as_scripts : ReadersReplyAsScripts
readers_reply_as_scripts s number (Edit x) query within is = absurd (cc (is))
readers_reply_as_scripts s number Publish query within is = absurd (cc (is))
readers_reply_as_scripts s number Condense query within is = absurd (cc (is))
readers_reply_as_scripts s number (At id payload_type moment) query within is = asked s number (Some (at_query id payload_type moment)) query within is
readers_reply_as_scripts s number (Listed id payload_type from to) query within is = asked s number (Some (list_query id payload_type from to)) query within is
readers_reply_as_scripts s number (Roll payload_type moment) query within is = asked s number (Some (roll_query payload_type moment)) query within is
readers_reply_as_scripts s number (Types id) query within is = asked s number (Some (types_query id)) query within is

-- ---- what they tell

-- from what a script's state tells of its last publication, and what the accepted edits leave
pub readers_tell_the_least_matching : FanLeavesTheState → AcceptedEditsLeaveTheState → PublishedTimelinesGiveTheLeastMatching → PublishedStatesTellTheLeastMatching → ReadersTellTheLeastMatching
readers_tell_the_least_matching same leaves timelines states tie marks lines number within = (
  subst (λ (b : Book). TellsTimelines shown tie b) objects (subst (λ (t : Tie). TellsTimelines shown t (last_book shown)) rule (timelines shown)),
  subst (λ (b : Book). TellsStates shown tie b) objects (subst (λ (t : Tie). TellsStates shown t (last_book shown)) rule (states shown)),
)
  where
    end : State
    end = editor_after tie marks lines

    shown : State
    shown = as_shown end number

    edits : List Change
    edits = accepted_edits tie marks lines

    rule : end.tie ≡ tie
    rule = ap (λ (s : State). s.tie) (same tie marks lines) ∙ (leaves tie marks lines).0

    left : IsLeftBy edits end
    left = subst (λ (s : State). IsLeftBy edits s) (sym (same tie marks lines)) (leaves tie marks lines).1

    objects : last_book shown ≡ after (take (book_of end number).version edits)
    objects = last_shown end number within ∙ left.published number within
