-- What the plain machine keeps is what the state has, line after line.
use Rattle.std.proofs.Common.{◌≡◌, ℕ, ◌+◌, ◌-◌, Bool, true, false, List, [], ◌∷◌, ◌++◌, length, refl, sym, ap, ap₂, ◌∙◌, arith, nat_lt, subst}
use Rattle.std.specs.Prelude.{Option, Some, None, Result, Ok, Err}
use Rattle.std.proofs.lemmas.List.{length_push, get_or_push}
use Rattle.adr_value.specs.declared.limits.TheConstants.{MOST_PUBLICATIONS}
use Rattle.adr_refusal.specs.declared.refusal.Refusal.{Refusal}
use Rattle.adr_object.specs.declared.object.Edit.{Edit as Change}
use Rattle.adr_model.specs.declared.entry.Tie.{Tie}
use Rattle.adr_model.specs.Book.{Book}
use Rattle.adr_model.specs.Edits.{full_at, step_to}
use Rattle.adr_model.specs.Machine.{Publication, State, after_edit, after_publish, last_book, last_number, opening}
use Rattle.adr_model.specs.Queries.{Query, answer}
use Rattle.adr_model.specs.Kept.{Kept, kept_start}
use Rattle.adr_script.specs.Script.{Told, IsToldInPart}
use Rattle.adr_script.specs.Text.{AnswersBy, IsText, IsTextInPart}
use Rattle.adr_script.proofs.TextLemmas.{told_is_text, alike_IsText}
use Rattle.adr_resolver.specs.declared.command.Command.{Command}
use Rattle.adr_resolver.specs.declared.command.Command.TheVariants.{Edit, Publish, Condense, At, List as Listed, Roll, Types}
use Rattle.adr_resolver.specs.Kept.{CommandsKeepStep, IsKept, KeptBeginsInStep, LinesKeepStep, asked_reply, edit_reply, edit_next, publish_reply, publish_next, kept_command_reply, kept_command_next, kept_reply, kept_next}
use Rattle.adr_resolver.specs.Line.{line_named}
use Rattle.adr_resolver.specs.Text.{published_line, condensed_line, reply_line, answer_line, command_reply, command_next, query_of, query_reply, reply_or, next_or, script_reply, script_next, script_start}

pub kept_begins : KeptBeginsInStep
kept_begins tie = record { tie = refl; base = refl; current = refl; published = refl; number = refl }

-- ---- edits

edited : (k : Kept) (s : State) (x : Change) (r : Result Book Refusal) → IsKept k s
    → (edit_reply r ≡ reply_line (after_edit s x r).0) × IsKept (edit_next k r) (after_edit s x r).1
edited k s x (Err f) h = (refl, h)
edited k s x (Ok book) h = (refl, record { tie = h.tie; base = h.base; current = refl; published = h.published; number = h.number })

-- ---- publications

published_next : (b : Bool) (k : Kept) (s : State) → nat_lt k.number MOST_PUBLICATIONS ≡ b → IsKept k s
    → (publish_reply k ≡ reply_line (after_publish s).0) × IsKept (publish_next k) (after_publish s).1
published_next true k s e h =
    let same : last_number s ≡ k.number = omega (arith, h.number) in
    let there : nat_lt (last_number s) MOST_PUBLICATIONS ≡ true = ap (λ (n : ℕ). nat_lt n MOST_PUBLICATIONS) same ∙ e in
    let one : Publication = record { book = s.current; batch = s.pending } in
    rw e (rw there (
      ap₂ published_line h.number (ap (λ (b : Book). b.version) h.current),
      record {
        tie = h.tie;
        base = h.base;
        current = h.current;
        published = h.current ∙ ap (λ p. p.book) (sym (get_or_push s.published one opening (length (s.published ++ one ∷ []) - 1) (omega (arith, length_push s.published one))));
        number = ap (λ (n : ℕ). n + 1) h.number ∙ sym (length_push s.published one);
      },
    ))
published_next false k s e h =
    let same : last_number s ≡ k.number = omega (arith, h.number) in
    let there : nat_lt (last_number s) MOST_PUBLICATIONS ≡ false = ap (λ (n : ℕ). nat_lt n MOST_PUBLICATIONS) same ∙ e in
    rw e (rw there (refl, h))

-- ---- lines

asked : (k : Kept) (s : State) (query : Option Query) → IsKept k s → asked_reply k query ≡ query_reply s query
asked k s None h = refl
asked k s (Some query) h = ap₂ (λ tie (b : Book). answer_line (answer tie b query)) h.tie h.published

by_command : (k : Kept) (s : State) (r : Result Command Refusal) → IsKept k s
    → (reply_or (kept_command_reply k) r ≡ reply_or (command_reply s) r) × IsKept (next_or k (kept_command_next k) r) (next_or s (command_next s) r)
by_command k s (Err f) h = (refl, h)
by_command k s (Ok (Edit x)) h =
    subst
    (λ (r : Result Book Refusal). (edit_reply r ≡ reply_line (after_edit s x (step_to (full_at s.base) s.current x)).0) × IsKept (edit_next k r) (after_edit s x (step_to (full_at s.base) s.current x)).1)
    (ap₂ (λ base (b : Book). step_to (full_at base) b x) (sym h.base) (sym h.current))
    (edited k s x (step_to (full_at s.base) s.current x) h)
by_command k s (Ok Publish) h = published_next _ k s refl h
by_command k s (Ok Condense) h =
    let version : k.published.version ≡ (last_book s).version = ap (λ (b : Book). b.version) h.published in
    (ap condensed_line version, record { tie = h.tie; base = version; current = h.current; published = h.published; number = h.number })
by_command k s (Ok (At id payload_type moment)) h = (asked k s (query_of (At id payload_type moment)) h, h)
by_command k s (Ok (Listed id payload_type from to)) h = (asked k s (query_of (Listed id payload_type from to)) h, h)
by_command k s (Ok (Roll payload_type moment)) h = (asked k s (query_of (Roll payload_type moment)) h, h)
by_command k s (Ok (Types id)) h = (asked k s (query_of (Types id)) h, h)

pub commands_keep_step : CommandsKeepStep
commands_keep_step k s command h = by_command k s (Ok command) h

pub lines_keep_step : LinesKeepStep
lines_keep_step k s line h = by_command k s (line_named line) h

-- ---- runs

-- what is told from what is kept on is its text
pub told_text : (k s t : Kept) (lines : List (List ℕ)) (out : List ℕ) → s ≡ k → Told (AnswersBy kept_reply kept_next) s lines out t → IsText kept_reply kept_next k lines out
told_text = told_is_text (AnswersBy kept_reply kept_next) kept_reply kept_next (λ s line told t h. h)

pub told_text_in_part : (k s t : Kept) (lines : List (List ℕ)) (out : List ℕ) → s ≡ k → IsToldInPart (AnswersBy kept_reply kept_next) s lines out t
    → IsTextInPart kept_reply kept_next k lines out
told_text_in_part k s t lines out is (more, told) = (more, told_text k s t lines (out ++ more) is told)

-- the text of the plain machine from its start on is the text of the script
pub script_text : (tie : Tie) (s : Kept) (lines : List (List ℕ)) (out : List ℕ) → s ≡ kept_start tie → IsText kept_reply kept_next s lines out
    → IsText script_reply script_next (script_start tie) lines out
script_text tie s lines out is =
    alike_IsText kept_reply kept_next script_reply script_next IsKept (λ k s line. lines_keep_step k s line) s (script_start tie) lines out
    (subst (λ k. IsKept k (script_start tie)) (sym is) (kept_begins tie))

pub script_text_in_part : (tie : Tie) (s : Kept) (lines : List (List ℕ)) (out : List ℕ) → s ≡ kept_start tie → IsTextInPart kept_reply kept_next s lines out
    → IsTextInPart script_reply script_next (script_start tie) lines out
script_text_in_part tie s lines out is (more, h) = (more, script_text tie s lines (out ++ more) is h)
