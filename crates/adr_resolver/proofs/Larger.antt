-- Larger limits tell the same.
use Rattle.std.proofs.Common.{◌≡◌, ℕ, ℤ, ◌≤◌, Bool, true, false, ◌||◌, List, [], ◌∷◌, ◌++◌, length, refl, sym, ap, ap₂, ◌∙◌, arith, cond, nat_lt, nat_le, lit≤, inl, inr, ◌⊎◌}
use Rattle.std.specs.Prelude.{Option, Some, None, Result, Ok, Err}
use Rattle.std.specs.Io.BufRead.{strip_last}
use Rattle.std.specs.Option.{option_map_or}
use Rattle.std.specs.Result.{result_err}
use Rattle.std.proofs.lemmas.Bool.{false≢true}
use Rattle.adr_value.specs.Limits.{Limits, AreWithin}
use Rattle.adr_refusal.specs.declared.refusal.Refusal.{Refusal}
use Rattle.adr_refusal.specs.declared.refusal.Refusal.TheVariants.{Exists, Full, LongLine, NotThere, TooMany}
use Rattle.adr_object.specs.declared.object.Edit.{Edit as Change}
use Rattle.adr_object.specs.declared.object.Edit.TheVariants.{Create, Change as Changed, Remove}
use Rattle.adr_object.specs.declared.object.Kind.{Kind}
use Rattle.adr_object.specs.declared.object.Kind.TheVariants.{Program as program_kind, Event as event_kind, Ven as ven_kind, Resource as resource_kind}
use Rattle.adr_object.specs.declared.object.Object.{Object}
use Rattle.adr_object.specs.declared.object.Object.TheVariants.{Program as program, Event as event, Ven as ven, Resource as resource}
use Rattle.adr_object.specs.Object.{kind_of, id_of}
use Rattle.adr_model.specs.Book.{Book}
use Rattle.adr_model.specs.Edits.{count_of, fault_if, full_at, has_id, has_too_many_entries_by, is_full_for_by, layout_faults, made, most_objects_by, reference_faults, step_by}
use Rattle.adr_model.specs.Machine.{State, after_edit}
use Rattle.std.specs.Prelude.{not, codes}
use Rattle.adr_read.specs.Body.{event_named_by}
use Rattle.adr_read.proofs.Larger.{larger_limits_read_the_same}
use Rattle.adr_refusal.specs.Agreeing.{Agrees, IsNot}
use Rattle.adr_refusal.proofs.Agreeing.{agrees_map, agrees_then, judged_last}
use Rattle.std.specs.Str.{bytes_eq}
use Rattle.adr_script.specs.Lines.{all_lines}
use Rattle.adr_script.specs.Script.{long_line}
use Rattle.adr_script.specs.Text.{after_line, line_reply, text}
use Rattle.adr_resolver.specs.declared.command.Command.{Command}
use Rattle.adr_resolver.specs.declared.command.Command.TheVariants.{Edit, Publish, Condense, At, List as Listed, Roll, Types}
use Rattle.adr_resolver.specs.Fields.{WriteLine, delete_line, write_line}
use Rattle.adr_resolver.specs.Larger.{LargerLimitsTellTheSame, LimitsGrew, MeetsNoLimit, NoneMeetsALimit, line_refusal_by, named_refusal_by}
use Rattle.adr_object.specs.Id.{id_named}
use Rattle.adr_resolver.specs.Line.{delete_command, line_named_by, moment_word, object_of_by, query_named, write_command_by, writes_by}
use Rattle.adr_resolver.specs.Text.{command_next_by, command_reply_by, next_or, reply_line, reply_or, script_next_by, script_reply_by, script_start}

-- ---- edits

fewer : (a b n : ℕ) → a ≤ b → nat_le b n ≡ true → nat_le a n ≡ true
fewer a b n h e = grind arith

less : (a b n : ℕ) → a ≤ b → nat_lt b n ≡ true → nat_lt a n ≡ true
less a b n h e = grind arith

or_either : (x y z w : Bool) → (y ≡ true → x ≡ true) → (w ≡ true → z ≡ true) → (y || w) ≡ true → (x || z) ≡ true
or_either true y z w h k e = refl
or_either false true z w h k e = absurd (false≢true (h refl))
or_either false false z w h k e = k e

module _ (a b : Limits) (within : AreWithin a b) where
  objects_within : (kind : Kind) → most_objects_by a kind ≤ most_objects_by b kind
  objects_within program_kind = within.programs
  objects_within event_kind = within.events
  objects_within ven_kind = within.vens
  objects_within resource_kind = within.resources

  entries_within : (book : Book) (o : Object) → has_too_many_entries_by b book o ≡ true → has_too_many_entries_by a book o ≡ true
  entries_within book (event e) h = less a.entries b.entries _ within.entries h
  entries_within book (program p) h = absurd (false≢true h)
  entries_within book (ven v) h = absurd (false≢true h)
  entries_within book (resource r) h = absurd (false≢true h)

  full_within : (book : Book) (x : Change) → is_full_for_by b book x ≡ true → is_full_for_by a book x ≡ true
  full_within book (Create o) h =
      or_either _ _ _ _ (fewer (most_objects_by a (kind_of o)) (most_objects_by b (kind_of o)) (count_of book (kind_of o)) (objects_within (kind_of o))) (entries_within book o) h
  full_within book (Changed o) h = entries_within book o h
  full_within book (Remove kind id) h = absurd (false≢true h)

  -- the fault of a full book, under both
  by_room : (x y z : Bool) → (y ≡ true → x ≡ true) → (fault_if (z || x) Full ≡ fault_if (z || y) Full) ⊎ ((fault_if (z || x) Full ≡ Full ∷ []) × (fault_if (z || y) Full ≡ []))
  by_room x y true h = inl refl
  by_room true true false h = inl refl
  by_room true false false h = inr (refl, refl)
  by_room false true false h = absurd (false≢true (h refl))
  by_room false false false h = inl refl

  step_within : (full : ℕ) (book : Book) (x : Change) → Agrees Full (step_by a full book x) (step_by b full book x)
  unfolding step_by
  step_within full book (Create o) n =
      let front = layout_faults o ++ fault_if (has_id book (kind_of o) (id_of o)) Exists ++ reference_faults book o in
      judged_last Full front _ _ (made book (Create o)) (by_room (is_full_for_by a book (Create o)) (is_full_for_by b book (Create o)) (nat_le full book.version) (full_within book (Create o))) n
  step_within full book (Changed o) n =
      let front = layout_faults o ++ fault_if (not (has_id book (kind_of o) (id_of o))) NotThere ++ reference_faults book o in
      judged_last Full front _ _ (made book (Changed o)) (by_room (is_full_for_by a book (Changed o)) (is_full_for_by b book (Changed o)) (nat_le full book.version) (full_within book (Changed o))) n
  step_within full book (Remove kind id) n = refl

  -- ---- bodies and lines

  object_within : (kind : Kind) (now : ℤ) (id body : List ℕ) → Agrees TooMany (object_of_by a kind now id body) (object_of_by b kind now id body)
  object_within program_kind now id body n = refl
  object_within event_kind now id body n = agrees_map TooMany event (event_named_by a now body id) (event_named_by b now body id) (larger_limits_read_the_same a b within now body id) n
  object_within ven_kind now id body n = refl
  object_within resource_kind now id body n = refl

  write_within : (line : WriteLine) → Agrees TooMany (write_command_by a line) (write_command_by b line)
  unfolding write_command_by
  write_within line n =
      agrees_then TooMany _ _ (moment_word line.moment)
      (λ now. agrees_then TooMany (writes_by a line now) (writes_by b line now) (id_named line.id)
      (λ id. agrees_map TooMany _ (object_of_by a line.kind now id line.body) (object_of_by b line.kind now id line.body) (object_within line.kind now id line.body)))
      n

  line_within : (line : List ℕ) → Agrees TooMany (line_named_by a line) (line_named_by b line)
  unfolding line_named_by
  line_within line = by (nat_lt 4194304 (length line)) (bytes_eq line (codes "publish")) (bytes_eq line (codes "condense")) (write_line line)
    where
      others : Result Command Refusal
      others = option_map_or delete_command (delete_line line) (query_named line)

      by : (long first second : Bool) (o : Option WriteLine) → Agrees {T = Command} TooMany
          (cond long (Err LongLine) (cond first (Ok Publish) (cond second (Ok Condense) (option_map_or (write_command_by a) o others))))
          (cond long (Err LongLine) (cond first (Ok Publish) (cond second (Ok Condense) (option_map_or (write_command_by b) o others))))
      by true first second o n = refl
      by false true second o n = refl
      by false false true o n = refl
      by false false false None n = refl
      by false false false (Some l) n = write_within l n

  -- ---- texts

  not_full : (r : Result Book Refusal) → MeetsNoLimit (result_err r) → IsNot Full r
  not_full (Ok book) h = tt
  not_full (Err f) h = h.1

  command_same : (s : State) (command : Command) → MeetsNoLimit (named_refusal_by a s (Ok command))
      → (command_reply_by a s command ≡ command_reply_by b s command) × (command_next_by a s command ≡ command_next_by b s command)
  command_same s (Edit x) h =
      let same = sym (step_within (full_at s.base) s.current x (not_full (step_by a (full_at s.base) s.current x) h)) in
      (ap (λ (r : Result Book Refusal). reply_line (after_edit s x r).0) same, ap (λ (r : Result Book Refusal). (after_edit s x r).1) same)
  command_same s Publish h = (refl, refl)
  command_same s Condense h = (refl, refl)
  command_same s (At id payload_type moment) h = (refl, refl)
  command_same s (Listed id payload_type from to) h = (refl, refl)
  command_same s (Roll payload_type moment) h = (refl, refl)
  command_same s (Types id) h = (refl, refl)

  named_same : (s : State) (x y : Result Command Refusal) → Agrees TooMany x y → MeetsNoLimit (named_refusal_by a s x)
      → (reply_or (command_reply_by a s) x ≡ reply_or (command_reply_by b s) y) × (next_or s (command_next_by a s) x ≡ next_or s (command_next_by b s) y)
  named_same s (Ok command) y same h =
      let one = command_same s command h in
      let two : y ≡ Ok command = same tt in
      (one.0 ∙ ap (reply_or (command_reply_by b s)) (sym two), one.1 ∙ ap (next_or s (command_next_by b s)) (sym two))
  named_same s (Err f) y same h =
      let two : y ≡ Err f = same h.0 in
      (ap (reply_or (command_reply_by b s)) (sym two), ap (next_or s (command_next_by b s)) (sym two))

  line_same : (s : State) (line : List ℕ) → MeetsNoLimit (line_refusal_by a s line)
      → (line_reply (script_reply_by a) s line ≡ line_reply (script_reply_by b) s line)
      × (after_line (script_next_by a) s line ≡ after_line (script_next_by b) s line)
  line_same s line = by (nat_lt 4194304 (length line))
    where
      by : (c : Bool) → MeetsNoLimit (cond c (Some LongLine) (named_refusal_by a s (line_named_by a (strip_last 13 line))))
          → (cond c long_line (script_reply_by a s (strip_last 13 line)) ≡ cond c long_line (script_reply_by b s (strip_last 13 line)))
          × (cond c s (script_next_by a s (strip_last 13 line)) ≡ cond c s (script_next_by b s (strip_last 13 line)))
      by true h = (refl, refl)
      by false h = named_same s (line_named_by a (strip_last 13 line)) (line_named_by b (strip_last 13 line)) (line_within (strip_last 13 line)) h

  texts_same : (s : State) (lines : List (List ℕ)) → NoneMeetsALimit a s lines
      → text (script_reply_by a) (script_next_by a) s lines ≡ text (script_reply_by b) (script_next_by b) s lines
  texts_same s [] h = refl
  texts_same s (line ∷ lines) h =
      let one = line_same s line h.0 in
      ap₂ (λ (l m : List ℕ). l ++ m) one.0
      (texts_same (after_line (script_next_by a) s line) lines h.1 ∙ ap (λ z. text (script_reply_by b) (script_next_by b) z lines) one.1)

pub larger_limits_tell_the_same : LargerLimitsTellTheSame
larger_limits_tell_the_same a b within tie bytes h = texts_same a b within (script_start tie) (all_lines bytes) h

pub limits_grew : LimitsGrew
limits_grew = record { programs = lit≤ tt; vens = lit≤ tt; resources = lit≤ tt; events = lit≤ tt; entries = lit≤ tt; intervals = lit≤ tt }
