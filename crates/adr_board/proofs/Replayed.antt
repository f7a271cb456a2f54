-- What a run of steps shows is what its accepted edits leave.
use Rattle.std.proofs.Common.{◌≡◌, ◌⊎◌, inl, inr, ℕ, zero, suc, ◌+◌, ◌<◌, ◌≤◌, List, [], ◌∷◌, ◌++◌, length, take, get_or, slice_get, ℤ, Result, Ok, Err, Some, Bool, true, false, cond, nat_lt, refl, sym, ap, subst, ◌∙◌, arith, append_assoc, append-nil, length-append}
use Rattle.std.specs.Prelude.{flat_map}
use Rattle.std.specs.Arc.{arc_value}
use Rattle.std.proofs.Math.Seq.{get_or-append_seam}
use Rattle.std.proofs.lemmas.Grind.{flat_map-append}
use Rattle.adr_value.specs.declared.payload.PayloadType.{PayloadType}
use Rattle.adr_refusal.specs.declared.refusal.Refusal.{Refusal}
use Rattle.adr_refusal.specs.declared.refusal.Refusal.TheVariants.{Full}
use Rattle.adr_value.specs.declared.limits.TheConstants.{MOST_PUBLICATIONS}
use Rattle.adr_object.specs.declared.object.Edit.{Edit as AnyEdit}
use Rattle.adr_model.specs.declared.entry.Tie.{Tie}
use Rattle.adr_model.specs.Book.{Book, empty}
use Rattle.adr_model.specs.Edits.{after, after_from, full_at, step_to}
use Rattle.adr_model.specs.Governor.{governs}
use Rattle.adr_model.specs.Laws.{Runs, all_edits}
use Rattle.adr_model.specs.Machine.{Action, Publication, Reply, State, Steps, after_edit, after_publish, book_of, condense, edit, last_number, look, opening, publish, published, refused, start, tell}
use Rattle.adr_model.proofs.MachineLaws.{publications_are_their_edits, publications_stay, versions_count_edits}
use Rattle.adr_model.specs.declared.published.Published.{Published as Numbered}
use Rattle.adr_board.specs.declared.run_steps.Step.{Step}
use Rattle.adr_board.specs.declared.run_steps.Step.TheVariants.{Edit, Publish, Condense, Tell, Look}
use Rattle.adr_board.specs.declared.run_steps.Shown.{Shown}
use Rattle.adr_board.specs.declared.run_steps.Shown.TheVariants.{Done, Refused, Published, Told, Condensed, Seen}
use Rattle.adr_board.specs.Laws.{AreEditsUpTo, PublicationsHaveAllEdits, SnapshotsTellOfTheirEdits, accepted_edit, accepted_edits}
use Rattle.adr_board.specs.Published.{PublishedBook}
use Rattle.adr_board.specs.Replay.{IsRun, Says, Takes, action_of}

-- ---- one step

-- the book as it stands with its open batch, as a publication
abbrev now_of : State → Publication
now_of s = record { book = s.current; batch = s.pending }

-- what holds of a publication that is made and of one that is refused
by_publish : (P : Reply × State → Type 0) (s : State)
    → P (published (length s.published) s.current.version, record s { published = s.published ++ now_of s ∷ []; pending = [] }) → P (refused Full, s) → P (after_publish s)
by_publish P s made kept = by (nat_lt (last_number s) MOST_PUBLICATIONS)
  where
    by : (b : Bool) → P (cond b (published (length s.published) s.current.version, record s { published = s.published ++ now_of s ∷ []; pending = [] }) (refused Full, s))
    by true = made
    by false = kept

-- the publications stay, or there is one more, of the book as it stands and the open batch
abbrev Publishes : State → Reply → State → Type 0
Publishes s r t =
    ((t.published ≡ s.published) × ((n v : ℕ) → r ≡ published n v → ⊥))
    ⊎ ((r ≡ published (length s.published) s.current.version) × (t.published ≡ s.published ++ now_of s ∷ []))

step_publishes : (s t : State) (a : Action) (r : Reply) → Steps s a (r, t) → Publishes s r t
step_publishes s t (edit x) r h = subst (λ (p : Reply × State). Publishes s p.0 p.1) (sym h) (by (step_to (full_at s.base) s.current x))
  where
    by : (o : Result Book Refusal) → Publishes s (after_edit s x o).0 (after_edit s x o).1
    by (Ok book) = inl (refl, λ n v e. absurd (cc (e)))
    by (Err fault) = inl (refl, λ n v e. absurd (cc (e)))
step_publishes s t publish r h = subst (λ (p : Reply × State). Publishes s p.0 p.1) (sym h) (by_publish (λ p. Publishes s p.0 p.1) s (inr (refl, refl)) (inl (refl, λ n v e. absurd (cc (e)))))
step_publishes s t condense r h = subst (λ (p : Reply × State). Publishes s p.0 p.1) (sym h) (inl (refl, λ n v e. absurd (cc (e))))
step_publishes s t (tell i k) r h = subst (λ (p : Reply × State). Publishes s p.0 p.1) (sym h.2) (inl (refl, λ n v e. absurd (cc (e))))
step_publishes s t (look i) r h =
    let (k, there, low, high, e) = h in
    subst (λ (p : Reply × State). Publishes s p.0 p.1) (sym e) (inl (refl, λ n v e. absurd (cc (e))))

-- a step that shows a publication made it
shows_publication : (s t : State) (step : Step) (p : Numbered) → Takes s step (Published p) t
    → (p.number ≡ length s.published) × (p.version ≡ s.current.version) × (t.published ≡ s.published ++ now_of s ∷ [])
shows_publication s t step p (r, steps, says) = by (step_publishes s t (action_of s step) r steps)
  where
    by : Publishes s r t → (p.number ≡ length s.published) × (p.version ≡ s.current.version) × (t.published ≡ s.published ++ now_of s ∷ [])
    by (inl (same, none)) = absurd (none p.number p.version says)
    by (inr (made, more)) = let is : published p.number p.version ≡ published (length s.published) s.current.version = sym says ∙ made in (cc (is), cc (is), more)

-- and one that makes a publication shows it
says_publication : (s : State) (x : Shown) (r : Reply) (n v : ℕ) → Says s x r → r ≡ published n v → (p : Numbered) × (x ≡ Published p) × (p.number ≡ n)
says_publication s (Done version) r n v says is = absurd (cc (says, is))
says_publication s (Refused refusal) r n v says is = absurd (cc (says, is))
says_publication s (Published p) r n v says is = let same : published p.number p.version ≡ published n v = sym says ∙ is in (p, refl, cc (same))
says_publication s Told r n v says is = absurd (cc (says, is))
says_publication s (Condensed version) r n v says is = absurd (cc (says, is))
says_publication s (Seen snapshot) r n v says is = let one = says.0 in absurd (cc (one, is))

step_tie : (s t : State) (a : Action) (r : Reply) → Steps s a (r, t) → t.tie ≡ s.tie
step_tie s t (edit x) r h = ap (λ (p : Reply × State). p.1.tie) h ∙ by (step_to (full_at s.base) s.current x)
  where
    by : (o : Result Book Refusal) → (after_edit s x o).1.tie ≡ s.tie
    by (Ok book) = refl
    by (Err fault) = refl
step_tie s t publish r h = ap (λ (p : Reply × State). p.1.tie) h ∙ by_publish (λ p. p.1.tie ≡ s.tie) s refl refl
step_tie s t condense r h = ap (λ (p : Reply × State). p.1.tie) h
step_tie s t (tell i k) r h = ap (λ (p : Reply × State). p.1.tie) h.2
step_tie s t (look i) r h = let (k, there, low, high, e) = h in ap (λ (p : Reply × State). p.1.tie) e

-- ---- the edits of one step

-- an edit is kept where it was accepted
edit_shown : (s t : State) (e : AnyEdit) (x : Shown) (r : Reply) (o : Result Book Refusal) → (r, t) ≡ after_edit s e o → Says s x r → all_edits t ≡ all_edits s ++ accepted_edit (Edit e) x
edit_shown s t e (Done version) r (Ok book) h says =
    ap (λ (p : Reply × State). all_edits p.1) h ∙ sym (append_assoc (flat_map (λ p. p.batch) s.published) s.pending (e ∷ []))
edit_shown s t e (Done version) r (Err fault) h says = let is = ap (λ (p : Reply × State). p.0) h in absurd (cc (is, says))
edit_shown s t e (Refused refusal) r (Ok book) h says = let is = ap (λ (p : Reply × State). p.0) h in absurd (cc (is, says))
edit_shown s t e (Refused refusal) r (Err fault) h says = ap (λ (p : Reply × State). all_edits p.1) h ∙ sym (append-nil (all_edits s))
edit_shown s t e (Published p) r (Ok book) h says = let is = ap (λ (p : Reply × State). p.0) h in absurd (cc (is, says))
edit_shown s t e (Published p) r (Err fault) h says = ap (λ (p : Reply × State). all_edits p.1) h ∙ sym (append-nil (all_edits s))
edit_shown s t e Told r (Ok book) h says = let is = ap (λ (p : Reply × State). p.0) h in absurd (cc (is, says))
edit_shown s t e Told r (Err fault) h says = ap (λ (p : Reply × State). all_edits p.1) h ∙ sym (append-nil (all_edits s))
edit_shown s t e (Condensed version) r (Ok book) h says = let is = ap (λ (p : Reply × State). p.0) h in absurd (cc (is, says))
edit_shown s t e (Condensed version) r (Err fault) h says = ap (λ (p : Reply × State). all_edits p.1) h ∙ sym (append-nil (all_edits s))
edit_shown s t e (Seen snapshot) r (Ok book) h says = let is = ap (λ (p : Reply × State). p.0) h in let one = says.0 in absurd (cc (is, one))
edit_shown s t e (Seen snapshot) r (Err fault) h says = ap (λ (p : Reply × State). all_edits p.1) h ∙ sym (append-nil (all_edits s))

-- a publication closes the open batch, and no edit is lost
batch_closed : (s : State) → flat_map (λ p. p.batch) (s.published ++ now_of s ∷ []) ++ [] ≡ all_edits s
batch_closed s =
    append-nil (flat_map (λ p. p.batch) (s.published ++ now_of s ∷ []))
    ∙ flat_map-append (λ (p : Publication). p.batch) s.published (now_of s ∷ [])
    ∙ ap (λ l. flat_map (λ p. p.batch) s.published ++ l) (append-nil s.pending)

step_edits : (s t : State) (step : Step) (x : Shown) → Takes s step x t → all_edits t ≡ all_edits s ++ accepted_edit step x
step_edits s t (Edit e) x (r, h, says) = edit_shown s t e x r (step_to (full_at s.base) s.current e) h says
step_edits s t Publish x (r, h, says) =
    ap (λ (p : Reply × State). all_edits p.1) h
    ∙ by_publish (λ p. all_edits p.1 ≡ all_edits s ++ []) s (batch_closed s ∙ sym (append-nil (all_edits s))) (sym (append-nil (all_edits s)))
step_edits s t Condense x (r, h, says) = ap (λ (p : Reply × State). all_edits p.1) h ∙ sym (append-nil (all_edits s))
step_edits s t (Tell i) x (r, h, says) = ap (λ (p : Reply × State). all_edits p.1) h.2 ∙ sym (append-nil (all_edits s))
step_edits s t (Look i) x (r, h, says) = let (k, there, low, high, e) = h in ap (λ (p : Reply × State). all_edits p.1) e ∙ sym (append-nil (all_edits s))

-- ---- runs

run_edits : (s t : State) (steps : List Step) (shown : List Shown) → IsRun s steps shown t → all_edits t ≡ all_edits s ++ accepted_edits steps shown
run_edits s t [] [] h = ap all_edits (sym h) ∙ sym (append-nil (all_edits s))
run_edits s t [] (x ∷ shown) h = absurd h
run_edits s t (step ∷ steps) [] h = absurd h
run_edits s t (step ∷ steps) (x ∷ shown) (next, one, rest) =
    run_edits next t steps shown rest
    ∙ ap (λ l. l ++ accepted_edits steps shown) (step_edits s next step x one)
    ∙ append_assoc (all_edits s) (accepted_edit step x) (accepted_edits steps shown)

run_tie : (s t : State) (steps : List Step) (shown : List Shown) → IsRun s steps shown t → t.tie ≡ s.tie
run_tie s t [] [] h = ap (λ (x : State). x.tie) (sym h)
run_tie s t [] (x ∷ shown) h = absurd h
run_tie s t (step ∷ steps) [] h = absurd h
run_tie s t (step ∷ steps) (x ∷ shown) (next, one, rest) = run_tie next t steps shown rest ∙ step_tie s next (action_of s step) one.0 one.1

-- a run is one of the machine's
run_actions : (s t : State) (steps : List Step) (shown : List Shown) → IsRun s steps shown t → (actions : List Action) × Runs s actions t
run_actions s t [] [] h = ([], h)
run_actions s t [] (x ∷ shown) h = absurd h
run_actions s t (step ∷ steps) [] h = absurd h
run_actions s t (step ∷ steps) (x ∷ shown) (next, one, rest) =
    let (actions, runs) = run_actions next t steps shown rest in
    (action_of s step ∷ actions, (one.0, next, one.1, runs))

-- what a run shows at a place, it shows in a state that the steps before lead to, and goes on from there
record IsAt (s t : State) (steps : List Step) (shown : List Shown) (place : ℕ) (x : Shown) : Type 0 where
  before : State
  next : State
  step : Step
  led : IsRun s (take place steps) (take place shown) before
  takes : Takes before step x next
  actions : List Action
  goes_on : Runs next actions t

is_at : (s t : State) (steps : List Step) (shown : List Shown) (place : ℕ) (x : Shown) → IsRun s steps shown t → slice_get shown place ≡ Some x → IsAt s t steps shown place x
is_at s t [] [] place x h there = absurd (cc (there))
is_at s t [] (y ∷ shown) place x h there = absurd h
is_at s t (step ∷ steps) [] place x h there = absurd h
is_at s t (step ∷ steps) (y ∷ shown) zero x (next, one, rest) there =
    let is : y ≡ x = cc (there) in
    let (actions, runs) = run_actions next t steps shown rest in
    record { before = s; next = next; step = step; led = refl; takes = subst (λ z. Takes s step z next) is one; actions = actions; goes_on = runs }
is_at s t (step ∷ steps) (y ∷ shown) (suc place) x (next, one, rest) there =
    let a = is_at next t steps shown place x rest there in
    record { before = a.before; next = a.next; step = a.step; led = (next, one, a.led); takes = a.takes; actions = a.actions; goes_on = a.goes_on }

-- ---- publications

-- the publication of a step, as it is in the end: what all accepted edits before the step leave
record HasAllEdits (end : State) (p : Numbered) (edits : List AnyEdit) : Type 0 where
  objects : book_of end p.number ≡ after edits
  long : (book_of end p.number).version ≡ length edits
  version : p.version ≡ length edits

publication_has_all : (tie : Tie) (readers : ℕ) (steps : List Step) (shown : List Shown) (end : State) → IsRun (start tie readers) steps shown end
    → (place : ℕ) (p : Numbered) → slice_get shown place ≡ Some (Published p) → HasAllEdits end p (accepted_edits (take place steps) (take place shown))
publication_has_all tie readers steps shown end run place p there =
    let a = is_at (start tie readers) end steps shown place (Published p) run there in
    let m : State = a.before in
    let (number, version, more) = shows_publication m a.next a.step p a.takes in
    let (actions, runs) = run_actions (start tie readers) m (take place steps) (take place shown) a.led in
    let edits : all_edits m ≡ accepted_edits (take place steps) (take place shown) = run_edits (start tie readers) m (take place steps) (take place shown) a.led in
    let (rest, longer) = publications_stay a.next end a.actions a.goes_on in
    let list : end.published ≡ m.published ++ now_of m ∷ rest = longer ∙ (ap (λ l. l ++ rest) more ∙ append_assoc m.published (now_of m ∷ []) rest) in
    let here : get_or end.published p.number opening ≡ now_of m =
    ap (λ l. get_or l p.number opening) list ∙ (ap (λ n. get_or (m.published ++ now_of m ∷ rest) n opening) number ∙ get_or-append_seam m.published (now_of m) rest opening) in
    let book : book_of end p.number ≡ m.current = ap (λ (q : Publication). q.book) here in
    let long : m.current.version ≡ length (accepted_edits (take place steps) (take place shown)) = (versions_count_edits tie readers m actions runs).1 ∙ ap length edits in
    record {
      objects = book ∙ ((publications_are_their_edits tie readers m actions runs).1 ∙ ap after edits);
      long = ap (λ (b : Book). b.version) book ∙ long;
      version = version ∙ long;
    }

pub publications_have_all_edits : PublicationsHaveAllEdits
publications_have_all_edits tie readers steps shown end run place p there =
    let all = publication_has_all tie readers steps shown end run place p there in
    (all.objects, all.version)

-- each further publication is one that some step showed
is_shown : (s t : State) (steps : List Step) (shown : List Shown) (n : ℕ) → IsRun s steps shown t → length s.published ≤ n → n < length t.published
    → (place : ℕ) × (p : Numbered) × (slice_get shown place ≡ Some (Published p)) × (p.number ≡ n)
is_shown s t [] [] n h low high = let same = ap (λ (x : State). length x.published) h in absurd (omega (arith, low, high, same))
is_shown s t [] (x ∷ shown) n h low high = absurd h
is_shown s t (step ∷ steps) [] n h low high = absurd h
is_shown s t (step ∷ steps) (x ∷ shown) n (next, one, rest) low high = by (λ more. is_shown next t steps shown n rest more high) (step_publishes s next (action_of s step) one.0 one.1)
  where
    Found : List Shown → Type 0
    Found l = (place : ℕ) × (p : Numbered) × (slice_get l place ≡ Some (Published p)) × (p.number ≡ n)

    later : Found shown → Found (x ∷ shown)
    later (place, p, there, number) = (suc place, p, there, number)

    here_or_later : (length next.published ≤ n → Found shown) → (length s.published ≡ n) ⊎ (length s.published < n) → one.0 ≡ published (length s.published) s.current.version → length next.published ≡ length s.published + 1 → Found (x ∷ shown)
    here_or_later found (inl is) made long =
        let (p, shows, number) = says_publication s x one.0 (length s.published) s.current.version one.2 made in
        (0, p, ap Some shows, number ∙ is)
    here_or_later found (inr less) made long = later (found (omega (arith, less, long)))

    split : (a b : ℕ) → a ≤ b → (a ≡ b) ⊎ (a < b)
    split zero zero le = inl refl
    split zero (suc b) le = inr (omega arith)
    split (suc a) zero le = absurd (omega (arith, le))
    split (suc a) (suc b) le = up (split a b (omega (arith, le)))
      where
        up : (a ≡ b) ⊎ (a < b) → (suc a ≡ suc b) ⊎ (suc a < suc b)
        up (inl is) = inl (ap suc is)
        up (inr less) = inr (omega (arith, less))

    by : (length next.published ≤ n → Found shown) → Publishes s one.0 next → Found (x ∷ shown)
    by found (inl (same, none)) = let long = ap length same in later (found (omega (arith, long, low)))
    by found (inr (made, more)) = here_or_later found (split (length s.published) n low) made (ap length more ∙ length-append s.published (now_of s ∷ []))

-- ---- snapshots

-- of number 0 nothing was accepted, of any other what was before the step that showed it
edits_to : (tie : Tie) (readers : ℕ) (steps : List Step) (shown : List Shown) (m : State) (number : ℕ) → IsRun (start tie readers) steps shown m → number < length m.published
    → (edits : List AnyEdit) × AreEditsUpTo number steps shown edits × (book_of m number ≡ after edits) × ((book_of m number).version ≡ length edits)
unfolding after_from
edits_to tie readers steps shown m zero run there =
    let (actions, runs) = run_actions (start tie readers) m steps shown run in
    let (rest, longer) = publications_stay (start tie readers) m actions runs in
    let first : book_of m 0 ≡ empty = ap (λ (l : List Publication). (get_or l 0 opening).book) longer in
    ([], inl (refl, refl), first, ap (λ (b : Book). b.version) first)
edits_to tie readers steps shown m (suc n) run there =
    let (place, p, shows, number) = is_shown (start tie readers) m steps shown (suc n) run (omega arith) there in
    let all = publication_has_all tie readers steps shown m run place p shows in (
      accepted_edits (take place steps) (take place shown),
      inr (place, p, shows, number, refl),
      ap (book_of m) (sym number) ∙ all.objects,
      ap (λ (k : ℕ). (book_of m k).version) (sym number) ∙ all.long,
    )

governs_same : (tie other : Tie) (book same : Book) → other ≡ tie → same ≡ book → (id : List ℕ) (kind : PayloadType) (t : ℤ) → governs other same id kind t ≡ governs tie book id kind t
governs_same tie other book same rule is id kind t = rw (rule, is) refl

pub snapshots_tell_of_their_edits : SnapshotsTellOfTheirEdits
snapshots_tell_of_their_edits tie readers steps shown end run place snapshot there =
    let a = is_at (start tie readers) end steps shown place (Seen snapshot) run there in
    let m : State = a.before in
    let s : PublishedBook = arc_value snapshot in
    let (within, shows, rule, leads) = a.takes.2.1 in
    let (edits, are, objects, version) = edits_to tie readers (take place steps) (take place shown) m s.number a.led within in
    let same : s.book.objects ≡ book_of m s.number = sym (ap (λ (q : Publication). q.book) shows) in
    let made : s.book.objects ≡ after edits = same ∙ objects in (
      edits,
      are,
      record {
        objects = made;
        journal = leads ∙ made;
        version = ap (λ (b : Book). b.version) same ∙ version;
        governed = governs_same tie s.tie (after edits) s.book.objects (rule ∙ run_tie (start tie readers) m (take place steps) (take place shown) a.led) made;
      },
    )
