-- Each kind of step is one of the machine's.
use Rattle.std.proofs.Common.{◌≡◌, ◌∙◌, ℕ, suc, ◌+◌, ◌-◌, ◌<◌, ◌≤◌, max, Bool, cond, List, [], ◌∷◌, ◌++◌, length, get_or, set, Global, Ok, Err, refl, sym, ap, arith}
use Rattle.std.specs.Prelude.{slice_index, slice_set}
use Rattle.std.specs.declared.sync.Arc.{Arc}
use Rattle.std.specs.Arc.{arc_value}
use Rattle.std.proofs.lemmas.Bool.{lt-ltb, le-ltb}
use Rattle.adr_value.specs.declared.limits.TheConstants.{MOST_PUBLICATIONS}
use Rattle.adr_refusal.specs.declared.refusal.Refusal.{Refusal}
use Rattle.adr_refusal.specs.declared.refusal.Refusal.TheVariants.{Full}
use Rattle.adr_object.specs.declared.object.Edit.{Edit as AnyEdit}
use Rattle.adr_model.specs.Edits.{full_at, step_to}
use Rattle.adr_model.specs.Machine.{after_edit, after_publish, last_book, last_number, opening, refused, done, published, condensed, told, seen}
use Rattle.adr_model.specs.declared.published.Published.{Published as Numbered}
use Rattle.adr_board.specs.Boards.{Board, View, last_of, newcomer, with_published}
use Rattle.adr_board.specs.Publications.{opening_book, publication_in, publications_in}
use Rattle.adr_book.specs.Ledger.{Ledger}
use Rattle.adr_board.proofs.Linked.{publication_at, publications_long, publications_push}
use Rattle.adr_board.specs.Published.{PublishedBook}
use Rattle.adr_board.specs.declared.run_steps.Step.TheVariants.{Edit, Publish, Condense, Tell, Look}
use Rattle.adr_board.specs.declared.run_steps.Shown.TheVariants.{Done, Refused, Published, Told, Condensed, Seen}
use Rattle.adr_board.specs.Replay.{IsOf, IsStep, reach, state_of}
use Rattle.adr_board.proofs.Reached.{reached_at, reached_length, reached_set}

pub edited : (b c : Board) (x : AnyEdit) (version : ℕ) → step_to (full_at b.book.base.version) b.book.objects x ≡ Ok c.book.objects
    → c.tie ≡ b.tie → c.book.base ≡ b.book.base → c.book.pending ≡ b.book.pending ++ x ∷ [] → c.published ≡ b.published → version ≡ c.book.objects.version
    → (views : List View) → IsStep b views (Edit x) (Done version) c views
edited b c x version ok tie base pending same is views numbers reached =
    let s = state_of b numbers in
    let made = ap (after_edit s x) ok in
    let whole : (done version, state_of c numbers) ≡ after_edit s x (Ok c.book.objects) = cc (is, tie, base, pending, same) in
    (numbers, reached, (done version, whole ∙ sym made, refl))

pub edit_refused : (b : Board) (x : AnyEdit) (refusal : Refusal) → step_to (full_at b.book.base.version) b.book.objects x ≡ Err refusal
    → (views : List View) → IsStep b views (Edit x) (Refused refusal) b views
edit_refused b x refusal err views numbers reached = (numbers, reached, (refused refusal, sym (ap (after_edit (state_of b numbers) x) err), refl))

pub publicized : (b : Board) (p : Numbered) → p.number ≡ length b.published → p.version ≡ b.book.objects.version → p.number ≤ MOST_PUBLICATIONS → 0 < length b.published
    → (views : List View) → IsStep b views Publish (Published p) (with_published b) views
publicized b p number version most some views numbers reached =
    let s = state_of b numbers in
    let t = state_of (with_published b) numbers in
    let long = publications_long b.published in
    let room = lt-ltb (last_number s) MOST_PUBLICATIONS (omega (arith, long)) in
    let next = record s { published = s.published ++ record { book = s.current; batch = s.pending } ∷ []; pending = [] } in
    let made : after_publish s ≡ (published (length s.published) b.book.objects.version, next) = ap (λ (r : Bool). cond r (published (length s.published) b.book.objects.version, next) (refused Full, s)) room in
    let same : t ≡ next = ap (λ l. record t { published = l }) (publications_push b.published b.book) in
    let reply : (published p.number p.version, t) ≡ (published (length s.published) b.book.objects.version, next) = cc (number, version, long, same) in
    (numbers, reached, (published p.number p.version, reply ∙ sym made, refl))

pub publication_refused : (b : Board) → length b.published ≡ MOST_PUBLICATIONS + 1 → (views : List View) → IsStep b views Publish (Refused Full) b views
publication_refused b full views numbers reached =
    let s = state_of b numbers in
    let long = publications_long b.published in
    let none = le-ltb (last_number s) MOST_PUBLICATIONS (omega (arith, long)) in
    let next = record s { published = s.published ++ record { book = s.current; batch = s.pending } ∷ []; pending = [] } in
    let made : after_publish s ≡ (refused Full, s) = ap (λ (r : Bool). cond r (published (length s.published) b.book.objects.version, next) (refused Full, s)) none in
    (numbers, reached, (refused Full, sym made, refl))

last_is : (ps : List Ledger) → get_or ps (length ps - 1) opening_book ≡ last_of ps
last_is [] = refl
last_is (p ∷ []) = refl
last_is (p ∷ q ∷ qs) =
    let more : length (p ∷ q ∷ qs) - 1 ≡ suc (length (q ∷ qs) - 1) = omega arith in
    ap (λ (n : ℕ). get_or (p ∷ q ∷ qs) n opening_book) more ∙ last_is (q ∷ qs)

-- the last of them as the machine has it
last_in : (ps : List Ledger) → get_or (publications_in ps) (length (publications_in ps) - 1) opening ≡ publication_in (last_of ps)
last_in ps =
    ap (λ (n : ℕ). get_or (publications_in ps) (n - 1) opening) (publications_long ps) ∙ (publication_at ps (length ps - 1) ∙ ap publication_in (last_is ps))

pub based : (b c : Board) (version : ℕ) → version ≡ (last_of b.published).objects.version → c.book.base ≡ (last_of b.published).objects → c.tie ≡ b.tie → c.book.objects ≡ b.book.objects
    → c.book.pending ≡ b.book.pending → c.published ≡ b.published → (views : List View) → IsStep b views Condense (Condensed version) c views
based b c version is base tie objects pending same views numbers reached =
    let s = state_of b numbers in
    let last : last_book s ≡ (last_of b.published).objects = ap (λ p. p.book) (last_in b.published) in
    let from : c.book.base.version ≡ (last_book s).version = ap (λ x. x.version) (base ∙ sym last) in
    let list : publications_in c.published ≡ publications_in b.published = ap publications_in same in
    let next : state_of c numbers ≡ record s { base = (last_book s).version } = cc (from, tie, objects, pending, list) in
    let shown : version ≡ (last_book s).version = is ∙ ap (λ x. x.version) (sym last) in
    let reply : (condensed version, state_of c numbers) ≡ (condensed (last_book s).version, record s { base = (last_book s).version }) = cc (shown, next) in
    (numbers, reached, (condensed version, reply, refl))

pub informed : (b : Board) (views : List View) (i : ℕ) (v : View) → i < length views → 0 < length b.published → length b.published ≤ reach v → reach (get_or views i newcomer) ≤ reach v
    → IsStep b views (Tell i) Told b (set views i v)
informed b views i v there some new kept numbers reached =
    let s = state_of b numbers in
    let was = reached_at numbers views i reached there in
    let long = reached_length numbers views reached in
    let many = publications_long b.published in
    let number = max (slice_index numbers i) (last_number s) in
    (slice_set numbers i number, reached_set numbers views i number v reached (omega arith), (told, (omega arith, omega arith, refl), refl))

pub looked : (b : Board) (views : List View) (i : ℕ) (v : View) (snapshot : Arc PublishedBook Global) → i < length views → reach (get_or views i newcomer) ≤ (arc_value snapshot).number + 1
    → IsOf b.tie (publications_in b.published) (arc_value snapshot) → (arc_value snapshot).number < reach v
    → IsStep b views (Look i) (Seen snapshot) b (set views i v)
looked b views i v snapshot there later is known numbers reached =
    let number = (arc_value snapshot).number in
    let was = reached_at numbers views i reached there in
    let long = reached_length numbers views reached in
    let behind = is.0 in
    (slice_set numbers i number, reached_set numbers views i number v reached known, (seen number, (number, omega arith, omega arith, omega arith, refl), (refl, is)))
