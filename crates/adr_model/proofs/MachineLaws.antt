-- The laws of the machine.
use Rattle.std.proofs.Common.{◌≡◌, ℕ, zero, suc, ◌≤◌, max, Bool, true, false, List, [], ◌∷◌, ◌++◌, length, Result, Ok, Err, refl, sym, ap, subst, ◌∙◌, arith, append_assoc, append-nil, length-append, add-one, zero-add, nat_lt, cond, fold, take, get_or, replicate, ◌+◌, ◌-◌, ◌<◌}
use Rattle.std.specs.Prelude.{flat_map, slice_index, slice_set}
use Rattle.adr_refusal.specs.declared.refusal.Refusal.{Refusal}
use Rattle.adr_refusal.specs.declared.refusal.Refusal.TheVariants.{Full}
use Rattle.adr_value.specs.declared.limits.TheConstants.{MOST_PUBLICATIONS}
use Rattle.adr_object.specs.declared.object.Edit.{Edit}
use Rattle.adr_model.specs.declared.entry.Tie.{Tie}
use Rattle.adr_model.specs.Book.{Book, empty}
use Rattle.adr_model.specs.Edits.{after, after_from, faults, full_at, made, step_to}
use Rattle.adr_model.specs.Machine.{Action, Publication, Reply, State, Steps, after_edit, after_publish, book_of, condense, edit, last_number, look, opening, publish, published, refused, seen, start, tell}
use Rattle.adr_model.specs.Laws.{AreLinked, IsPrefix, LooksShowNoEarlier, PublicationsAreTheirEdits, PublicationsFollow, PublicationsStay, ReadersStayBehind, Runs, SeenNeverFalls, VersionsCountEdits, all_edits, edits_up_to}
use Rattle.adr_model.proofs.EditLemmas.{AllAccepted, accepted, accepted_versions, after_all, after_from_push, all_accepted_first, all_accepted_push, bases_only_refuse, journals_go_on}

-- ---- seen numbers

set_rises : (xs : List ℕ) (j i v : ℕ) → slice_index xs j ≤ v → slice_index xs i ≤ slice_index (slice_set xs j v) i
set_rises [] j i v h = omega arith
set_rises (x ∷ xs) zero zero v h = h
set_rises (x ∷ xs) zero (suc i) v h = omega arith
set_rises (x ∷ xs) (suc j) zero v h = omega arith
set_rises (x ∷ xs) (suc j) (suc i) v h = set_rises xs j i v h

edit_seen : (s : State) (x : Edit) (r : Result Book Refusal) → (after_edit s x r).1.seen ≡ s.seen
edit_seen s x (Ok book) = refl
edit_seen s x (Err fault) = refl

-- what is kept by a publication that is made and by one that is refused
by_publish : (P : Reply × State → Type 0) (s : State)
    → P (published (length s.published) s.current.version, record s { published = s.published ++ record { book = s.current; batch = s.pending } ∷ []; pending = [] })
    → P (refused Full, s) → P (after_publish s)
by_publish P s made kept = by (nat_lt (last_number s) MOST_PUBLICATIONS)
  where
    by : (b : Bool) → P (cond b (published (length s.published) s.current.version, record s { published = s.published ++ record { book = s.current; batch = s.pending } ∷ []; pending = [] }) (refused Full, s))
    by true = made
    by false = kept

step_seen : (s m : State) (a : Action) (r : Reply) → Steps s a (r, m) → (i : ℕ) → slice_index s.seen i ≤ slice_index m.seen i
step_seen s m (edit x) r h i =
    let same : m.seen ≡ s.seen = ap (λ (p : Reply × State). p.1.seen) h ∙ edit_seen s x (step_to (full_at s.base) s.current x) in
    rw same (omega arith)
step_seen s m publish r h i =
    let same : m.seen ≡ s.seen = ap (λ (p : Reply × State). p.1.seen) h ∙ by_publish (λ p. p.1.seen ≡ s.seen) s refl refl in
    rw same (omega arith)
step_seen s m condense r h i =
    let same : m.seen ≡ s.seen = ap (λ (p : Reply × State). p.1.seen) h in
    rw same (omega arith)
step_seen s m (tell j k) r h i =
    let new : m.seen ≡ slice_set s.seen j (max (slice_index s.seen j) k) = ap (λ (p : Reply × State). p.1.seen) h.2 in
    rw new (set_rises s.seen j i (max (slice_index s.seen j) k) (omega arith))
step_seen s m (look j) r h i =
    let (k, there, low, high, e) = h in
    let new : m.seen ≡ slice_set s.seen j k = ap (λ (p : Reply × State). p.1.seen) e in
    rw new (set_rises s.seen j i k low)

pub seen_never_falls : SeenNeverFalls
seen_never_falls s t [] h i = let same : s.seen ≡ t.seen = ap (λ (x : State). x.seen) h in rw same (omega arith)
seen_never_falls s t (a ∷ actions) h i =
    let (r, m, one, rest) = h in
    let first = step_seen s m a r one i in
    let later = seen_never_falls m t actions rest i in
    omega (arith, first, later)

-- ---- looks

number_shown : Reply → ℕ
number_shown (seen k) = k
number_shown _ = 0

pub looks_show_no_earlier : LooksShowNoEarlier
unfolding number_shown
looks_show_no_earlier s m t actions i k run h =
    let (n, there, low, high, e) = h in
    let same : k ≡ n = ap (λ (p : Reply × State). number_shown p.0) e in
    let before = seen_never_falls s m actions run i in
    (omega (arith, same, low, before), omega (arith, same, high))

-- ---- publications

prefix_self : {X : Type 0} (xs : List X) → IsPrefix xs xs
prefix_self xs = ([], sym (append-nil xs))

prefix_more : {X : Type 0} (xs ys : List X) → IsPrefix xs (xs ++ ys)
prefix_more xs ys = (ys, refl)

prefix_on : {X : Type 0} (xs ys zs : List X) → IsPrefix xs ys → IsPrefix ys zs → IsPrefix xs zs
prefix_on xs ys zs a b = (a.0 ++ b.0, b.1 ∙ ap (λ l. l ++ b.0) a.1 ∙ append_assoc xs a.0 b.0)

edit_published : (s : State) (x : Edit) (r : Result Book Refusal) → (after_edit s x r).1.published ≡ s.published
edit_published s x (Ok book) = refl
edit_published s x (Err fault) = refl

step_published : (s m : State) (a : Action) (r : Reply) → Steps s a (r, m) → IsPrefix s.published m.published
step_published s m (edit x) r h =
    subst (λ l. IsPrefix s.published l)
    (sym (ap (λ (p : Reply × State). p.1.published) h ∙ edit_published s x (step_to (full_at s.base) s.current x)))
    (prefix_self s.published)
step_published s m publish r h =
    subst (λ l. IsPrefix s.published l) (sym (ap (λ (p : Reply × State). p.1.published) h))
    (by_publish (λ p. IsPrefix s.published p.1.published) s (prefix_more s.published _) (prefix_self s.published))
step_published s m condense r h =
    subst (λ l. IsPrefix s.published l) (sym (ap (λ (p : Reply × State). p.1.published) h)) (prefix_self s.published)
step_published s m (tell j k) r h =
    subst (λ l. IsPrefix s.published l) (sym (ap (λ (p : Reply × State). p.1.published) h.2)) (prefix_self s.published)
step_published s m (look j) r h =
    let (k, there, low, high, e) = h in
    subst (λ l. IsPrefix s.published l) (sym (ap (λ (p : Reply × State). p.1.published) e)) (prefix_self s.published)

pub publications_stay : PublicationsStay
publications_stay s t [] h = subst (λ (x : State). IsPrefix s.published x.published) h (prefix_self s.published)
publications_stay s t (a ∷ actions) h =
    let (r, m, one, rest) = h in
    prefix_on s.published m.published t.published (step_published s m a r one) (publications_stay m t actions rest)

-- ---- the last of a list, and a list joined

-- the book of the last publication, or one that stands for it
abbrev last_of : Book → List Publication → Book
last_of book [] = book
last_of book (p ∷ ps) = last_of p.book ps

nth_last : (p : Publication) (ps : List Publication) (o : Publication) → (get_or (p ∷ ps) (length ps) o).book ≡ last_of p.book ps
nth_last p [] o = refl
nth_last p (q ∷ ps) o = nth_last q ps o

last_book_is : (ps : List Publication) → (get_or ps (length ps - 1) opening).book ≡ last_of empty ps
last_book_is [] = refl
last_book_is (p ∷ ps) = let one : length (p ∷ ps) - 1 ≡ length ps = omega arith in ap (λ n. (get_or (p ∷ ps) n opening).book) one ∙ nth_last p ps opening

joined-push : (ps : List Publication) (p : Publication) → flat_map (λ q. q.batch) (ps ++ p ∷ []) ≡ flat_map (λ q. q.batch) ps ++ p.batch
joined-push [] p = append-nil p.batch
joined-push (q ∷ ps) p = ap (λ l. q.batch ++ l) (joined-push ps p) ∙ sym (append_assoc q.batch (flat_map (λ x. x.batch) ps) p.batch)

-- ---- what every state that is reached keeps

-- the publications are linked, the edits since the last lead to the book as it stands, and each edit was accepted in turn
record Sound (s : State) : Type 0 where
  linked : AreLinked empty s.published
  now : s.current ≡ after_from (last_of empty s.published) s.pending
  all : AllAccepted empty (flat_map (λ p. p.batch) s.published ++ s.pending)
  some : 1 ≤ length s.published
  behind : (i : ℕ) → slice_index s.seen i ≤ last_number s

linked-push : (book : Book) (ps : List Publication) (p : Publication) → AreLinked book ps → p.book ≡ after_from (last_of book ps) p.batch → AreLinked book (ps ++ p ∷ [])
linked-push book [] p h e = (e, tt)
linked-push book (q ∷ ps) p h e = (h.0, linked-push q.book ps p h.1 e)

last-push : (book : Book) (ps : List Publication) (p : Publication) → last_of book (ps ++ p ∷ []) ≡ p.book
last-push book [] p = refl
last-push book (q ∷ ps) p = last-push q.book ps p

-- linked books are what the batches joined leave
linked_joined : (book : Book) (ps : List Publication) → AreLinked book ps → last_of book ps ≡ after_from book (flat_map (λ p. p.batch) ps)
unfolding after_from
linked_joined book [] h = refl
linked_joined book (p ∷ ps) h =
    linked_joined p.book ps h.1
    ∙ ap (λ b. after_from b (flat_map (λ q. q.batch) ps)) h.0
    ∙ sym (journals_go_on book p.batch (flat_map (λ q. q.batch) ps))

-- the book as it stands is what all the edits leave
all_lead_here : (s : State) → Sound s → s.current ≡ after (all_edits s)
all_lead_here s h =
    h.now
    ∙ ap (λ b. after_from b s.pending) (linked_joined empty s.published h.linked)
    ∙ sym (journals_go_on empty (flat_map (λ p. p.batch) s.published) s.pending)

nothing_seen : (readers i : ℕ) → slice_index (replicate readers 0) i ≡ 0
nothing_seen zero i = refl
nothing_seen (suc n) zero = refl
nothing_seen (suc n) (suc i) = nothing_seen n i

start_sound : (tie : Tie) (readers : ℕ) → Sound (start tie readers)
unfolding after_from
start_sound tie readers = record {
  linked = (refl, tt);
  now = refl;
  all = tt;
  some = omega arith;
  behind = λ i. rw (nothing_seen readers i) (omega arith);
}

edit_sound : (s : State) (x : Edit) (r : Result Book Refusal) → step_to (full_at s.base) s.current x ≡ r → Sound s → Sound (after_edit s x r).1
edit_sound s x (Ok book) e h =
    let plain = bases_only_refuse s.base s.current book x e in
    let none = (accepted s.current book x plain).0 in
    let here : s.current ≡ fold made empty (all_edits s) = all_lead_here s h ∙ after_all (all_edits s) h.all in
    record {
      linked = h.linked;
      now = sym (after_from_push (last_of empty s.published) s.pending x s.current book (sym h.now) plain);
      all = subst (λ l. AllAccepted empty l) (append_assoc (flat_map (λ p. p.batch) s.published) s.pending (x ∷ []))
          (all_accepted_push empty (all_edits s) x h.all (subst (λ b. faults b x ≡ []) here none));
      some = h.some;
      behind = h.behind;
    }
edit_sound s x (Err fault) e h = h

publish_sound : (s : State) → Sound s → Sound (after_publish s).1
unfolding after_from
publish_sound s h = by_publish (λ p. Sound p.1) s (pushed (record { book = s.current; batch = s.pending }) refl refl) h
  where
    pushed : (p : Publication) → p.book ≡ s.current → p.batch ≡ s.pending → Sound (record s { published = s.published ++ p ∷ []; pending = [] })
    pushed p e f = record {
      linked = linked-push empty s.published p h.linked (e ∙ h.now ∙ ap (λ l. after_from (last_of empty s.published) l) (sym f));
      now = sym (last-push empty s.published p ∙ e);
      all = subst (λ l. AllAccepted empty l)
          (sym (append-nil (flat_map (λ q. q.batch) (s.published ++ p ∷ [])) ∙ joined-push s.published p ∙ ap (λ l. flat_map (λ q. q.batch) s.published ++ l) f))
          h.all;
      some = let n = length-append s.published (p ∷ []) in omega (arith, n);
      behind = λ i. let n = length-append s.published (p ∷ []) in let b = h.behind i in omega (arith, n, b);
    }

set_stays : (xs : List ℕ) (j i v m : ℕ) → slice_index xs i ≤ m → v ≤ m → slice_index (slice_set xs j v) i ≤ m
set_stays [] j i v m h k = h
set_stays (x ∷ xs) zero zero v m h k = k
set_stays (x ∷ xs) zero (suc i) v m h k = h
set_stays (x ∷ xs) (suc j) zero v m h k = h
set_stays (x ∷ xs) (suc j) (suc i) v m h k = set_stays xs j i v m h k

-- a reader's number is set to one that is not above the last
seen_sound : (s : State) (j v : ℕ) → v ≤ last_number s → Sound s → Sound (record s { seen = slice_set s.seen j v })
seen_sound s j v k h = record {
  linked = h.linked;
  now = h.now;
  all = h.all;
  some = h.some;
  behind = λ i. set_stays s.seen j i v (last_number s) (h.behind i) k;
}

step_sound : (s m : State) (a : Action) (r : Reply) → Sound s → Steps s a (r, m) → Sound m
step_sound s m (edit x) r g h = subst (λ (p : Reply × State). Sound p.1) (sym h) (edit_sound s x (step_to (full_at s.base) s.current x) refl g)
step_sound s m publish r g h = subst (λ (p : Reply × State). Sound p.1) (sym h) (publish_sound s g)
step_sound s m condense r g h =
    subst (λ (p : Reply × State). Sound p.1) (sym h) (record { linked = g.linked; now = g.now; all = g.all; some = g.some; behind = g.behind })
step_sound s m (tell j k) r g h =
    let seen = g.behind j in
    let known = h.1 in
    subst (λ (p : Reply × State). Sound p.1) (sym h.2) (seen_sound s j (max (slice_index s.seen j) k) (omega (arith, seen, known)) g)
step_sound s m (look j) r g h = let (k, there, low, high, e) = h in subst (λ (p : Reply × State). Sound p.1) (sym e) (seen_sound s j k high g)

run_sound : (s t : State) (actions : List Action) → Sound s → Runs s actions t → Sound t
run_sound s t [] g h = subst Sound h g
run_sound s t (a ∷ actions) g h = let (r, m, one, rest) = h in run_sound m t actions (step_sound s m a r g one) rest

reached : (tie : Tie) (readers : ℕ) (t : State) (actions : List Action) → Runs (start tie readers) actions t → Sound t
reached tie readers t actions h = run_sound (start tie readers) t actions (start_sound tie readers) h

-- ---- what follows

pub publications_follow : PublicationsFollow
publications_follow tie readers t actions h =
    let s = reached tie readers t actions h in
    (s.linked, s.now ∙ ap (λ b. after_from b t.pending) (sym (last_book_is t.published)))

-- of linked publications, the book at a number is what the batches up to it leave
nth_joined : (book : Book) (ps : List Publication) (n : ℕ) → n < length ps → AreLinked book ps
    → (get_or ps n opening).book ≡ after_from book (flat_map (λ p. p.batch) (take (suc n) ps))
unfolding after_from
nth_joined book [] n l h = absurd (omega (arith, l))
nth_joined book (p ∷ ps) zero l h = h.0 ∙ ap (λ l. after_from book l) (sym (append-nil p.batch))
nth_joined book (p ∷ ps) (suc n) l h =
    nth_joined p.book ps n (omega (arith, l)) h.1
    ∙ ap (λ b. after_from b (flat_map (λ q. q.batch) (take (suc n) ps))) h.0
    ∙ sym (journals_go_on book p.batch (flat_map (λ q. q.batch) (take (suc n) ps)))

up_to : (t : State) (n : ℕ) → Sound t → n ≤ last_number t → book_of t n ≡ after (edits_up_to t n)
up_to t n s le =
    let some = s.some in
    nth_joined empty t.published n (omega (arith, le, some)) s.linked
    ∙ ap (λ k. after (flat_map (λ p. p.batch) (take k t.published))) (sym (add-one n))

pub publications_are_their_edits : PublicationsAreTheirEdits
publications_are_their_edits tie readers t actions h =
    let s = reached tie readers t actions h in
    (λ n le. up_to t n s le, all_lead_here t s)

-- the first batches joined begin all batches joined
joined_first : (ps : List Publication) (n : ℕ) → (rest : List Edit) × (flat_map (λ p. p.batch) ps ≡ flat_map (λ p. p.batch) (take n ps) ++ rest)
joined_first ps zero = (flat_map (λ p. p.batch) ps, refl)
joined_first [] (suc n) = ([], refl)
joined_first (p ∷ ps) (suc n) =
    let r = joined_first ps n in
    (r.0, ap (λ l. p.batch ++ l) r.1 ∙ sym (append_assoc p.batch (flat_map (λ q. q.batch) (take n ps)) r.0))

pub versions_count_edits : VersionsCountEdits
versions_count_edits tie readers t actions h =
    let s = reached tie readers t actions h in (
      λ n le. ap (λ (b : Book). b.version) (up_to t n s le) ∙ accepted_versions empty (edits_up_to t n) (first n s) ∙ zero-add (length (edits_up_to t n)),
      ap (λ (b : Book). b.version) (all_lead_here t s) ∙ accepted_versions empty (all_edits t) s.all ∙ zero-add (length (all_edits t)),
    )
  where
    first : (n : ℕ) → Sound t → AllAccepted empty (edits_up_to t n)
    first n s =
        let r = joined_first t.published (n + 1) in
        all_accepted_first empty (edits_up_to t n) (r.0 ++ t.pending)
        (subst (λ l. AllAccepted empty l) (ap (λ l. l ++ t.pending) r.1 ∙ append_assoc (edits_up_to t n) r.0 t.pending) s.all)

pub readers_stay_behind : ReadersStayBehind
readers_stay_behind tie readers t actions h = (reached tie readers t actions h).behind
