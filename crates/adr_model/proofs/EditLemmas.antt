-- What an accepted and a refused edit do, and the book after one more edit.
use Rattle.std.proofs.Common.{◌≡◌, ◌++◌, ◌∷◌, [], List, Option, Some, None, Ok, fold, refl, ap, ◌∙◌}
use Rattle.std.specs.Prelude.{⊤}
use Rattle.std.proofs.Common.{ℕ, not, nat_le, Result, Err, ◌+◌, ◌≤◌, Bool, true, false, ◌||◌, length, sym, arith}
use Rattle.std.proofs.lemmas.Bool.{false≢true}
use Rattle.std.proofs.lemmas.List.Sums.{fold_push, fold-append}
use Rattle.std.proofs.lemmas.Slice.Eq.{bytes_eq-Decides}
use Rattle.std.specs.List.{list_any}
use Rattle.std.specs.Str.{bytes_eq}
use Rattle.adr_value.specs.Limits.{Limits, limits}
use Rattle.adr_value.specs.Payload.{name_of}
use Rattle.adr_value.specs.Same.{same_type}
use Rattle.adr_value.specs.declared.payload.PayloadType.{PayloadType}
use Rattle.adr_object.specs.declared.event.Payload.{Payload}
use Rattle.adr_model.specs.Laws.{AcceptedEditsCount, BasesOnlyRefuse, JournalsGoOn, RefusedEditsChangeNothing, RepeatsAreOneEntry, VersionsAreEdits}
use Rattle.std.specs.Result.{result_unwrap_or}
use Rattle.adr_refusal.specs.Faults.{least_fault, unless_refused, judged}
use Rattle.adr_refusal.specs.declared.refusal.Refusal.{Refusal}
use Rattle.adr_refusal.proofs.Judged.{none_is_none}
use Rattle.adr_object.specs.declared.object.Edit.{Edit}
use Rattle.adr_model.specs.Book.{Book, empty}
use Rattle.adr_model.specs.Edits.{after, after_from, fault_if, faults, faults_by, faults_to, full_at, has_id, is_named, layout_faults, made, step, step_by, step_to}
use Rattle.adr_value.specs.declared.limits.TheConstants.{MOST_VERSION}
use Rattle.adr_refusal.specs.declared.refusal.Refusal.TheVariants.{Full, InUse, NotThere}
use Rattle.adr_object.specs.declared.object.Edit.TheVariants.{Create, Change, Remove}

-- where a value is answered, there is no fault
pub judged_value : {T : Type 0} (fs : List Refusal) (v w : T) → judged fs v ≡ Ok w → (fs ≡ []) × (v ≡ w)
judged_value {T = T} fs v w h = by (least_fault fs) refl h
  where
    by : (o : Option Refusal) → least_fault fs ≡ o → unless_refused o v ≡ Ok w → (fs ≡ []) × (v ≡ w)
    by None e k = (none_is_none fs e, cc)
    by (Some f) e k = absurd (cc)

-- an accepted edit has no fault, and the next book is the one with the edit made
pub accepted_by : (most : Limits) (full : ℕ) (old new : Book) (edit : Edit) → step_by most full old edit ≡ Ok new → (faults_by most full old edit ≡ []) × (made old edit ≡ new)
unfolding step_by
accepted_by most full old new edit h = judged_value (faults_by most full old edit) (made old edit) new h

pub accepted_to : (full : ℕ) (old new : Book) (edit : Edit) → step_to full old edit ≡ Ok new → (faults_to full old edit ≡ []) × (made old edit ≡ new)
accepted_to full old new edit h = accepted_by limits full old new edit h

pub accepted : (old new : Book) (edit : Edit) → step old edit ≡ Ok new → (faults old edit ≡ []) × (made old edit ≡ new)
accepted old new edit h = accepted_to MOST_VERSION old new edit h

-- the book after one more edit, whether it is accepted or refused
pub after_from_one_more : (book : Book) (edits : List Edit) (x : Edit)
    → after_from book (edits ++ x ∷ []) ≡ result_unwrap_or (step (after_from book edits) x) (after_from book edits)
unfolding after_from
after_from_one_more book edits x = fold_push (λ b edit. result_unwrap_or (step b edit) b) book edits x

pub after_one_more : (edits : List Edit) (x : Edit) → after (edits ++ x ∷ []) ≡ result_unwrap_or (step (after edits) x) (after edits)
after_one_more edits x = after_from_one_more empty edits x

pub after_from_push : (book : Book) (edits : List Edit) (x : Edit) (old new : Book)
    → after_from book edits ≡ old → step old x ≡ Ok new → after_from book (edits ++ x ∷ []) ≡ new
after_from_push book edits x old new e s =
    after_from_one_more book edits x
    ∙ ap (λ b. result_unwrap_or (step b x) b) e
    ∙ ap (λ r. result_unwrap_or r old) s

-- a list of edits of which each meets no fault

abbrev pub AllAccepted : Book → List Edit → Type 0
AllAccepted book [] = ⊤
AllAccepted book (x ∷ xs) = (faults book x ≡ []) × AllAccepted (made book x) xs

pub step_faultless : (full : ℕ) (book : Book) (x : Edit) → faults_to full book x ≡ [] → step_to full book x ≡ Ok (made book x)
unfolding step_by least_fault
step_faultless full book x h = ap (λ fs. judged fs (made book x)) h

fold_faultless : (edits : List Edit) (book : Book) → AllAccepted book edits
    → fold (λ b x. result_unwrap_or (step b x) b) book edits ≡ fold made book edits
fold_faultless [] book h = refl
fold_faultless (x ∷ xs) book h =
    ap (λ r. fold (λ b y. result_unwrap_or (step b y) b) (result_unwrap_or r book) xs) (step_faultless MOST_VERSION book x h.0)
    ∙ fold_faultless xs (made book x) h.1

-- leaves the book with each made in turn
pub after_all_from : (book : Book) (edits : List Edit) → AllAccepted book edits → after_from book edits ≡ fold made book edits
unfolding after_from
after_all_from book edits h = fold_faultless edits book h

pub after_all : (edits : List Edit) → AllAccepted empty edits → after edits ≡ fold made empty edits
after_all edits h = after_all_from empty edits h

-- and so do the first of them
pub all_accepted_first : (book : Book) (xs ys : List Edit) → AllAccepted book (xs ++ ys) → AllAccepted book xs
all_accepted_first book [] ys h = tt
all_accepted_first book (x ∷ xs) ys h = (h.0, all_accepted_first (made book x) xs ys h.1)

pub all_accepted_push : (book : Book) (xs : List Edit) (x : Edit) → AllAccepted book xs → faults (fold made book xs) x ≡ [] → AllAccepted book (xs ++ x ∷ [])
all_accepted_push book [] x h n = (n, tt)
all_accepted_push book (y ∷ xs) x h n = (h.0, all_accepted_push (made book y) xs x h.1 n)

fold_counts : (book : Book) (xs : List Edit) → (fold made book xs).version ≡ book.version + length xs
fold_counts book [] = omega arith
fold_counts book (x ∷ xs) = let h = fold_counts (made book x) xs in omega (arith, h)

-- each makes the version one more
pub accepted_versions : (book : Book) (xs : List Edit) → AllAccepted book xs → (after_from book xs).version ≡ book.version + length xs
accepted_versions book xs h = ap (λ (b : Book). b.version) (after_all_from book xs h) ∙ fold_counts book xs

-- ---- laws of edits

pub refused_edits_change_nothing : RefusedEditsChangeNothing
refused_edits_change_nothing edits x fault h = after_one_more edits x ∙ ap (λ r. result_unwrap_or r (after edits)) h

or_false : (a b : Bool) → (a || b) ≡ false → a ≡ false
or_false true b h = h
or_false false b h = refl

no_fault : (b : Bool) (fault : Refusal) → fault_if b fault ≡ [] → b ≡ false
no_fault true fault h = absurd (cc)
no_fault false fault h = refl

append_nothing : {X : Type 0} (xs ys : List X) → xs ++ ys ≡ [] → (xs ≡ []) × (ys ≡ [])
append_nothing [] ys h = (refl, h)
append_nothing (x ∷ xs) ys h = absurd (cc)

last_nothing : {X : Type 0} (a b c d : List X) → a ++ b ++ c ++ d ≡ [] → d ≡ []
last_nothing a b c d h = (append_nothing (a ++ b ++ c) d h).1

-- what is accepted is not full
pub room_left : (full : ℕ) (book : Book) (x : Edit) → faults_to full book x ≡ [] → nat_le full book.version ≡ false
room_left full book (Create o) h = or_false (nat_le full book.version) _ (no_fault _ Full (last_nothing (layout_faults o) _ _ _ h))
room_left full book (Change o) h = or_false (nat_le full book.version) _ (no_fault _ Full (last_nothing (layout_faults o) _ _ _ h))
room_left full book (Remove kind id) h = no_fault _ Full (append_nothing (fault_if (not (has_id book kind id)) NotThere ++ fault_if (is_named book kind id) InUse) _ h).1

pub accepted_edits_count : AcceptedEditsCount
accepted_edits_count full old new x h =
    let (none, same) = accepted_to full old new x h in
    let room = room_left full old x none in
    (sym (ap (λ (b : Book). b.version) same), grind arith)

-- the same faults where the book is full later
full_later : (full later : ℕ) (book : Book) (x : Edit) → nat_le full book.version ≡ false → nat_le later book.version ≡ false
    → faults_to full book x ≡ faults_to later book x
full_later full later book (Create o) h k = rw (h, k) refl
full_later full later book (Change o) h k = rw (h, k) refl
full_later full later book (Remove kind id) h k = rw (h, k) refl

pub bases_only_refuse : BasesOnlyRefuse
bases_only_refuse base old new x h =
    let (none, same) = accepted_to (full_at base) old new x h in
    let room : nat_le (full_at base) old.version ≡ false = room_left (full_at base) old x none in
    let later : nat_le MOST_VERSION old.version ≡ false = below base old.version room in
    step_faultless MOST_VERSION old x (sym (full_later (full_at base) MOST_VERSION old x room later) ∙ none) ∙ ap Ok same
  where
    below : (base v : ℕ) → nat_le (full_at base) v ≡ false → nat_le MOST_VERSION v ≡ false
    below base v h = grind arith

pub journals_go_on : JournalsGoOn
unfolding after_from
journals_go_on book edits more = fold-append (λ b x. result_unwrap_or (step b x) b) book edits more

-- no version is further above the first than there are edits
pub after_from_versions : (edits : List Edit) (book : Book) → (after_from book edits).version ≤ book.version + length edits
unfolding after_from
after_from_versions [] book = omega arith
after_from_versions (x ∷ xs) book =
    let next = one (step book x) refl in
    let rest = after_from_versions xs (result_unwrap_or (step book x) book) in
    omega (arith, next, rest)
  where
    one : (r : Result Book Refusal) → step book x ≡ r → (result_unwrap_or r book).version ≤ book.version + 1
    one (Ok new) e = let more = (accepted_edits_count MOST_VERSION book new x e).0 in omega (arith, more)
    one (Err f) e = omega arith

pub versions_are_edits : VersionsAreEdits
versions_are_edits edits = let h = after_from_versions edits empty in omega (arith, h)

-- a type's payloads are found under each name of it
same_types : (p q k : PayloadType) → same_type q p ≡ true → same_type p k ≡ same_type q k
same_types p q k h = let same : name_of q ≡ name_of p = (bytes_eq-Decides (name_of q) (name_of p)).0 h in ap (λ n. bytes_eq n (name_of k)) (sym same)

or_true : (b : Bool) → (b || true) ≡ true
or_true true = refl
or_true false = refl

found_too : (ps : List Payload) (p k : PayloadType) → list_any (λ q. same_type q.kind p) ps ≡ true → same_type p k ≡ true → list_any (λ q. same_type q.kind k) ps ≡ true
found_too [] p k h t = absurd (false≢true h)
found_too (q ∷ ps) p k h t = by (same_type q.kind p) refl (λ n. found_too ps p k n t) h
  where
    by : (b : Bool) → same_type q.kind p ≡ b → (list_any (λ r. same_type r.kind p) ps ≡ true → list_any (λ r. same_type r.kind k) ps ≡ true) → (b || list_any (λ r. same_type r.kind p) ps) ≡ true → (same_type q.kind k || list_any (λ r. same_type r.kind k) ps) ≡ true
    by true e rest n = let u : same_type q.kind k ≡ true = sym (same_types p q.kind k e) ∙ t in rw u refl
    by false e rest n = let u = rest n in rw u (or_true (same_type q.kind k))

pub repeats_are_one_entry : RepeatsAreOneEntry
repeats_are_one_entry i p h = (λ kind. by kind (same_type p.kind kind) refl, rw h refl)
  where
    by : (kind : PayloadType) (b : Bool) → same_type p.kind kind ≡ b → (b || list_any (λ q. same_type q.kind kind) i.payloads) ≡ list_any (λ q. same_type q.kind kind) i.payloads
    by kind true e = sym (found_too i.payloads p.kind kind h e)
    by kind false e = refl
