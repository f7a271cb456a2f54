-- The slots of all places, and the groups that are built for them.
use Rattle.std.proofs.Common.{◌≡◌, ℕ, zero, suc, ◌+◌, ◌<◌, ◌⊎◌, inl, inr, true, false, List, [], ◌∷◌, ◌++◌, length, slice_get, map, Option, Some, None, refl, ap, sym, subst, ◌∙◌, arith}
use Rattle.std.specs.Borrow.{Bor}
use Rattle.std.specs.List.{All, AllZip, Contains, range_with_len}
use Rattle.std.specs.Option.{option_and_then, option_map_or}
use Rattle.std.specs.Prelude.{⊤, ◌-◌, ◌≤◌, Result, Ok, Err, IfOk, MatchResult}
use Rattle.std.proofs.lemmas.Slice.Zip.{AllZip-long}
use Rattle.rayon.specs.Numbers.{nat_range}
use Rattle.rayon.specs.NumberLaws.{run-length}
use Rattle.rayon.proofs.ListFacts.{AllZip-through, IfOk-then}
use Rattle.rayon.proofs.ToStd.{nat_range-All}
use Rattle.adr_refusal.specs.Answer.{OnlyNoMemory}
use Rattle.adr_refusal.specs.declared.refusal.Refusal.{Refusal}
use Rattle.adr_object.specs.declared.party.Resource.{Resource}
use Rattle.adr_model.specs.declared.entry.Tie.{Tie}
use Rattle.adr_model.specs.declared.written.Written.{Written}
use Rattle.adr_model.specs.Book.{Book}
use Rattle.adr_model.specs.Governor.{applies_to}
use Rattle.adr_model.specs.Lists.{In}
use Rattle.adr_audience.specs.Keys.{AreKeysOf, Keys}
use Rattle.adr_lines.specs.Right.{has_number}
use Rattle.adr_group.specs.Group.{IsRightOf, Lines}
use Rattle.adr_schedule.specs.Seating.{group_at, has_at, AreSeatedFor, Seating}
use Rattle.adr_schedule.proofs.Shifts.{place_inside, place_there}
use Rattle.adr_regroup.specs.Party.{AreWritesAt}
use Rattle.adr_desk.specs.Bulk.{AreFoundAt, ArePlanned, AreWritesFrom, IsBuilt, IsGroupFor}
use Rattle.adr_desk.proofs.Collected.{answers_collected, refusal_collected}

-- ---- one place after the other

none_at : {X : Type 0} (p : ℕ) (x : X) → slice_get [] p ≡ Some x → ⊥
none_at p x h = absurd (cc)

last_or_before : (xs : List ℕ) (y p x : ℕ) → slice_get (xs ++ y ∷ []) p ≡ Some x → (slice_get xs p ≡ Some x) ⊎ ((p ≡ length xs) × (y ≡ x))
last_or_before [] y zero x h = let e : Some y ≡ Some x = h in inr (refl, cc e)
last_or_before [] y (suc p) x h = absurd (cc)
last_or_before (z ∷ zs) y zero x h = inl h
last_or_before (z ∷ zs) y (suc p) x h = by (last_or_before zs y p x h)
  where
    by : (slice_get zs p ≡ Some x) ⊎ ((p ≡ length zs) × (y ≡ x)) → (slice_get (z ∷ zs) (suc p) ≡ Some x) ⊎ ((suc p ≡ length (z ∷ zs)) × (y ≡ x))
    by (inl e) = inl e
    by (inr e) = inr (ap (λ n. suc n) e.0, e.1)

count_last : (xs : List ℕ) (y : ℕ) → length (xs ++ y ∷ []) ≡ length xs + 1
count_last [] y = refl
count_last (x ∷ xs) y = omega (arith, count_last xs y)

pub none_planned : (book : Book) (slots : List ℕ) (jobs : List (List ℕ)) → slots ≡ [] → ArePlanned book 0 slots jobs
none_planned book slots jobs e = (ap (λ xs. length xs) e, λ place slot h. absurd (none_at place slot (sym (ap (λ xs. slice_get xs place) e) ∙ h)))

next_planned : (book : Book) (place : ℕ) (slots more : List ℕ) (jobs after : List (List ℕ)) (slot : ℕ) (numbers : List ℕ) → ArePlanned book place slots jobs
    → more ≡ slots ++ slot ∷ [] → slice_get after slot ≡ Some numbers → AreWritesAt book place numbers
    → ((s : ℕ) (ns : List ℕ) → slice_get jobs s ≡ Some ns → slice_get after s ≡ Some ns) → ArePlanned book (place + 1) more after
next_planned book place slots more jobs after slot numbers old made here are kept = (
  ap (λ xs. length xs) made ∙ count_last slots slot ∙ ap (λ n. n + 1) old.0,
  λ p s h. by p s (last_or_before slots slot p s (sym (ap (λ xs. slice_get xs p) made) ∙ h)),
)
  where
    by : (p s : ℕ) → (slice_get slots p ≡ Some s) ⊎ ((p ≡ length slots) × (slot ≡ s)) → (ns : List ℕ) × (slice_get after s ≡ Some ns) × AreWritesAt book p ns
    by p s (inl k) = let r = old.1 p s k in (r.0, kept s r.0 r.1, r.2)
    by p s (inr e) =
        (numbers, ap (λ n. slice_get after n) (sym e.1) ∙ here, subst (λ n. AreWritesAt book n numbers) (sym (e.0 ∙ old.0)) are)

-- the places so far have their slots, and the writes of the others are left, in order, so many in all
abbrev pub ArePlannedBefore : Book → ℕ → List ℕ → List (List ℕ) → ℕ → List (List ℕ) → Type 0
ArePlannedBefore book count slots jobs left rest =
    ArePlanned book (length slots) slots jobs × (length slots + left ≡ count) × AreWritesFrom book (length slots) left rest

pub one_fewer_left : (book : Book) (all : ℕ) (slots more : List ℕ) (jobs after rest others : List (List ℕ)) (left fewer slot : ℕ) (numbers : List ℕ) → ArePlannedBefore book all slots jobs left rest
    → rest ≡ numbers ∷ others → fewer + 1 ≡ left → more ≡ slots ++ slot ∷ [] → slice_get after slot ≡ Some numbers
    → ((s : ℕ) (ns : List ℕ) → slice_get jobs s ≡ Some ns → slice_get after s ≡ Some ns) → ArePlannedBefore book all more after fewer others
one_fewer_left book all slots more jobs after rest others left fewer slot numbers old taken less made here kept =
    let count = ap (λ xs. length xs) made ∙ count_last slots slot in
    let next : left ≡ suc fewer = omega (arith, less) in
    let are : AreWritesFrom book (length slots) (suc fewer) (numbers ∷ others) =
    subst (λ n. AreWritesFrom book (length slots) n (numbers ∷ others)) next (subst (AreWritesFrom book (length slots) left) taken old.2) in
    let whole = old.1 in (
      subst (λ n. ArePlanned book n more after) (sym count) (next_planned book (length slots) slots more jobs after slot numbers old.0 made here are.0 kept),
      omega (arith, count, less, whole),
      subst (λ n. AreWritesFrom book n fewer others) (sym count) are.1,
    )

pub none_left : (book : Book) (count : ℕ) (slots : List ℕ) (jobs rest : List (List ℕ)) (left : ℕ) → ArePlannedBefore book count slots jobs left rest → left ≡ 0 → ArePlanned book count slots jobs
none_left book count slots jobs rest left p none = let whole = p.1 in subst (λ n. ArePlanned book n slots jobs) (omega (arith, none, whole)) p.0

-- ---- groups beside their writes

module _ {X Y : Type 0} (P : X → Y → Type 0) where
  pub zip_there : (xs : List X) (ys : List Y) (i : ℕ) (x : X) → AllZip P xs ys → slice_get xs i ≡ Some x → (y : Y) × (slice_get ys i ≡ Some y) × P x y
  zip_there [] ys i x z h = absurd (none_at i x h)
  zip_there (a ∷ xs) [] i x z h = absurd z
  zip_there (a ∷ xs) (b ∷ ys) zero x z h = let e : Some a ≡ Some x = h in let same : a ≡ x = cc e in (b, refl, subst (λ q. P q b) same z.0)
  zip_there (a ∷ xs) (b ∷ ys) (suc i) x z h = zip_there xs ys i x z.1 h

-- each slot has a group
pub slot_within : (tie : Tie) (book : Book) (reached : ℕ) (slots : List ℕ) (jobs : List (List ℕ)) (groups : List Lines) → ArePlanned book reached slots jobs
    → AllZip (IsGroupFor tie book.events) jobs groups → (place slot : ℕ) → slice_get slots place ≡ Some slot → slot < length groups
slot_within tie book reached slots jobs groups p z place slot h =
    let w = p.1 place slot h in
    let g = zip_there (IsGroupFor tie book.events) jobs groups slot w.0 z w.1 in
    place_inside groups slot g.0 g.1

module _ (tie : Tie) (book : Book) (slots : List ℕ) (jobs : List (List ℕ)) (groups : List Lines) (s : Seating)
    (planned : ArePlanned book (length book.resources) slots jobs) (built : AllZip (IsGroupFor tie book.events) jobs groups)
    (count : length s.seats ≡ length slots)
    (placed : (place : ℕ) → group_at s place ≡ option_and_then (λ slot. slice_get groups slot) (slice_get slots place)) where
  -- what is known of the group of a place
  record IsSeatedAt (place : ℕ) (g : Lines) : Type 0 where
    pub writes : AreWritesAt book place g.writes
    pub right : IsRightOf tie book.events g

  at_slot : (place slot : ℕ) → slice_get slots place ≡ Some slot → (g : Lines) × (group_at s place ≡ Some g) × IsSeatedAt place g
  at_slot place slot h =
      let w = planned.1 place slot h in
      let g = zip_there (IsGroupFor tie book.events) jobs groups slot w.0 built w.1 in (
        g.0,
        placed place ∙ ap (λ o. option_and_then (λ i. slice_get groups i) o) h ∙ g.1,
        record { writes = subst (AreWritesAt book place) (sym g.2.0) w.2; right = g.2.1 },
      )

  known_at : (place : ℕ) (g : Lines) → group_at s place ≡ Some g → IsSeatedAt place g
  known_at place g h = by (slice_get slots place) refl
    where
      by : (o : Option ℕ) → slice_get slots place ≡ o → IsSeatedAt place g
      by None e = absurd (cc (sym (placed place ∙ ap (λ o. option_and_then (λ i. slice_get groups i) o) e) ∙ h))
      by (Some slot) e =
          let r = at_slot place slot e in
          let same : Some r.0 ≡ Some g = sym r.1 ∙ h in
          let one : r.0 ≡ g = cc same in
          subst (IsSeatedAt place) one r.2

  has_of : (place n : ℕ) (g : Lines) → group_at s place ≡ Some g → has_at s place n ≡ has_number g.writes n
  has_of place n g h = ap (λ o. option_map_or (λ (x : Lines). has_number x.writes n) o false) h

  pub all_seated : AreSeatedFor tie book s
  all_seated = record {
    count = count ∙ planned.0;
    right = λ place g h. (known_at place g h).right;
    writes = writes;
    known = known;
  }
    where
      writes : (place : ℕ) (r : Resource) (w : Written) → slice_get book.resources place ≡ Some r → In w book.events → has_at s place w.written ≡ applies_to book r w
      writes place r w h m =
          let inside = place_inside book.resources place r h in
          let same = planned.0 in
          let slot = place_there slots place (omega (arith, inside, same)) in
          let g = at_slot place slot.0 slot.1 in
          has_of place w.written g.0 g.1 ∙ g.2.writes.has r w h m

      known : (place n : ℕ) → has_at s place n ≡ true → (w : Written) × In w book.events × (w.written ≡ n)
      known place n h = by (group_at s place) refl
        where
          by : (o : Option Lines) → group_at s place ≡ o → (w : Written) × In w book.events × (w.written ≡ n)
          by None e = absurd (cc (sym (ap (λ o. option_map_or (λ (x : Lines). has_number x.writes n) o false) e) ∙ h))
          by (Some g) e = (known_at place g e).writes.known n (sym (has_of place n g e) ∙ h)

-- ---- what many threads built

-- what the closure has is what it was given
module _ (t u : Tie) (es fs : List Written) (same_tie : t ≡ u) (same_events : es ≡ fs) {V : Type 0} (items : V → List Lines) (jobs : List (List ℕ))
    (zs : List (Bor (List ℕ))) (rs : List (Result Lines Refusal)) (result : Result V Refusal) (same : map (λ z. z.now) zs ≡ jobs)
    (each : AllZip (λ z r. IsBuilt t es z.now r) zs rs)
    (h : MatchResult result (λ v. (ys : List Lines) × (rs ≡ map Ok ys) × (items v ≡ ys)) (λ e. Contains rs (Err e))) where
  pub built_groups : IfOk result (λ v. AllZip (IsGroupFor u fs) jobs (items v))
  built_groups =
      IfOk-then result _ _ (answers_collected (λ z g. IsGroupFor t es z.now g) items zs rs each result h) (λ v k.
      subst (λ x. AllZip (IsGroupFor x fs) jobs (items v)) same_tie
      (subst (λ x. AllZip (IsGroupFor t x) jobs (items v)) same_events
      (subst (λ xs. AllZip (IsGroupFor t es) xs (items v)) same
      (AllZip-through (λ z. z.now) (λ z g. IsGroupFor t es z.now g) (IsGroupFor t es) (λ z g made. made) zs (items v) k))))

  pub built_refusal : OnlyNoMemory result
  built_refusal = refusal_collected (λ z g. IsGroupFor t es z.now g) items zs rs each result h

-- ---- what many threads asked

-- the closure may be called at each place
pub all_ready : (b book : Book) (ks keys : Keys) (first last start end : ℕ) → b ≡ book → ks ≡ keys → first ≡ start → last ≡ end → end ≤ length book.resources → AreKeysOf book keys
    → All (λ place. ((place < length b.resources) × AreKeysOf b ks) × ((y : Result (List ℕ) Refusal) → AreFoundAt b place y → ⊤)) (nat_range first last)
all_ready b book ks keys first last start end same_book same_keys at_first at_last inside are =
    rw (same_book, same_keys, at_first, at_last)
    (nat_range-All (λ place. ((place < length book.resources) × AreKeysOf book keys) × ((y : Result (List ℕ) Refusal) → AreFoundAt book place y → ⊤)) start end
    (λ place low high. ((omega (arith, inside, high), are), λ y asked. tt)))

module _ (b book : Book) (same_book : b ≡ book) (first last start end : ℕ) (at_first : first ≡ start) (at_last : last ≡ end) {V : Type 0} (items : V → List (List ℕ))
    (places : List ℕ) (rs : List (Result (List ℕ) Refusal)) (result : Result V Refusal) (same : places ≡ nat_range first last) (each : AllZip (AreFoundAt b) places rs)
    (h : MatchResult result (λ v. (ys : List (List ℕ)) × (rs ≡ map Ok ys) × (items v ≡ ys)) (λ e. Contains rs (Err e))) where
  pub asked_writes : IfOk result (λ v. AreWritesFrom book start (end - start) (items v))
  asked_writes =
      IfOk-then result _ _ (answers_collected (AreWritesAt b) items places rs each result h) (λ v k.
      subst (λ x. AllZip (AreWritesAt x) (nat_range start end) (items v)) same_book
      (subst (λ xs. AllZip (AreWritesAt b) xs (items v)) (same ∙ (λ i. nat_range (at_first i) (at_last i))) k))

  pub asked_refusal : OnlyNoMemory result
  asked_refusal = refusal_collected (AreWritesAt b) items places rs each result h

-- what was found is as many as was asked for
pub all_asked : (book : Book) (start count : ℕ) (all : List (List ℕ)) → AreWritesFrom book start count all → length all ≡ count
all_asked book start count all are = AllZip-long (AreWritesAt book) (range_with_len start count) all are ∙ run-length start count

-- ---- a part after the other

pub part_planned : (book : Book) (start end : ℕ) (slots more : List ℕ) (jobs after all : List (List ℕ)) → start ≡ length slots → start ≤ end
    → AreWritesFrom book start (end - start) all → ArePlanned book (length slots) slots jobs
    → ((b : Book) → ArePlanned b (length slots) slots jobs → AreWritesFrom b (length slots) (length all) all → ArePlanned b (length slots + length all) more after)
    → ArePlanned book end more after
part_planned book start end slots more jobs after all reached low are before given =
    let many = all_asked book start (end - start) all are in
    subst (λ n. ArePlanned book n more after) (omega (arith, reached, low, many))
    (given book before (subst (λ n. AreWritesFrom book n (length all) all) reached (subst (λ n. AreWritesFrom book start n all) (sym many) are)))
