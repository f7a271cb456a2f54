-- What is counted of the events and of the resources stays true as they change.
use Rattle.std.proofs.Common.{◌≡◌, ℕ, ◌+◌, ◌-◌, ◌<◌, ◌≤◌, ◌==◌, nat_lt, Bool, true, false, not, ◌||◌, cond, List, [], ◌∷◌, ◌++◌, map, length, sum_by, Option, Some, None, refl, ap, sym, ◌∙◌, arith, eqb, length-append}
use Rattle.std.proofs.lemmas.List.{length-map}
use Rattle.std.proofs.lemmas.Bool.{lt-ltb}
use Rattle.std.specs.List.{IsDistinct, list_any}
use Rattle.std.specs.Option.{option_map}
use Rattle.std.specs.Str.{bytes_eq}
use Rattle.std.proofs.lemmas.List.Sums.{sum_by-cons, sum_by_push, length-filter, count_by-le-length}
use Rattle.adr_value.specs.declared.limits.TheConstants.{MOST_ENTRIES, MOST_EVENTS}
use Rattle.adr_object.specs.declared.event.Event.{Event}
use Rattle.adr_model.specs.declared.written.Written.{Written}
use Rattle.adr_model.specs.Edits.{entry_count}
use Rattle.adr_model.proofs.Keyed.{event_id}
use Rattle.adr_model.proofs.Lists.{bytes_eq_self}
use Rattle.adr_store.specs.Numbers.{times, one_if, kept_for, all_entries, by_number, IsCounted}
use Rattle.adr_store.proofs.Found.{the_one, without_it, with_it, sum_drop, sum_put, more_number, drop_number, put_number}

abbrev pub number_of_write : Written → ℕ
number_of_write w = w.written

-- a count is at most the length
pub one_if-le : {X : Type 0} (p : X → Bool) (xs : List X) → sum_by (λ x. one_if (p x)) xs ≤ length xs
one_if-le p [] = omega arith
one_if-le p (x ∷ xs) = omega (arith, one (p x), one_if-le p xs, sum_by-cons (λ y. one_if (p y)) x xs)
  where
    one : (b : Bool) → one_if b ≤ 1
    one true = omega arith
    one false = omega arith

-- some pass just where the count is above 0
pub any_counted : {X : Type 0} (p : X → Bool) (xs : List X) → nat_lt 0 (sum_by (λ x. one_if (p x)) xs) ≡ list_any p xs
any_counted p [] = refl
any_counted p (x ∷ xs) = ap (λ n. nat_lt 0 n) (sum_by-cons (λ y. one_if (p y)) x xs) ∙ by (p x) (any_counted p xs)
  where
    by : (b : Bool) → nat_lt 0 (sum_by (λ y. one_if (p y)) xs) ≡ list_any p xs → nat_lt 0 (one_if b + sum_by (λ y. one_if (p y)) xs) ≡ (b || list_any p xs)
    by true e = lt-ltb 0 (1 + sum_by (λ y. one_if (p y)) xs) (omega arith)
    by false e = let none : 0 + sum_by (λ y. one_if (p y)) xs ≡ sum_by (λ y. one_if (p y)) xs = omega arith in ap (λ n. nat_lt 0 n) none ∙ e

length-without : {X : Type 0} (key : X → List ℕ) (id : List ℕ) (xs : List X) → length (without_it key id xs) ≤ length xs
length-without {X = X} key id xs = let t = λ (x : X). not (bytes_eq id (key x)) in omega (arith, length-filter t xs, count_by-le-length t xs)

-- how often each value's owner is named, as the values change
module _ {X : Type 0} (key : X → List ℕ) (owner : X → List ℕ) where
  abbrev pub Told : List (List ℕ × ℕ) → List X → Type 0
  Told m xs = (id : List ℕ) → times m id ≡ sum_by (λ x. one_if (bytes_eq id (owner x))) xs

  pub told_small : (m : List (List ℕ × ℕ)) (xs : List X) → Told m xs → length xs < 4294967296 → (id : List ℕ) → times m id < 4294967296
  told_small m xs t few id = omega (arith, t id, few, one_if-le (λ x. bytes_eq id (owner x)) xs)

  pub told_some : (m : List (List ℕ × ℕ)) (xs : List X) (gone : List ℕ) (old : X) → Told m xs → IsDistinct bytes_eq (map key xs) → the_one key gone xs ≡ Some old
      → (name : List ℕ) → name ≡ owner old → 0 < times m name
  told_some m xs gone old t d h name is =
      let self : one_if (bytes_eq name (owner old)) ≡ 1 = ap one_if (ap (λ k. bytes_eq name k) (sym is) ∙ bytes_eq_self name) in
      omega (arith, t name, sum_drop key gone (λ x. one_if (bytes_eq name (owner x))) old xs d h, self)

  pub told_more : (m n : List (List ℕ × ℕ)) (xs : List X) (w : X) → Told m xs → (name : List ℕ) → name ≡ owner w
      → ((id : List ℕ) → times n id ≡ times m id + one_if (bytes_eq id name)) → Told n (xs ++ w ∷ [])
  told_more m n xs w t name is more id =
      let one : one_if (bytes_eq id name) ≡ one_if (bytes_eq id (owner w)) = ap (λ k. one_if (bytes_eq id k)) is in
      omega (arith, t id, more id, one, sum_by_push (λ x. one_if (bytes_eq id (owner x))) xs w)

  pub told_drop : (m n : List (List ℕ × ℕ)) (xs : List X) (gone : List ℕ) (old : X) → Told m xs → IsDistinct bytes_eq (map key xs) → the_one key gone xs ≡ Some old
      → (name : List ℕ) → name ≡ owner old → ((id : List ℕ) → times n id + one_if (bytes_eq id name) ≡ times m id) → Told n (without_it key gone xs)
  told_drop m n xs gone old t d h name is less id =
      let one : one_if (bytes_eq id name) ≡ one_if (bytes_eq id (owner old)) = ap (λ k. one_if (bytes_eq id k)) is in
      omega (arith, t id, less id, one, sum_drop key gone (λ x. one_if (bytes_eq id (owner x))) old xs d h)

  pub told_put : (m n o : List (List ℕ × ℕ)) (xs : List X) (gone : List ℕ) (old w : X) → Told m xs → IsDistinct bytes_eq (map key xs) → the_one key gone xs ≡ Some old
      → (before : List ℕ) → before ≡ owner old → ((id : List ℕ) → times n id + one_if (bytes_eq id before) ≡ times m id)
      → (name : List ℕ) → name ≡ owner w → ((id : List ℕ) → times o id ≡ times n id + one_if (bytes_eq id name)) → Told o (with_it key gone w xs)
  told_put m n o xs gone old w t d h before was less name is more id =
      let one : one_if (bytes_eq id before) ≡ one_if (bytes_eq id (owner old)) = ap (λ k. one_if (bytes_eq id k)) was in
      let two : one_if (bytes_eq id name) ≡ one_if (bytes_eq id (owner w)) = ap (λ k. one_if (bytes_eq id k)) is in
      omega (arith, t id, less id, more id, one, two, sum_put key gone (λ x. one_if (bytes_eq id (owner x))) w old xs d h)

pub few_more : {X : Type 0} (most : ℕ) (xs : List X) (x : X) → length xs < most → length (xs ++ x ∷ []) ≤ most
few_more most xs x h = omega (arith, h, length-append xs (x ∷ []))

pub few_less : {X : Type 0} (most : ℕ) (key : X → List ℕ) (id : List ℕ) (xs : List X) → length xs ≤ most → length (without_it key id xs) ≤ most
few_less most key id xs h = omega (arith, h, length-without key id xs)

pub few_put : {X : Type 0} (most : ℕ) (key : X → List ℕ) (id : List ℕ) (w : X) (xs : List X) → length xs ≤ most → length (with_it key id w xs) ≤ most
few_put most key id w xs h = omega (arith, h, length-map xs (λ y. cond (bytes_eq id (key y)) w y))

-- the events by their numbers

mapped : (b : Bool) (w : Written) (o : Option Written) → option_map (λ v. v.event) (cond b (Some w) o) ≡ cond b (Some w.event) (option_map (λ v. v.event) o)
mapped true w o = refl
mapped false w o = refl

emptied : (b : Bool) (o : Option Written) → option_map (λ v. v.event) (cond b None o) ≡ cond b None (option_map (λ v. v.event) o)
emptied true o = refl
emptied false o = refl

module _ where
  abbrev pub Listed : List (List ℕ × Event) → List Written → Type 0
  Listed m xs = (n : ℕ) → kept_for m n ≡ option_map (λ w. w.event) (by_number xs n)

  pub listed_more : (m n : List (List ℕ × Event)) (xs : List Written) (w : Written) → Listed m xs → by_number xs w.written ≡ None
      → ((k : ℕ) → kept_for n k ≡ cond (w.written == k) (Some w.event) (kept_for m k)) → Listed n (xs ++ w ∷ [])
  listed_more m n xs w l fresh more k =
      more k ∙ ap (λ o. cond (w.written == k) (Some w.event) o) (l k) ∙ sym (mapped (w.written == k) w (by_number xs k))
      ∙ ap (option_map (λ v. v.event)) (sym (more_number number_of_write w xs fresh k))

  pub listed_drop : (m n : List (List ℕ × Event)) (xs : List Written) (gone : List ℕ) (old : Written) → Listed m xs → IsDistinct bytes_eq (map event_id xs)
      → IsDistinct eqb (map number_of_write xs) → the_one event_id gone xs ≡ Some old
      → ((k : ℕ) → kept_for n k ≡ cond (old.written == k) None (kept_for m k)) → Listed n (without_it event_id gone xs)
  listed_drop m n xs gone old l d g h less k =
      less k ∙ ap (λ o. cond (old.written == k) None o) (l k) ∙ sym (emptied (old.written == k) (by_number xs k))
      ∙ ap (option_map (λ v. v.event)) (sym (drop_number number_of_write event_id gone old xs d g h k))

  pub listed_put : (m n o : List (List ℕ × Event)) (xs : List Written) (gone : List ℕ) (old w : Written) → Listed m xs → IsDistinct bytes_eq (map event_id xs)
      → IsDistinct eqb (map number_of_write xs) → the_one event_id gone xs ≡ Some old → by_number xs w.written ≡ None
      → ((k : ℕ) → kept_for n k ≡ cond (old.written == k) None (kept_for m k))
      → ((k : ℕ) → kept_for o k ≡ cond (w.written == k) (Some w.event) (kept_for n k)) → Listed o (with_it event_id gone w xs)
  listed_put m n o xs gone old w l d g h fresh less more k =
      more k
      ∙ ap (λ p. cond (w.written == k) (Some w.event) p) (less k ∙ ap (λ p. cond (old.written == k) None p) (l k) ∙ sym (emptied (old.written == k) (by_number xs k)))
      ∙ sym (mapped (w.written == k) w (cond (old.written == k) None (by_number xs k)))
      ∙ ap (option_map (λ v. v.event)) (sym (put_number number_of_write event_id gone w old xs d g h fresh k))

-- what is said of a number and an event is said of those that are equal
pub renamed : (u v : List (List ℕ × Event)) (n m : ℕ) (e f : Event) → n ≡ m → e ≡ f
    → ((i : ℕ) → kept_for v i ≡ cond (n == i) (Some e) (kept_for u i)) → (i : ℕ) → kept_for v i ≡ cond (m == i) (Some f) (kept_for u i)
renamed u v n m e f p q h i = h i ∙ ap (λ k. cond (k == i) (Some e) (kept_for u i)) p ∙ ap (λ x. cond (m == i) (Some x) (kept_for u i)) q

pub cleared : (u v : List (List ℕ × Event)) (n m : ℕ) → n ≡ m
    → ((i : ℕ) → kept_for v i ≡ cond (n == i) None (kept_for u i)) → (i : ℕ) → kept_for v i ≡ cond (m == i) None (kept_for u i)
cleared u v n m p h i = h i ∙ ap (λ k. cond (k == i) None (kept_for u i)) p

-- all that is counted of the events

abbrev pub program_of : Written → List ℕ
program_of w = w.event.program_id

abbrev pub count_of : Written → ℕ
count_of w = entry_count w.event

module _ (xs : List Written) where
  pub counted_more : (m n : List (List ℕ × ℕ)) (k j : ℕ) (u v : List (List ℕ × Event)) (w : Written) → IsCounted xs m k u
      → by_number xs w.written ≡ None → length xs < MOST_EVENTS → j ≡ k + count_of w → all_entries xs + count_of w ≤ MOST_ENTRIES
      → (name : List ℕ) → name ≡ program_of w → ((id : List ℕ) → times n id ≡ times m id + one_if (bytes_eq id name))
      → ((i : ℕ) → kept_for v i ≡ cond (w.written == i) (Some w.event) (kept_for u i)) → IsCounted (xs ++ w ∷ []) n j v
  counted_more m n k j u v w c fresh few sum fits name is more also = record {
    naming = told_more event_id program_of m n xs w c.naming name is more;
    counted = omega (arith, sum, c.counted, sum_by_push count_of xs w);
    written = listed_more u v xs w c.written fresh also;
    few = few_more MOST_EVENTS xs w few;
    within = omega (arith, sum, fits, c.counted);
  }

  module _ (gone : List ℕ) (old : Written) (d : IsDistinct bytes_eq (map event_id xs)) (h : the_one event_id gone xs ≡ Some old) where
    pub counted_some : (m : List (List ℕ × ℕ)) (k : ℕ) (u : List (List ℕ × Event)) → IsCounted xs m k u → (name : List ℕ) → name ≡ program_of old → 0 < times m name
    counted_some m k u c name is = told_some event_id program_of m xs gone old c.naming d h name is

    pub counted_within : (m : List (List ℕ × ℕ)) (k : ℕ) (u : List (List ℕ × Event)) → IsCounted xs m k u → count_of old ≤ k
    counted_within m k u c = omega (arith, c.counted, sum_drop event_id gone count_of old xs d h)

    pub counted_beside : (m : List (List ℕ × ℕ)) (k : ℕ) (u : List (List ℕ × Event)) → IsCounted xs m k u → k - count_of old ≡ all_entries (without_it event_id gone xs)
    counted_beside m k u c = omega (arith, c.counted, sum_drop event_id gone count_of old xs d h)

    pub counted_drop : (m n : List (List ℕ × ℕ)) (k j : ℕ) (u v : List (List ℕ × Event)) → IsCounted xs m k u → IsDistinct eqb (map number_of_write xs)
        → j ≡ k - count_of old
        → (name : List ℕ) → name ≡ program_of old → ((id : List ℕ) → times n id + one_if (bytes_eq id name) ≡ times m id)
        → ((i : ℕ) → kept_for v i ≡ cond (old.written == i) None (kept_for u i)) → IsCounted (without_it event_id gone xs) n j v
    counted_drop m n k j u v c apart sum name is less also = record {
      naming = told_drop event_id program_of m n xs gone old c.naming d h name is less;
      counted = sum ∙ counted_beside m k u c;
      written = listed_drop u v xs gone old c.written d apart h also;
      few = few_less MOST_EVENTS event_id gone xs c.few;
      within = omega (arith, sum, c.within);
    }

    pub counted_put : (m n o : List (List ℕ × ℕ)) (k j : ℕ) (u v t : List (List ℕ × Event)) (w : Written) → IsCounted xs m k u → IsDistinct eqb (map number_of_write xs)
        → by_number xs w.written ≡ None → all_entries (without_it event_id gone xs) + count_of w ≤ MOST_ENTRIES → j ≡ k - count_of old + count_of w
        → (before : List ℕ) → before ≡ program_of old → ((id : List ℕ) → times n id + one_if (bytes_eq id before) ≡ times m id)
        → (name : List ℕ) → name ≡ program_of w → ((id : List ℕ) → times o id ≡ times n id + one_if (bytes_eq id name))
        → ((i : ℕ) → kept_for v i ≡ cond (old.written == i) None (kept_for u i))
        → ((i : ℕ) → kept_for t i ≡ cond (w.written == i) (Some w.event) (kept_for v i)) → IsCounted (with_it event_id gone w xs) o j t
    counted_put m n o k j u v t w c apart fresh fits sum before was less name is more first then = record {
      naming = told_put event_id program_of m n o xs gone old w c.naming d h before was less name is more;
      counted = omega (arith, sum, counted_within m k u c, c.counted, sum_put event_id gone count_of w old xs d h);
      written = listed_put u v t xs gone old w c.written d apart h fresh first then;
      few = few_put MOST_EVENTS event_id gone w xs c.few;
      within = omega (arith, sum, fits, counted_beside m k u c);
    }
