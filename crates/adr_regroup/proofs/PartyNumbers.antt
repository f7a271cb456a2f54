-- The numbers of the writes of the events that apply to a resource.
use Rattle.std.proofs.Common.{◌≡◌, ◌==◌, ◌||◌, inl, inr, ℕ, Bool, true, false, List, [], ◌∷◌, map, refl, ap, sym, ◌∙◌, eqb-true, eq-eqb}
use Rattle.std.proofs.lemmas.Bool.{both_ways, or_left, or_right, false≢true}
use Rattle.adr_object.specs.declared.party.Resource.{Resource}
use Rattle.adr_object.specs.declared.party.Ven.{Ven}
use Rattle.adr_model.specs.declared.written.Written.{Written}
use Rattle.adr_model.specs.Book.{Book}
use Rattle.adr_model.specs.Lists.{In}
use Rattle.adr_model.proofs.Lists.{In-filter, In-from_filter}
use Rattle.adr_audience.specs.Asks.{applies_with, applying_writes}
use Rattle.adr_lines.specs.Right.{has_number}
use Rattle.adr_regroup.specs.Party.{AreWritesWith}

abbrev pub numbers_of : List Written → List ℕ
numbers_of events = map (λ w. w.written) events

has_there : (events : List Written) (w : Written) → In w events → has_number (numbers_of events) w.written ≡ true
has_there [] w m = absurd m
has_there (x ∷ xs) w (inl e) = or_left (x.written == w.written) (has_number (numbers_of xs) w.written) (eq-eqb x.written w.written (ap (λ (z : Written). z.written) e))
has_there (x ∷ xs) w (inr m) = or_right (x.written == w.written) (has_number (numbers_of xs) w.written) (has_there xs w m)

from_there : (events : List Written) (n : ℕ) → has_number (numbers_of events) n ≡ true → (w : Written) × In w events × (w.written ≡ n)
from_there [] n h = absurd (false≢true h)
from_there (x ∷ xs) n h = by (x.written == n) refl h (from_there xs n)
  where
    by : (b : Bool) → (x.written == n) ≡ b → (b || has_number (numbers_of xs) n) ≡ true → (has_number (numbers_of xs) n ≡ true → (w : Written) × In w xs × (w.written ≡ n))
        → (w : Written) × In w (x ∷ xs) × (w.written ≡ n)
    by true e k later = (x, inl refl, eqb-true x.written n e)
    by false e k later = let r = later k in (r.0, inr r.1, r.2)

module _ (book : Book) (one : (w v : Written) → In w book.events → In v book.events → w.written ≡ v.written → w ≡ v) (r : Resource) (v : Ven) where
  abbrev of_them : List ℕ
  of_them = numbers_of (applying_writes book r v)

  has_them : (w : Written) → In w book.events → has_number of_them w.written ≡ applies_with book r v w.event
  has_them w m = by (applies_with book r v w.event) refl (has_number of_them w.written) refl
    where
      by : (a : Bool) → applies_with book r v w.event ≡ a → (h : Bool) → has_number of_them w.written ≡ h → has_number of_them w.written ≡ applies_with book r v w.event
      by true a true h = h ∙ sym a
      by false a false h = h ∙ sym a
      by true a false h =
          absurd (both_ways (has_number of_them w.written) h (has_there (applying_writes book r v) w (In-filter (λ x. applies_with book r v x.event) book.events w m a)))
      by false a true h =
          let f = from_there (applying_writes book r v) w.written h in
          let k = In-from_filter (λ x. applies_with book r v x.event) book.events f.0 f.1 in
          absurd (both_ways (applies_with book r v w.event) a (ap (λ (x : Written). applies_with book r v x.event) (sym (one f.0 w k.0 m f.2)) ∙ k.1))

  pub written_with : (writes : List ℕ) → ((n : ℕ) → has_number writes n ≡ has_number of_them n) → AreWritesWith book r v writes
  written_with writes is = record {
    has = λ w m. is w.written ∙ has_them w m;
    known = λ n h.
        let f = from_there (applying_writes book r v) n (sym (is n) ∙ h) in
        (f.0, (In-from_filter (λ x. applies_with book r v x.event) book.events f.0 f.1).0, f.2);
  }
