-- Jobs that are done one after the other, and windows that are alike.
use Rattle.std.proofs.Common.{◌≡◌, ℕ, ℤ, ◌+◌, List, [], ◌∷◌, ◌++◌, ◌||◌, length, refl, ap, sym, subst, ◌∙◌, append-nil}
use Rattle.std.specs.List.{AllZip}
use Rattle.std.proofs.lemmas.List.Folds.{list_any-append}
use Rattle.adr_time.specs.Spans.{covers}
use Rattle.adr_value.specs.declared.payload.PayloadType.{PayloadType}
use Rattle.adr_model.specs.declared.entry.Entry.{Entry}
use Rattle.adr_lines.specs.declared.grouped.TypeEntries.{TypeEntries}
use Rattle.adr_lines.specs.Grouped.{any_covers_at, entries_under}
use Rattle.adr_lines.specs.declared.indexes.Indexes.{Indexes}
use Rattle.adr_lines.specs.Indexes.{own_entries, under}
use Rattle.adr_group.specs.Jobs.{AreAlike}
use Rattle.adr_group.specs.Repair.{most_inside, most_repaired}
use Rattle.adr_group.proofs.Turns.{most_both, under_both}

-- ---- one job after the other

pub all_done : {X D : Type 0} (R : X → D → Type 0) (all rest : List X) (done : List D) → rest ≡ []
    → ((ys : List D) → AllZip R rest ys → AllZip R all (done ++ ys)) → AllZip R all done
all_done R all rest done none before = subst (λ l. AllZip R all l) (append-nil done) (before [] (subst (λ l. AllZip R l []) (sym none) tt))

-- ---- windows that are alike

pub alike_self : (windows : List TypeEntries) → AreAlike windows windows
alike_self windows = record { under = λ k. refl; covers = λ k t. refl; cost = λ writes indexes. refl }

pub alike_passes : (a b c : List TypeEntries) → AreAlike a b → AreAlike b c → AreAlike a c
alike_passes a b c x y = record { under = λ k. x.under k ∙ y.under k; covers = λ k t. x.covers k t ∙ y.covers k t; cost = λ writes indexes. x.cost writes indexes ∙ y.cost writes indexes }

-- what one group of windows covers and costs is what its type and its entries do
one_alike : (g h : TypeEntries) → g.payload_type ≡ h.payload_type → g.entries.items ≡ h.entries.items → (k : PayloadType) → own_entries g k ≡ own_entries h k
one_alike g h kind entries k = rw (kind, entries) refl

pub copied_alike : (front more : List TypeEntries) (g h : TypeEntries) → h.payload_type ≡ g.payload_type → h.entries.items ≡ g.entries.items
    → AreAlike (front ++ h ∷ more) (front ++ g ∷ more)
copied_alike front more g h kind entries = record { under = λ k. same_under k front; covers = λ k t. ap (λ (es : List Entry). any_covers_at es t) (same_under k front); cost = λ writes indexes. same_cost writes indexes front }
  where
    same_under : (k : PayloadType) (xs : List TypeEntries) → entries_under (xs ++ h ∷ more) k ≡ entries_under (xs ++ g ∷ more) k
    same_under k [] = ap (λ (es : List Entry). es ++ entries_under more k) (one_alike h g kind entries k)
    same_under k (x ∷ xs) = ap (λ (es : List Entry). own_entries x k ++ es) (same_under k xs)

    same_cost : (writes : List ℕ) (indexes : Indexes) (xs : List TypeEntries) → most_repaired (xs ++ h ∷ more) writes indexes ≡ most_repaired (xs ++ g ∷ more) writes indexes
    same_cost writes indexes [] = ap (λ n. n + most_repaired more writes indexes) (ap (λ k. most_inside writes (under indexes k) h.entries.items) kind ∙ ap (λ es. most_inside writes (under indexes g.payload_type) es) entries)
    same_cost writes indexes (x ∷ xs) = ap (λ n. most_inside writes (under indexes x.payload_type) x.entries.items + n) (same_cost writes indexes xs)

-- and then those of a second list
pub both_alike : (a b c d : List TypeEntries) → AreAlike a b → AreAlike c (a ++ d) → AreAlike c (b ++ d)
both_alike a b c d x y = record {
  under = λ k. y.under k ∙ (under_both a d k ∙ (ap (λ (es : List Entry). es ++ entries_under d k) (x.under k) ∙ sym (under_both b d k)));
  covers = λ k t. y.covers k t ∙ any_both a d k t ∙ ap (λ p. p || any_covers_at (entries_under d k) t) (x.covers k t) ∙ sym (any_both b d k t);
  cost = λ writes indexes. y.cost writes indexes ∙ most_both a d writes indexes ∙ ap (λ n. n + most_repaired d writes indexes) (x.cost writes indexes) ∙ sym (most_both b d writes indexes);
}
  where
    any_both : (xs ys : List TypeEntries) (k : PayloadType) (t : ℤ) → any_covers_at (entries_under (xs ++ ys) k) t ≡ (any_covers_at (entries_under xs k) t || any_covers_at (entries_under ys k) t)
    any_both xs ys k t = ap (λ (es : List Entry). any_covers_at es t) (under_both xs ys k) ∙ list_any-append (λ e. covers e.span t) (entries_under xs k) (entries_under ys k)

pub none_left : {X : Type 0} (xs : List X) → length xs ≡ 0 → xs ≡ []
none_left [] h = refl
none_left (x ∷ xs) h = absurd (cc)
