-- The order of ranks, and the least rank of a list of entries.
use Rattle.std.proofs.Common.{◌≡◌, Bool, true, false, cond, List, [], ◌∷◌, ◌++◌, Option, Some, None, filter, if◌then◌else◌, refl, sym, ◌∙◌, ap, ℤ}
use Rattle.std.specs.Option.{option_map, option_map_or}
use Rattle.adr_time.specs.Spans.{covers}
use Rattle.adr_model.specs.declared.entry.Entry.{Entry}
use Rattle.adr_model.specs.declared.entry.Rank.{Rank}
use Rattle.adr_model.specs.Rank.{goes_before}
use Rattle.adr_model.proofs.Order.{going_before_passes_on, not_going_before_passes_on}
use Rattle.adr_model.specs.Governor.{first_of, winner_of, winner_at}
use Rattle.adr_timeline.specs.Steps.{lesser, rank_at, winner_of_rank}

-- of three, in either grouping
lesser_of_three : (a b c : Rank) (x y : Bool) → goes_before b a ≡ x → goes_before c b ≡ y → lesser (Some (if x then b else a)) (Some c) ≡ lesser (Some a) (Some (if y then c else b))
lesser_of_three a b c true true p q = rw (q, going_before_passes_on c b a q p)
lesser_of_three a b c true false p q = rw (q, p)
lesser_of_three a b c false true p q = refl
lesser_of_three a b c false false p q = rw (p, not_going_before_passes_on c b a q p)

pub lesser_assoc : (a b c : Option Rank) → lesser (lesser a b) c ≡ lesser a (lesser b c)
lesser_assoc None b c = refl
lesser_assoc (Some a) None c = refl
lesser_assoc (Some a) (Some b) None = refl
lesser_assoc (Some a) (Some b) (Some c) = lesser_of_three a b c (goes_before b a) (goes_before c b) refl refl

pub lesser_none : (a : Option Rank) → lesser a None ≡ a
lesser_none None = refl
lesser_none (Some a) = refl

rank_of_chosen : (e f : Entry) (x : Bool) → (if x then f else e).rank ≡ (if x then f.rank else e.rank)
rank_of_chosen e f true = refl
rank_of_chosen e f false = refl

first_cons : (e : Entry) (o : Option Entry) → ◌≡◌ {A = Option Rank} (Some (option_map_or (λ (f : Entry). if goes_before f.rank e.rank then f else e) o e).rank) (lesser (Some e.rank) (option_map (λ (f : Entry). f.rank) o))
first_cons e None = refl
first_cons e (Some f) = ap (λ (r : Rank). Some r) (rank_of_chosen e f (goes_before f.rank e.rank))

-- one entry more
pub rank_cons : (e : Entry) (es : List Entry) (t : ℤ) → rank_at (e ∷ es) t ≡ lesser (if covers e.span t then Some e.rank else None) (rank_at es t)
rank_cons e es t = either (covers e.span t)
  where
    either : (x : Bool) → option_map (λ (f : Entry). f.rank) (first_of (cond x (e ∷ filter (λ (f : Entry). covers f.span t) es) (filter (λ (f : Entry). covers f.span t) es))) ≡ lesser (if x then Some e.rank else None) (rank_at es t)
    either true = first_cons e (first_of (filter (λ (f : Entry). covers f.span t) es))
    either false = refl

-- the least of two lists
pub rank_append : (xs ys : List Entry) (t : ℤ) → rank_at (xs ++ ys) t ≡ lesser (rank_at xs t) (rank_at ys t)
rank_append [] ys t = refl
rank_append (x ∷ xs) ys t =
    let here : Option Rank = if covers x.span t then Some x.rank else None in
    rank_cons x (xs ++ ys) t
    ∙ (ap (lesser here) (rank_append xs ys t)
    ∙ (sym (lesser_assoc here (rank_at xs t) (rank_at ys t)) ∙ ap (λ (r : Option Rank). lesser r (rank_at ys t)) (sym (rank_cons x xs t))))

-- the winner is the interval of that rank
pub winner_rank : (es : List Entry) (t : ℤ) → option_map winner_of_rank (rank_at es t) ≡ winner_at es t
winner_rank es t = of_first (first_of (filter (λ (e : Entry). covers e.span t) es))
  where
    of_first : (o : Option Entry) → option_map winner_of_rank (option_map (λ (e : Entry). e.rank) o) ≡ option_map winner_of o
    of_first None = refl
    of_first (Some e) = refl
