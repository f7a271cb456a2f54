-- Entries under a rule for ties: what governs is the winner of the entries as they are ranked.
use Rattle.std.proofs.Common.{◌≡◌, ℤ, Bool, true, false, cond, List, [], ◌∷◌, ◌++◌, refl, ap, filter, map}
use Rattle.std.specs.Option.{option_map}
use Rattle.adr_value.specs.declared.payload.PayloadType.{PayloadType}
use Rattle.std.proofs.Common.{ℕ}
use Rattle.adr_time.specs.Spans.{covers}
use Rattle.adr_model.specs.declared.entry.Entry.{Entry}
use Rattle.adr_model.specs.declared.entry.Tie.{Tie}
use Rattle.adr_model.specs.Answer.{bounds, end_instants}
use Rattle.adr_model.specs.Book.{Book}
use Rattle.adr_model.specs.Governor.{candidates, entries_for, first_of, governs, ranked_entries, winner_at, winner_of}
use Rattle.adr_model.specs.Rank.{ranked}

-- a rank says nothing of the instants
pub covering_ranked : (tie : Tie) (t : ℤ) (es : List Entry)
    → map (ranked tie) (filter (λ e. covers e.span t) es) ≡ filter (λ e. covers e.span t) (map (ranked tie) es)
covering_ranked tie t [] = refl
covering_ranked tie t (e ∷ es) = by (covers e.span t) (covering_ranked tie t es)
  where
    by : (c : Bool) → map (ranked tie) (filter (λ f. covers f.span t) es) ≡ filter (λ f. covers f.span t) (map (ranked tie) es)
        → map (ranked tie) (cond c (e ∷ filter (λ f. covers f.span t) es) (filter (λ f. covers f.span t) es))
        ≡ cond c (ranked tie e ∷ filter (λ f. covers f.span t) (map (ranked tie) es)) (filter (λ f. covers f.span t) (map (ranked tie) es))
    by true rest = ap (λ l. ranked tie e ∷ l) rest
    by false rest = rest

pub bounds_ranked : (tie : Tie) (es : List Entry) → bounds (map (ranked tie) es) ≡ bounds es
bounds_ranked tie [] = refl
bounds_ranked tie (e ∷ es) = ap (λ l. (e.span.start ∷ end_instants e.span.end) ++ l) (bounds_ranked tie es)

-- what governs wins among the entries as they are ranked
pub governs_wins : (tie : Tie) (book : Book) (id : List ℕ) (kind : PayloadType) (t : ℤ)
    → governs tie book id kind t ≡ winner_at (ranked_entries tie book id kind) t
unfolding governs candidates
governs_wins tie book id kind t = ap (λ es. option_map winner_of (first_of es)) (covering_ranked tie t (entries_for book id kind))

-- at each instant
pub governs_winners : (tie : Tie) (book : Book) (id : List ℕ) (kind : PayloadType)
    → (λ t. governs tie book id kind t) ≡ winner_at (ranked_entries tie book id kind)
governs_winners tie book id kind = λ i t. governs_wins tie book id kind t i
